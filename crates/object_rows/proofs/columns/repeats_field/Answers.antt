use Rattle.std.proofs.Common.{◌∙◌, sym}
use Rattle.csv.specs.Records.{fields_of}
use Rattle.object_rows.proofs.ColumnLemmas.{repeats_here, repeats_later}
use Rattle.object_rows.proofs.columns.repeats_field.Goals as goal

pub returns-then-has_field : goal.returns-then-has_field
returns-then-has_field c =
    repeats_here (fields_of c.args.row.now) c.fields.i c.field_of.result.now _ c.field_of.ensures (sym c.if-has_field.true ∙ c.has_field.ensures)
    c.fields.invariant

pub fields-preserved : goal.fields-preserved
fields-preserved c =
    repeats_later (fields_of c.args.row.now) c.fields.i c.field_of.result.now c.field_of.ensures (sym c.if-has_field.false ∙ c.has_field.ensures)
    ∙ c.fields.invariant
