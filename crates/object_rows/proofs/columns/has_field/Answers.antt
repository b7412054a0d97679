use Rattle.std.proofs.Common.{◌∙◌, sym}
use Rattle.csv.specs.Records.{fields_of}
use Rattle.object_rows.proofs.ColumnLemmas.{has_here, has_later}
use Rattle.object_rows.proofs.columns.has_field.Goals as goal

pub returns-then-eq : goal.returns-then-eq
returns-then-eq c =
    has_here (fields_of c.args.row.now) c.fields.i c.args.field.now c.field_of.result.now _ c.field_of.ensures (sym c.eq.ensures ∙ c.if-eq.true)
    c.fields.invariant

pub fields-preserved : goal.fields-preserved
fields-preserved c =
    has_later (fields_of c.args.row.now) c.fields.i c.args.field.now c.field_of.result.now c.field_of.ensures (sym c.eq.ensures ∙ c.if-eq.false)
    ∙ c.fields.invariant
