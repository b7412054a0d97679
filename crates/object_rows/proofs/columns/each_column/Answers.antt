use Rattle.std.proofs.Common.{◌∙◌, sym, ap}
use Rattle.csv.specs.Records.{fields_of}
use Rattle.object_rows.proofs.ColumnLemmas.{column_next, column_stop, columns_left}
use Rattle.object_rows.proofs.columns.each_column.Goals as goal

pub returns-in-None : goal.returns-in-None
returns-in-None c =
    column_stop c.args.attrs.now (fields_of c.args.row.now) c.fields.i c.field_of.result.now c.fields.columns.items _ c.field_of.ensures
    (sym c.in-None.is ∙ c.column_of.ensures) c.fields.invariant

pub fields-preserved : goal.fields-preserved
fields-preserved c =
    column_next c.args.attrs.now (fields_of c.args.row.now) c.fields.i c.field_of.result.now c.in-Some.column c.fields.columns.items _ c.field_of.ensures
    (sym c.in-Some.is ∙ c.column_of.ensures) c.fields.invariant
    ∙ ap (columns_left c.args.attrs.now (fields_of c.args.row.now) c.fields.i) (sym c.in_ok-push-in-Some.ensures.items)
