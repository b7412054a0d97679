use Rattle.std.proofs.Common.{◌≡◌, ◌∙◌, true, false, is_some, arith}
use Rattle.csv.specs.Records.{fields_of}
use Rattle.object_rows.proofs.ColumnLemmas.{more_columns, no_column}
use Rattle.object_rows.proofs.columns.have_columns.Goals as goal

pub returns-then-is_none : goal.returns-then-is_none
returns-then-is_none c =
    let none : is_some c.column_of.result ≡ false = grind (arith, c.is_none.ensures, c.if-is_none.true) in
    no_column c.args.attrs.now (fields_of c.args.row.now) c.fields.i c.field_of.result.now c.column_of.result _ c.field_of.ensures c.column_of.ensures
    none c.fields.invariant

pub fields-preserved : goal.fields-preserved
fields-preserved c =
    let some : is_some c.column_of.result ≡ true = grind (arith, c.is_none.ensures, c.if-is_none.false) in
    more_columns c.args.attrs.now (fields_of c.args.row.now) c.fields.i c.field_of.result.now c.column_of.result c.field_of.ensures c.column_of.ensures some
    ∙ c.fields.invariant
