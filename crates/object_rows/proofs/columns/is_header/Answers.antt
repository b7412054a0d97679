use Rattle.std.proofs.Common.{◌≡◌, ◌∙◌, None, true, false, refl, sym, arith}
use Rattle.std.specs.Str.{bytes_eq}
use Rattle.csv.specs.Records.{field_at, fields_of}
use Rattle.object_rows.specs.Columns.{name_field}
use Rattle.object_rows.proofs.ColumnLemmas.{first_row, no_first}
use Rattle.object_rows.proofs.columns.is_header.Goals as goal

pub returns-in_default : goal.returns-in_default
returns-in_default c =
    let none : None ≡ field_at (fields_of c.args.row.now) 0 = grind (arith, c.get.ensures.value, c.in_default.is) in
    no_first c.args.attrs.now (fields_of c.args.row.now) none

pub returns-then-ne : goal.returns-then-ne
returns-then-ne c =
    let other : bytes_eq c.in-Some.first.now name_field ≡ false = grind (arith, c.ne.ensures, c.as_slice.ensures, c.if-ne.true) in
    first_row c.args.attrs.now (fields_of c.args.row.now) c.in-Some.first.now false _ _ c.in-Some.ensures.value other refl refl

pub returns : goal.returns
returns c =
    let named : bytes_eq c.in-Some.first.now name_field ≡ true = grind (arith, c.ne.ensures, c.as_slice.ensures, c.if-ne.false) in
    first_row c.args.attrs.now (fields_of c.args.row.now) c.in-Some.first.now true true c.repeats_field.result c.in-Some.ensures.value named
    (sym c.if-not-have_columns.false ∙ c.have_columns.ensures) c.repeats_field.ensures
