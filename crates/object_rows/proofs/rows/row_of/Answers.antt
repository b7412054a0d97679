use Rattle.std.proofs.Common.{◌≡◌, ◌∙◌, Some, None, drop, sym, arith}
use Rattle.std.specs.Option.{option_map}
use Rattle.csv.specs.Records.{field_at, fields_of}
use Rattle.object_rows.specs.Rows.{parts_of, settings_of}
use Rattle.object_rows.proofs.FieldLemmas.{field_within}
use Rattle.object_rows.proofs.RowLemmas.{row_by_parts, row_empty, row_there, row_unnamed}
use Rattle.object_rows.proofs.rows.row_of.Goals as goal

pub returns-in_default-clause-ok : goal.returns-in_default-clause-ok
returns-in_default-clause-ok c =
    let none : None ≡ field_at (fields_of c.args.row.now) 0 = grind (arith, c.get.ensures.value, c.in_default.is) in
    row_empty c.args.columns.now (fields_of c.args.row.now) none

pub returns-in_default-object_name-clause-ok : goal.returns-in_default-object_name-clause-ok
returns-in_default-object_name-clause-ok c =
    row_unnamed c.args.columns.now (fields_of c.args.row.now) c.in-Some.field.now c.in-Some.ensures.value
    (sym c.in_default-object_name.is ∙ c.object_name.ensures)

pub read_settings-requires-clause-named : goal.read_settings-requires-clause-named
read_settings-requires-clause-named c = field_within (fields_of c.args.row.now) 0 c.in-Some.field.now c.in-Some.ensures.value

pub returns-clause-ok : goal.returns-clause-ok
returns-clause-ok c =
    let given : Some c.in_ok-sets.sets ≡ option_map settings_of (parts_of c.args.columns.now (drop 1 (fields_of c.args.row.now))) =
    grind (arith, c.read_settings.ensures.right, c.if-not-read_settings.false, c.in_ok-sets.ensures, c.deref.ensures.value) in
    row_by_parts c.args.columns.now (fields_of c.args.row.now) c.in-Some.field.now c.in-Some-object_name.name c.in_ok-sets.sets
    c.in-Some.ensures.value (sym c.in-Some-object_name.is ∙ c.object_name.ensures) given

pub returns-in_err-sets-clause-memory : goal.returns-in_err-sets-clause-memory
returns-in_err-sets-clause-memory c =
    let given : Some c.read_settings.new.sets.items ≡ option_map settings_of (parts_of c.args.columns.now (drop 1 (fields_of c.args.row.now))) =
    grind (arith, c.read_settings.ensures.right, c.if-not-read_settings.false) in
    row_there c.args.columns.now (fields_of c.args.row.now) c.in-Some.field.now c.in-Some-object_name.name c.read_settings.new.sets.items
    c.from_residual.result c.in-Some.ensures.value (sym c.in-Some-object_name.is ∙ c.object_name.ensures) given
