use Rattle.std.proofs.Common.{◌≡◌, ◌∙◌, Some, None, arith}
use Rattle.std.specs.List.{position}
use Rattle.object_rows.specs.Rows.{is_set_of}
use Rattle.object_rows.proofs.RowLemmas.{part_is_new, part_joins}
use Rattle.object_rows.proofs.rows.put_part.Goals as goal

pub returns-in_default-clause-value : goal.returns-in_default-clause-value
returns-in_default-clause-value c =
    let none : position (is_set_of c.args.part) c.args.sets.now.items ≡ None =
    grind (arith, c.place_of.ensures.place, c.deref.ensures.value, c.in_default.is) in
    c.push_reserved.ensures.items ∙ part_is_new c.args.part c.args.sets.now.items none

pub returns-clause-value : goal.returns-clause-value
returns-clause-value c =
    let at : position (is_set_of c.args.part) c.args.sets.now.items ≡ Some c.in-Some.place =
    grind (arith, c.place_of.ensures.place, c.deref.ensures.value, c.in-Some.is) in
    part_joins c.args.part c.args.sets.now.items c.in-Some.place c.index.result.now c.joined.result at c.index.ensures c.joined.ensures
