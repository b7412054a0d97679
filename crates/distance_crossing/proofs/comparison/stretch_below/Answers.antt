use Rattle.std.proofs.Common.{◌≡◌, ◌+◌, ◌&&◌, false, nat_lt, sym, ◌∙◌, arith}
use Rattle.std.specs.Ordering.{int_eq}
use Rattle.std.proofs.lemmas.Bool.{and_left, and_right}
use Rattle.std.proofs.lemmas.Int.{ints}
use mir.Syntax.{w128}
use mir.Val.{to_z, of_z}
use Rattle.linear_crossing.specs.Relative.{squared_distance_at}
use Rattle.distance_crossing.proofs.BelowSquare.{below_none, below_some}
use Rattle.distance_crossing.proofs.comparison.stretch_below.Goals.{else-at_first-via-then-at_first+then-at_end+else-stays, else-at_first-via-then-at_first+else-at_end, else-at_first-via-else-at_first}
use Rattle.distance_crossing.proofs.comparison.stretch_below.Goals as goal

pub returns-then-stays-clause-below : goal.returns-then-stays-clause-below
returns-then-stays-clause-below g c =
    below_none c.args.q.now c.args.square c.args.first c.args.end c.requires.at_most (to_z w128 (of_z w128 c.args.square)) (omega (arith, ints))
    (sym c.stays.ensures.between ∙ c.if-stays.true)

pub returns-clause-below : goal.returns-clause-below
returns-clause-below g c =
    let ends = c.are_at-at_first in
    let passed = to_z w128 (of_z w128 c.args.square) in
    let both = ends.result.0 && ends.result.1 in
    let not_all : (both && (nat_lt (c.args.first + 1) c.args.end && int_eq (squared_distance_at c.args.q.now (c.args.first + 1)) passed)) ≡ false
    = elim c.else-at_first.branch [
      | else-at_first-via-then-at_first+then-at_end+else-stays w ↦ and_right both _ (sym w.stays.ensures.between ∙ w.if-stays.false)
      | else-at_first-via-then-at_first+else-at_end w ↦ and_left both _ (and_right ends.result.0 ends.result.1 w.if-at_end.false)
      | else-at_first-via-else-at_first w ↦ and_left both _ (and_left ends.result.0 ends.result.1 w.if-at_first.false)
    ] in
    below_some c.args.q.now c.args.square c.args.first c.args.end c.requires.at_most passed (omega (arith, ints)) ends.result.0 ends.result.1 ends.ensures.first ends.ensures.end not_all
    c.from.result c.from-2.result c.from.ensures c.from-2.ensures
