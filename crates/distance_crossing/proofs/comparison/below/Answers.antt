use Rattle.std.proofs.Common.{ℕ, ◌-◌, ◌≤◌, ◌≡◌, ◌&&◌, ℤ, pos, ◌-ℤ◌, ◌≤ℤ◌, int_le, nat_le, nat_lt, subst, arith}
use Rattle.std.proofs.lemmas.Int.{ints}
use mir.Syntax.{w128}
use mir.Val.{to_z, of_z}
use Rattle.linear_crossing.specs.Relative.{squared_distance_at}
use Rattle.distance_crossing.proofs.BelowSquare.{span_from, at_most_in_span, below_runs}
use Rattle.distance_crossing.proofs.comparison.below.Goals as goal

pub overflow_sub-span : goal.overflow_sub-span
overflow_sub-span g c = span_from c.args.q.now c.args.w c.args.square c.args.at_most c.in-Some.span c.requires.at_most c.in-Some.is

pub overflow_sub-span-2 : goal.overflow_sub-span-2
overflow_sub-span-2 g c =
    omega (arith, span_from c.args.q.now c.args.w c.args.square c.args.at_most c.in-Some.span c.requires.at_most c.in-Some.is, c.in-Some.span.ordered)

pub stretch_below-from-requires-clause-at_most : goal.stretch_below-from-requires-clause-at_most
stretch_below-from-requires-clause-at_most g c =
    let span = c.in-Some.span in
    let w = c.args.w in
    let P : ℤ → Type 0 = λ z. (k : ℕ) → span.lo - w.lo ≤ k → k ≤ span.hi - w.lo → squared_distance_at c.args.q.now k ≤ℤ z in
    subst P (omega (arith, ints)) (at_most_in_span c.args.q.now w c.args.square c.args.at_most span c.requires.at_most c.in-Some.is)

pub returns-clause-runs : goal.returns-clause-runs
returns-clause-runs g c =
    let span = c.in-Some.span in
    let w = c.args.w in
    let found = c.stretch_below-from in
    let P : ℤ → Type 0 = λ z. (k : ℕ) → span.lo - w.lo ≤ k → k ≤ span.hi - w.lo
    → int_le (squared_distance_at c.args.q.now k) (z -ℤ pos 1) ≡ (nat_le found.result.0 k && nat_lt k found.result.1) in
    let passed : to_z w128 (of_z w128 c.args.square) ≡ c.args.square = omega (arith, ints) in
    below_runs c.args.q.now w c.args.square c.args.at_most span c.requires.at_most c.in-Some.is
    found.result.0 found.result.1 found.ensures.from found.ensures.upto (subst P passed found.ensures.below) c.stretch.result c.stretch.ensures.ticks
