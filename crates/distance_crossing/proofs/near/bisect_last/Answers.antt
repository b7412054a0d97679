use Rattle.std.proofs.Common.{◌≡◌, ℕ, ◌-◌, ◌/◌, ◌≤◌, ℤ, int_le, nat_le, subst, arith}
use Rattle.std.proofs.lemmas.Int.{ints}
use mir.Syntax.{w128}
use mir.Val.{to_z, of_z}
use Rattle.linear_crossing.specs.Relative.{squared_distance_at}
use Rattle.distance_crossing.proofs.Bisection.{right_near, right_far, right_found, halved_more, near_at, far_at}
use Rattle.distance_crossing.proofs.near.bisect_last.Goals as goal

pub loop-low-preserved-then-at-limit : goal.loop-low-preserved-then-at-limit
loop-low-preserved-then-at-limit g c =
    let f = squared_distance_at c.args.q.now in
    let limit = to_z w128 (of_z w128 c.args.limit) in
    let so_far = c.loop-low.invariant in
    let middle = c.loop-low.high - (c.loop-low.high - c.loop-low.low) / 2 in (
      right_near f limit c.args.nearest c.args.last c.loop-low.low c.loop-low.high middle so_far.0 (omega arith) (omega arith)
          (near_at f middle c.at.result limit c.at.ensures.value (omega (arith, ints))),
      halved_more _ _ _ _ _ _ so_far.1 (omega arith) (omega arith) c.at.ensures.cost,
    )

pub loop-low-preserved : goal.loop-low-preserved
loop-low-preserved g c =
    let f = squared_distance_at c.args.q.now in
    let limit = to_z w128 (of_z w128 c.args.limit) in
    let so_far = c.loop-low.invariant in
    let middle = c.loop-low.high - (c.loop-low.high - c.loop-low.low) / 2 in (
      right_far f limit c.args.nearest c.args.last c.loop-low.low c.loop-low.high middle c.requires.rises so_far.0 (omega arith) (omega arith)
          (far_at f middle c.at.result limit c.at.ensures.value (omega (arith, ints))),
      halved_more _ _ _ _ _ _ so_far.1 (omega arith) (omega arith) c.at.ensures.cost,
    )

pub returns-clause-last : goal.returns-clause-last
returns-clause-last g c =
    let f = squared_distance_at c.args.q.now in
    let found = right_found f (to_z w128 (of_z w128 c.args.limit)) c.args.nearest c.args.last c.loop-low.low c.loop-low.high c.requires.rises c.loop-low.invariant.0 c.loop-low-test.false in
    let P : ℤ → Type 0 = λ z. (k : ℕ) → c.args.nearest ≤ k → k ≤ c.args.last → int_le (f k) z ≡ nat_le k c.loop-low.low in
    subst P (omega (arith, ints)) found
