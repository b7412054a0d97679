use Rattle.std.proofs.Common.{◌≡◌, ◌-◌, of_z, to_z, refl, arith}
use Rattle.std.specs.Int.{w128}
use Rattle.std.proofs.lemmas.Int.{ints, to_z-of_z}
use Rattle.nearest.specs.Order.{difference_after}
use Rattle.nearest.proofs.LowLemmas.{low_nowhere, low_run}
use Rattle.nearest.proofs.low.inside.Goals as goal

pub returns-then-limit-at : goal.returns-then-limit-at
returns-then-limit-at c =
    let d = c.args.d.now in
    let size = d.linear_size in
    let passed : to_z w128 (of_z w128 d.linear) ≡ d.linear = omega (arith, ints, size) in
    let falls = rw passed at c.turn-lowest.ensures.falls d.constant in
    let rises = rw passed at c.turn-lowest.ensures.rises d.constant in
    low_nowhere (difference_after d) c.args.limit c.turn-lowest.result (c.args.w.hi - c.args.w.lo) falls rises c.turn-lowest.ensures.bound c.args.w refl
    (omega (arith, ints, c.at.ensures))

pub returns-in-Some : goal.returns-in-Some
returns-in-Some c =
    let d = c.args.d.now in
    let size = d.linear_size in
    let passed : to_z w128 (of_z w128 d.linear) ≡ d.linear = omega (arith, ints, size) in
    let falls = rw passed at c.turn-lowest.ensures.falls d.constant in
    let rises = rw passed at c.turn-lowest.ensures.rises d.constant in
    let first = rw (to_z-of_z w128 c.args.limit c.ranges.limit) at c.in-Some.ensures.first in
    let end = rw (to_z-of_z w128 c.args.limit c.ranges.limit) at c.in-Some.ensures.end in
    low_run (difference_after d) c.args.limit c.turn-lowest.result (c.args.w.hi - c.args.w.lo) falls rises c.turn-lowest.ensures.bound c.args.w _ c.in-Some.first
    c.in-Some.end refl first end refl refl

pub returns-in-None : goal.returns-in-None
returns-in-None c = rw (to_z-of_z w128 c.args.limit c.ranges.limit) at c.at_most.ensures
