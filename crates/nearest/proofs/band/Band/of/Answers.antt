use Rattle.std.proofs.Common.{◌≡◌, ℕ, ◌-◌, ℤ, ◌≤ℤ◌, of_z, to_z, arith}
use Rattle.std.specs.Int.{w128}
use Rattle.std.proofs.lemmas.Int.{ints}
use Rattle.nearest.specs.Order.{separation_after}
use Rattle.nearest.proofs.SquareLemmas.{at_most_size, between_bounds}
use Rattle.nearest.proofs.band.Band.of.Goals as goal

pub returns-clause-bounds : goal.returns-clause-bounds
returns-clause-bounds c = λ t begun up_to.
    let slice = c.args.slice in
    let s = c.args.separation in
    let linear = s.linear_size in
    let passed : to_z w128 (of_z w128 s.linear) ≡ s.linear = omega (arith, ints, linear) in
    let falls = rw passed at c.turn-lowest.ensures.falls s.constant in
    let rises = rw passed at c.turn-lowest.ensures.rises s.constant in
    let f : ℕ → ℤ = separation_after s in
    let at_first = c.value_after-first.ensures in
    let at_end = c.value_after-end.ensures in
    let at_lowest = c.value_after.ensures in
    let first : f 0 ≤ℤ c.greater.result = omega (arith, ints, at_first, c.greater.ensures.0) in
    let end : f (slice.hi - slice.lo) ≤ℤ c.greater.result = omega (arith, ints, at_end, c.greater.ensures.1) in
    let both =
    between_bounds f c.turn-lowest.result (slice.hi - slice.lo) c.greater.result falls rises c.turn-lowest.ensures.bound first end (t - slice.lo)
    (omega (arith, up_to)) in
    let low = both.0 in
    let high = both.1 in
    let size = at_most_size c.greater.result in
    let is = c.unsigned_abs.ensures in
    (omega (arith, ints, low, at_lowest), omega (arith, ints, high, size, is))
