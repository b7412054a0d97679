use Rattle.std.proofs.Common.{◌≤◌, ◌∙◌, arith}
use Rattle.nearest.proofs.outset.first_slice.Goals as goal

pub halving-preserved : goal.halving-preserved
halving-preserved c =
    let first = c.halves.result.0 in
    let second = c.halves.result.1 in
    let meets = c.halves.ensures.meets in
    let last = c.halves.ensures.ends in
    let order : second.lo ≤ second.hi = second.ordered in
    let so_far = c.halving.invariant.ends in
    record {
      begins = c.halves.ensures.begins ∙ c.halving.invariant.begins;
      ends = omega (arith, meets, last, order, so_far);
    }

pub halving-smaller : goal.halving-smaller
halving-smaller c =
    let first = c.halves.result.0 in
    let second = c.halves.result.1 in
    let begins = c.halves.ensures.begins in
    let meets = c.halves.ensures.meets in
    let last = c.halves.ensures.ends in
    let order : second.lo ≤ second.hi = second.ordered in
    let first_order : first.lo ≤ first.hi = first.ordered in
    omega (arith, begins, meets, last, order, first_order)
