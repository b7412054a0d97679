-- Made for the crates above: what is asked over some ticks of a window.
use Rattle.std.proofs.Common.{ℕ, ◌+◌, ◌-◌, ◌<◌, ◌≤◌, arith}

pub shorter : (lo hi from upto limit : ℕ) → lo ≤ from → upto ≤ hi → hi - lo ≤ limit → upto - from ≤ limit
shorter lo hi from upto limit begins ends short = omega (arith, begins, ends, short)

pub not_after : (hi upto t : ℕ) → upto ≤ hi → t < upto + 1 → t < hi + 1
not_after hi upto t ends before = omega (arith, ends, before)
