use Rattle.std.proofs.Common.{◌≡◌, ◌+◌, ◌*◌, ◌≤◌, ◌+ℤ◌, unsigned_abs, length}
use Rattle.fixed_point.specs.declared.number.TheConstants.{SLOPE_LIMIT}
use Rattle.motion.specs.Function.{legs_rise}
use Rattle.motion.proofs.legs.legs_rise.Given as goal

-- what has risen and what the legs that are left will rise make the whole
abbrev pub invariant-loop-leg : goal.invariant-loop-leg
invariant-loop-leg l = record {
  whole : l.risen +ℤ legs_rise l.rest l.last l.left ≡ legs_rise l.firsts l.last l.ticks;
  near : unsigned_abs l.risen + SLOPE_LIMIT * l.left ≤ SLOPE_LIMIT * l.ticks;
}

abbrev pub decreases-loop-leg : goal.decreases-loop-leg
decreases-loop-leg l = length l.rest
