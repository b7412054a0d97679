use Rattle.std.proofs.Common.{◌≡◌, drop}
use Rattle.motion.specs.Function.{legs_rest}
use Rattle.motion.proofs.legs.leg_in_force.Given as goal

abbrev pub invariant-loop-ended : goal.invariant-loop-ended
invariant-loop-ended l = legs_rest (drop l.ended l.firsts) l.left ≡ legs_rest l.firsts l.ticks
