use Rattle.std.proofs.Common.{ℤ, ◌-◌, ◌≤◌}
use Rattle.convex.specs.Parabola.{parabola}
use Rattle.exact.specs.Rising.{FallsTo, RisesIn}
use Rattle.nearest.proofs.valley.bisected.Given as goal

abbrev pub invariant-halves : goal.invariant-halves
invariant-halves l = record {
  order : l.low ≤ l.high;
  bound : l.high ≤ l.last;
  falls : (constant : ℤ) → FallsTo (parabola l.rise.quadratic l.rise.linear constant) l.low;
  rises : (constant : ℤ) → RisesIn (parabola l.rise.quadratic l.rise.linear constant) l.high l.last;
}

abbrev pub decreases-halves : goal.decreases-halves
decreases-halves l = l.high - l.low
