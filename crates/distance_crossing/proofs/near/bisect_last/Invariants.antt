use Rattle.std.proofs.Common.{◌-◌}
use Rattle.linear_crossing.specs.Relative.{squared_distance_at}
use Rattle.distance_crossing.specs.Ends.{BracketsLast}
use Rattle.distance_crossing.proofs.Bisection.{IsHalved}
use Rattle.distance_crossing.proofs.near.bisect_last.Given as goal

abbrev pub invariant-loop-low : goal.invariant-loop-low
invariant-loop-low g l = BracketsLast (squared_distance_at l.q) l.fn.limit l.fn.nearest l.fn.last l.low l.high × IsHalved (l.fn.round.1 - l.fn.round.0) (l.high - l.low) l.fn.probes l.probes

abbrev pub decreases-loop-low : goal.decreases-loop-low
decreases-loop-low g l = l.high - l.low
