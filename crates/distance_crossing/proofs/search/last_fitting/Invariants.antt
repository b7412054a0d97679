use Rattle.std.proofs.Common.{◌-◌}
use Rattle.distance_crossing.specs.Trials.{fit_at}
use Rattle.distance_crossing.proofs.TrialLemmas.{IsLast}
use Rattle.distance_crossing.proofs.search.last_fitting.Given as goal

abbrev pub invariant-loop-low : goal.invariant-loop-low
invariant-loop-low l = IsLast (fit_at l.m) l.fn.found l.fn.last l.low l.high

abbrev pub decreases-loop-low : goal.decreases-loop-low
decreases-loop-low l = l.high - l.low
