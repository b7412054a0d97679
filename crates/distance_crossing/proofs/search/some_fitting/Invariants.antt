use Rattle.std.proofs.Common.{◌-◌}
use Rattle.distance_crossing.specs.Trials.{fit_at}
use Rattle.distance_crossing.proofs.TrialLemmas.{IsBounded}
use Rattle.distance_crossing.proofs.search.some_fitting.Given as goal

abbrev pub invariant-loop-low : goal.invariant-loop-low
invariant-loop-low l = IsBounded (fit_at l.m) l.fn.first l.fn.last l.low l.until

abbrev pub decreases-loop-low : goal.decreases-loop-low
decreases-loop-low l = l.until - l.low
