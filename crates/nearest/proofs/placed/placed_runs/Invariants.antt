use Rattle.std.proofs.Common.{◌+◌, ◌-◌, ◌≤◌, is_some}
use Rattle.nearest.specs.Courses.{squared_along}
use Rattle.nearest.proofs.SweepLemmas.{IsSwept}
use Rattle.nearest.proofs.placed.placed_runs.Given as goal

abbrev pub invariant-joining : goal.invariant-joining
invariant-joining l = record {
  from : l.w.lo ≤ l.at;
  until : l.at ≤ l.w.hi + 1;
  ticks : IsSwept (λ t. is_some (squared_along l.fn.from l.fn.to t)) l.w.lo l.at l.runs;
}

abbrev pub decreases-joining : goal.decreases-joining
decreases-joining l = l.w.hi + 1 - l.at
