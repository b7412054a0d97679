use Rattle.std.proofs.Common.{◌+◌, ◌-◌, ◌≤◌, nat_lt}
use Rattle.nearest.specs.Depth.{AreComeBy, count_to}
use Rattle.nearest.proofs.SweepLemmas.{IsSwept}
use Rattle.nearest.proofs.sweep.swept.Given as goal

abbrev pub invariant-sweeping : goal.invariant-sweeping
invariant-sweeping l = record {
  from : l.w.lo ≤ l.at;
  until : l.at ≤ l.w.hi + 1;
  begun : AreComeBy l.starts l.at l.begun;
  ended : AreComeBy l.ends l.at l.ended;
  ticks : IsSwept (λ t. nat_lt (count_to l.starts t) (count_to l.ends t + l.k)) l.w.lo l.at l.runs;
}

abbrev pub decreases-sweeping : goal.decreases-sweeping
decreases-sweeping l = l.w.hi + 1 - l.at
