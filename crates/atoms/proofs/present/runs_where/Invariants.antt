use Rattle.std.proofs.Common.{◌+◌, ◌-◌, ◌≤◌, is_some}
use Rattle.motion.specs.Timeline.{state_at}
use Rattle.atoms.specs.Presence.{is_as}
use Rattle.atoms.specs.Gathered.{IsGathered}
use Rattle.atoms.proofs.present.runs_where.Given as goal

abbrev pub invariant-joining : goal.invariant-joining
invariant-joining l = record {
  from : l.w.lo ≤ l.at;
  until : l.at ≤ l.w.hi + 1;
  ticks : IsGathered (λ t. is_as l.there (is_some (state_at l.timeline t))) l.w.lo l.at l.runs;
}

abbrev pub decreases-joining : goal.decreases-joining
decreases-joining l = l.w.hi + 1 - l.at
