use Rattle.std.proofs.Common.{◌+◌, ◌-◌, ◌≤◌}
use Rattle.plane_index.specs.Told.{lies_between}
use Rattle.plane_index.proofs.RunLemmas.{AreRunsTo}
use Rattle.plane_index.proofs.runs.runs_by_parts.Given as goal

abbrev pub invariant-parts : goal.invariant-parts
invariant-parts l = record {
  from : l.w.lo ≤ l.at;
  until : l.at ≤ l.w.hi + 1;
  ticks : AreRunsTo (lies_between l.fn.timeline l.fn.bounds.attribute l.fn.bounds.lo l.fn.bounds.hi) l.w.lo l.at l.runs;
}

abbrev pub decreases-parts : goal.decreases-parts
decreases-parts l = l.w.hi + 1 - l.at
