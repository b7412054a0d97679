use Rattle.std.proofs.Common.{◌+◌, ◌-◌, ◌≤◌}
use Rattle.courses.specs.Parts.{AreBegun, epochs_of_each}
use Rattle.meaning.specs.Value.{term_value}
use Rattle.atoms.specs.Parts.{trace_by}
use Rattle.atoms.specs.ValueRuns.{AreMaximalRuns}
use Rattle.atoms.proofs.values.term_runs.Given as goal

-- the runs of the ticks before `at`
abbrev pub invariant-joining : goal.invariant-joining
invariant-joining l = record {
  from : l.traces.w.lo ≤ l.at;
  until : l.at ≤ l.traces.w.hi + 1;
  begun : AreBegun (epochs_of_each l.traces.timelines.now) l.at l.begun;
  runs : AreMaximalRuns (term_value (trace_by l.traces.variables.now (epochs_of_each l.traces.timelines.now)) l.term l.env) l.traces.w.lo l.at l.runs.items;
}

abbrev pub decreases-joining : goal.decreases-joining
decreases-joining l = l.traces.w.hi + 1 - l.at
