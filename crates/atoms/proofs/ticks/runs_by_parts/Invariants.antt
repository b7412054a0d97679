use Rattle.std.proofs.Common.{◌+◌, ◌*◌, ◌-◌, ◌≤◌}
use Rattle.courses.specs.Parts.{AreBegun, epochs_of_each}
use Rattle.meaning.specs.Atom.{atom_holds}
use Rattle.atoms.specs.Gathered.{IsGathered}
use Rattle.atoms.specs.Parts.{pieces_asked, trace_by}
use Rattle.atoms.specs.Probes.{probe_limit}
use Rattle.atoms.proofs.ticks.runs_by_parts.Given as goal

-- the ticks before `at` are settled, and the probes so far are of the pieces that are passed
abbrev pub invariant-joining : goal.invariant-joining
invariant-joining g l = record {
  from : l.traces.w.lo ≤ l.at;
  until : l.at ≤ l.traces.w.hi + 1;
  begun : AreBegun (epochs_of_each l.traces.timelines.now) l.at l.begun;
  ticks : IsGathered (atom_holds l.regions (trace_by l.traces.variables.now (epochs_of_each l.traces.timelines.now)) l.a l.env) l.traces.w.lo l.at l.runs;
  most : l.probes + probe_limit l.a (l.traces.w.hi - l.traces.w.lo) * pieces_asked l.asked (epochs_of_each l.traces.timelines.now) l.at l.traces.w.hi
      ≤ l.initial.probes + probe_limit l.a (l.traces.w.hi - l.traces.w.lo) * pieces_asked l.asked (epochs_of_each l.traces.timelines.now) l.traces.w.lo l.traces.w.hi;
}

abbrev pub decreases-joining : goal.decreases-joining
decreases-joining g l = l.traces.w.hi + 1 - l.at
