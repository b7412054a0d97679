use Rattle.std.proofs.Common.{◌≡◌, ℕ, ◌+◌, ◌-◌, ◌≤◌, List, [], take, Some}
use Rattle.line_loop.specs.Kept.{kept_part}
use Rattle.line_loop.specs.Lines.{ended_lines, open_line}
use Rattle.line_loop.specs.Spending.{total_cost}
use Rattle.line_loop.specs.Stop.{Point, IsAt, point_after}
use Rattle.line_loop.specs.Ending.{HasTaken}
use Rattle.line_loop.proofs.run.run_lines.Given as goal

-- the bytes taken so far are answered as far as lines end in them, and what they begin is kept
abbrev pub invariant-reading : goal.invariant-reading
invariant-reading g l = record {
  within : l.taken ≤ l.limit;
  longest : l.line.longest ≡ g.H.Handler.LONGEST;
  none : l.replies.items ≡ [];
  source_faults : g.S.Source.faults l.source ≡ g.S.Source.faults l.initial.source;
  sink_faults : g.K.Sink.faults l.sink ≡ g.K.Sink.faults l.initial.sink;
  context_faults : g.H.Handler.faults l.context ≡ g.H.Handler.faults l.initial.context;
  left : (bytes : List ℕ) → g.S.Source.left l.initial.source ≡ Some bytes → HasTaken bytes l.taken (g.S.Source.left l.source);
  reached : (start : Point g.H.Handler.State) (bytes : List ℕ) →
      IsAt start (g.H.Handler.state l.initial.handler l.initial.context) (g.K.Sink.written l.initial.sink) →
      g.S.Source.left l.initial.source ≡ Some bytes →
      IsAt (point_after g.H.Handler.machine start (ended_lines (take l.taken bytes))) (g.H.Handler.state l.handler l.context) (g.K.Sink.written l.sink);
  kept : (bytes : List ℕ) → g.S.Source.left l.initial.source ≡ Some bytes →
      l.line.kept ≡ kept_part g.H.Handler.LONGEST (open_line (take l.taken bytes));
  spent : (start : Point g.H.Handler.State) (bytes : List ℕ) →
      IsAt start (g.H.Handler.state l.initial.handler l.initial.context) (g.K.Sink.written l.initial.sink) →
      g.S.Source.left l.initial.source ≡ Some bytes →
      g.H.Handler.spent l.handler ≤ g.H.Handler.spent l.initial.handler
      + total_cost g.H.Handler.machine g.H.Handler.cost start.state (ended_lines (take l.taken bytes));
}

abbrev pub decreases-reading : goal.decreases-reading
decreases-reading g l = l.limit - l.taken
