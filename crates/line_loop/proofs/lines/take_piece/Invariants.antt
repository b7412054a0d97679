use Rattle.std.proofs.Common.{◌≡◌, ℕ, ◌+◌, ◌-◌, ◌≤◌, List, length, take}
use Rattle.line_loop.specs.Kept.{kept_part}
use Rattle.line_loop.specs.Lines.{ended_from, open_from}
use Rattle.line_loop.specs.Spending.{total_cost}
use Rattle.line_loop.specs.Stop.{Point, IsAt}
use Rattle.line_loop.specs.Gathered.{Gathers}
use Rattle.line_loop.proofs.lines.take_piece.Given as goal

-- the lines that end in the bytes taken so far are answered, and what these bytes begin is kept
abbrev pub invariant-lines : goal.invariant-lines
invariant-lines g l = record {
  within : l.taken ≤ length l.piece;
  longest : l.line.longest ≡ g.H.Handler.LONGEST;
  sink_faults : g.K.Sink.faults l.sink ≡ g.K.Sink.faults l.initial.sink;
  context_faults : g.H.Handler.faults l.context ≡ g.H.Handler.faults l.initial.context;
  gathers : (start : Point g.H.Handler.State) (begun : List ℕ) →
      IsAt start (g.H.Handler.state l.initial.handler l.initial.context) (g.K.Sink.written l.initial.sink) →
      l.initial.line.kept ≡ kept_part g.H.Handler.LONGEST begun →
      Gathers g.H.Handler.machine start (ended_from begun (take l.taken l.piece)) (g.H.Handler.state l.handler l.context) (g.K.Sink.written l.sink) l.replies.items;
  kept : (begun : List ℕ) → l.initial.line.kept ≡ kept_part g.H.Handler.LONGEST begun →
      l.line.kept ≡ kept_part g.H.Handler.LONGEST (open_from begun (take l.taken l.piece));
  spent : (start : Point g.H.Handler.State) (begun : List ℕ) →
      IsAt start (g.H.Handler.state l.initial.handler l.initial.context) (g.K.Sink.written l.initial.sink) →
      l.initial.line.kept ≡ kept_part g.H.Handler.LONGEST begun →
      g.H.Handler.spent l.handler ≤ g.H.Handler.spent l.initial.handler
      + total_cost g.H.Handler.machine g.H.Handler.cost start.state (ended_from begun (take l.taken l.piece));
}

abbrev pub decreases-lines : goal.decreases-lines
decreases-lines g l = length l.piece - l.taken
