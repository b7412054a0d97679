use Rattle.std.proofs.Common.{◌≡◌, ℕ, ◌-◌, ◌≤◌, List, ◌++◌, length, take, Some}
use Rattle.line_loop.proofs.replies.write_all.Given as goal

abbrev pub invariant-loop-count : goal.invariant-loop-count
invariant-loop-count g l = record {
  within : l.count ≤ length l.bytes;
  faults : g.K.Sink.faults l.sink ≡ g.K.Sink.faults l.initial.sink;
  written : (written : List ℕ) → g.K.Sink.written l.initial.sink ≡ Some written → g.K.Sink.written l.sink ≡ Some (written ++ take l.count l.bytes);
}

abbrev pub decreases-loop-count : goal.decreases-loop-count
decreases-loop-count g l = length l.bytes - l.count
