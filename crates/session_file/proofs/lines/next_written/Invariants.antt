-- what was passed over leaves the reading as it is
use Rattle.std.proofs.Common.{◌≡◌, ◌+◌, ◌^◌, ◌≤◌, length}
use Rattle.std.specs.Str.Lines.{lines}
use Rattle.session_file.specs.declared.counts.Progress.{Progress}
use Rattle.session_file.specs.Reading.{read_on}
use Rattle.session_file.proofs.lines.next_written.Given as goal

abbrev pub invariant-lines : goal.invariant-lines
invariant-lines l = record {
  same : (p : Progress) → read_on p l.first (lines l.text) ≡ read_on p l.number (lines l.rest);
  room : l.number + length l.rest ≤ 2 ^ 63;
}

abbrev pub decreases-lines : goal.decreases-lines
decreases-lines l = length l.rest
