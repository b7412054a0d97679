use Rattle.std.proofs.Common.{◌≡◌, ◌≤◌, ◌+◌, length}
use Rattle.std.specs.Prelude.{fold}
use Rattle.outside.specs.Shelf.{texts_of}
use Rattle.line_meaning.specs.Step.{base}
use Rattle.domino_run.specs.Looks.{looks_of_lines}
use Rattle.domino_run.specs.Summary.{counted_line, nothing_counted}
use Rattle.domino_run.proofs.summary.tell_lines.Given as goal

-- What is counted so far goes on to what all lines come to, there are as many lines as at first, and those that are left
-- may look as often as all may, but for the looks so far.
abbrev pub invariant-lines : goal.invariant-lines
invariant-lines g l =
    (fold counted_line (base l.workload.session (texts_of l.workload.shelf), l.tally) l.workload.lines
    ≡ fold counted_line (base l.initial.workload.session (texts_of l.initial.workload.shelf), nothing_counted) l.initial.workload.lines)
    × (l.tally.lines + length l.workload.lines ≡ length l.initial.workload.lines)
    × (l.counters.reads + looks_of_lines (base l.workload.session (texts_of l.workload.shelf)) l.workload.lines
    ≤ l.initial.counters.reads + looks_of_lines (base l.initial.workload.session (texts_of l.initial.workload.shelf)) l.initial.workload.lines)

abbrev pub decreases-lines : goal.decreases-lines
decreases-lines g l = length l.workload.lines
