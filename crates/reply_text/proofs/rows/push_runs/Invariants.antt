use Rattle.std.proofs.Common.{◌≡◌, ◌++◌, length}
use Rattle.std.specs.List.{flat_map}
use Rattle.tick_set.specs.Runs.{pairs}
use Rattle.line_meaning.specs.Reply.{run_text}
use Rattle.reply_text.specs.Begins.{Begins}
use Rattle.reply_text.proofs.rows.push_runs.Given as goal

-- what was written and what the runs that are left spell make the whole
abbrev pub invariant-loop-run : goal.invariant-loop-run
invariant-loop-run l = record {
  whole : l.out.items ++ flat_map run_text (pairs l.rest) ≡ l.fn.out.items ++ flat_map run_text (pairs l.runs);
  begins : Begins l.fn.out.items l.out.items;
}

abbrev pub decreases-loop-run : goal.decreases-loop-run
decreases-loop-run l = length l.rest
