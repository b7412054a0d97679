use Rattle.std.proofs.Common.{length}
use Rattle.tick_set.proofs.TickListLemmas.{FilledSoFar}
use Rattle.tick_set.proofs.tick_list.TickListTickSet.of_runs.Given as goal

abbrev pub invariant-loop-s : goal.invariant-loop-s
invariant-loop-s l = FilledSoFar l.runs l.made l.rest

abbrev pub decreases-loop-s : goal.decreases-loop-s
decreases-loop-s l = length l.rest
