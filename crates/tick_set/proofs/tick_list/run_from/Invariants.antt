use Rattle.std.proofs.Common.{length}
use Rattle.tick_set.proofs.TickListLemmas.{RunSoFar}
use Rattle.tick_set.proofs.tick_list.run_from.Given as goal

abbrev pub invariant-loop-t : goal.invariant-loop-t
invariant-loop-t l = RunSoFar l.first l.later l.hi l.rest

abbrev pub decreases-loop-t : goal.decreases-loop-t
decreases-loop-t l = length l.rest
