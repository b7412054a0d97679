use Rattle.std.proofs.Common.{◌+◌, length}
use Rattle.tick_set.proofs.TickListLemmas.{MergedSoFar}
use Rattle.tick_set.proofs.tick_list.merged.Given as goal

abbrev pub invariant-loop-t : goal.invariant-loop-t
invariant-loop-t l = MergedSoFar l.operation l.first l.second l.made l.rest_first l.rest_second

abbrev pub decreases-loop-t : goal.decreases-loop-t
decreases-loop-t l = length l.rest_first + length l.rest_second
