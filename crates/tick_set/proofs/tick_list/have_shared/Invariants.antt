use Rattle.std.proofs.Common.{◌+◌, length}
use Rattle.tick_set.proofs.TickListLemmas.{SharedSoFar}
use Rattle.tick_set.proofs.tick_list.have_shared.Given as goal

abbrev pub invariant-both : goal.invariant-both
invariant-both l = SharedSoFar l.first l.second l.rest_first l.rest_second

abbrev pub decreases-both : goal.decreases-both
decreases-both l = length l.rest_first + length l.rest_second
