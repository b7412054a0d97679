use Rattle.std.proofs.Common.{arith}
use Rattle.tick_set.proofs.TickListLemmas.{IsAscendingFrom-push}
use Rattle.tick_set.proofs.tick_list.TickList.push.Goals as goal

pub invariant_of-self-2 : goal.invariant_of-self-2
invariant_of-self-2 c = rw c.in_ok-push.ensures.items (IsAscendingFrom-push _ 0 _ c.self.invariant (rw c.self.view_is c.requires.above) (omega arith) c.requires.in_range)
