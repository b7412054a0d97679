use Rattle.tick_set.proofs.TickListLemmas.{equal_iff}
use Rattle.tick_set.proofs.tick_list.TickListTickSet.equal.Goals as goal

pub returns : goal.returns
returns c =
    rw (c.eq.ensures, c.as_slice.ensures.value, c.as_slice-2.ensures.value, ← c.self.view_is, ← c.other.view_is)
    (equal_iff _ _ c.self.invariant c.other.invariant)
