use Rattle.tick_set.proofs.TickListLemmas.{none_iff_len}
use Rattle.tick_set.proofs.tick_list.TickListTickSet.is_empty.Goals as goal

pub returns : goal.returns
returns c = rw (c.is_empty.ensures, ← c.self.view_is) (none_iff_len c.self.inside.ticks.items _ c.self.inside.ticks.ok.0)
