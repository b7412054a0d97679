use Rattle.std.proofs.Common.{◌≡◌, ℕ, take}
use Rattle.std.specs.List.{list_any}
use Rattle.tick_set.specs.TickList.{has}
use Rattle.tick_set.proofs.tick_list.TickListTickSet.union_all.Given as goal

abbrev pub invariant-loop-set : goal.invariant-loop-set
invariant-loop-set l = (t : ℕ) → has l.made t ≡ list_any (λ s. has s.now t) (take l.set-index l.sets)
