use Rattle.std.proofs.Common.{◌≡◌, ℕ, ◌&&◌, ◌||◌, nat_le, nat_lt}
use Rattle.tick_set.specs.TickList.{has}
use Rattle.tick_set.proofs.tick_list.TickList.push_span.Given as goal

abbrev pub invariant-loop-t : goal.invariant-loop-t
invariant-loop-t l = (u : ℕ) → has l.self u ≡ (has l.fn.self u || (nat_le l.fn.s.lo u && nat_lt u l.t))
