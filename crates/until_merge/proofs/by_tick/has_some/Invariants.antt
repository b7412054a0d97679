use Rattle.std.proofs.Common.{◌≡◌, ℕ, ◌<◌, ◌≤◌, false}
use Rattle.tick_set.specs.TickList.{has}
use Rattle.until_merge.proofs.by_tick.has_some.Given as goal

abbrev pub invariant-loop-t : goal.invariant-loop-t
invariant-loop-t l = (u : ℕ) → l.from ≤ u → u < l.t → has l.set u ≡ false
