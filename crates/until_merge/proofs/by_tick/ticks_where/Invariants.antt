use Rattle.std.proofs.Common.{◌≡◌, ℕ, ◌<◌, ◌≤◌, true}
use Rattle.tick_set.specs.TickList.{has}
use Rattle.until_merge.proofs.by_tick.ticks_where.Given as goal

abbrev pub invariant-loop-t : goal.invariant-loop-t
invariant-loop-t g l = record {
  inside : (u : ℕ) → l.fn.w.lo ≤ u → u < l.t → goal.F-post g l.holds u (has l.made u);
  outside : (u : ℕ) → has l.made u ≡ true → (l.fn.w.lo ≤ u) × (u < l.t);
}
