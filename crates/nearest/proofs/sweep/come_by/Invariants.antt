use Rattle.std.proofs.Common.{ℕ, ◌-◌, ◌<◌, ◌≤◌, length, slice_index}
use Rattle.nearest.proofs.sweep.come_by.Given as goal

abbrev pub invariant-coming : goal.invariant-coming
invariant-coming l = record {
  within : l.come ≤ length l.ticks;
  come : (k : ℕ) → k < l.come → slice_index l.ticks k ≤ l.at;
}

abbrev pub decreases-coming : goal.decreases-coming
decreases-coming l = length l.ticks - l.come
