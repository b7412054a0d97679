use Rattle.std.proofs.Common.{ℕ, ◌<◌, ◌≤◌, ◌-◌, length, get_or}
use Rattle.std.specs.List.Sorted.{IsStrictlyIncreasing}
use Rattle.relation.proofs.search.below_in.Given as goal

abbrev pub invariant-loop-low : goal.invariant-loop-low
invariant-loop-low l = record {
  order : l.low ≤ l.high;
  in_range : l.high ≤ length l.ids;
  before : IsStrictlyIncreasing l.ids → (k : ℕ) → k < l.low → get_or l.ids k 0 < l.id;
  after : IsStrictlyIncreasing l.ids → (k : ℕ) → l.high ≤ k → k < length l.ids → l.id ≤ get_or l.ids k 0;
}

abbrev pub decreases-loop-low : goal.decreases-loop-low
decreases-loop-low l = l.high - l.low
