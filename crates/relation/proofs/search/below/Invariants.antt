use Rattle.std.proofs.Common.{ℕ, ◌<◌, ◌≤◌, ◌-◌, length, get_or}
use Rattle.std.specs.List.Sorted.{IsNonDecreasingBy}
use Rattle.relation.specs.Group.{id_at}
use Rattle.relation.proofs.search.below.Given as goal

abbrev pub invariant-loop-low : goal.invariant-loop-low
invariant-loop-low g l = record {
  order : l.low ≤ l.high;
  in_range : l.high ≤ length l.rows;
  before : IsNonDecreasingBy (id_at l.place) l.rows → (k : ℕ) (d : _) → k < l.low → id_at l.place (get_or l.rows k d) < l.id;
  after : IsNonDecreasingBy (id_at l.place) l.rows → (k : ℕ) (d : _) → l.high ≤ k → k < length l.rows → l.id ≤ id_at l.place (get_or l.rows k d);
}

abbrev pub decreases-loop-low : goal.decreases-loop-low
decreases-loop-low g l = l.high - l.low
