use Rattle.std.proofs.Common.{◌≡◌, ℕ, ◌-◌, ◌<◌, ◌≤◌, false, ◌||◌, length}
use Rattle.std.specs.Prelude.{slice_index_or}
use Rattle.plane_index.specs.Columns.{narrow_at, narrow_meets}
use Rattle.plane_index.proofs.column.mark_each.Given as goal

abbrev pub invariant-places : goal.invariant-places
invariant-places l = record {
  up_to : l.place ≤ length l.fn.covers;
  count : length l.marks ≡ length l.fn.marks;
  marked : (k : ℕ) → k < l.place → slice_index_or l.marks k false ≡ (slice_index_or l.fn.marks k false || narrow_meets (narrow_at l.fn.covers k) l.fn.asked);
  rest : (k : ℕ) → l.place ≤ k → slice_index_or l.marks k false ≡ slice_index_or l.fn.marks k false;
}

abbrev pub decreases-places : goal.decreases-places
decreases-places l = length l.fn.covers - l.place
