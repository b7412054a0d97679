use Rattle.std.proofs.Common.{◌≡◌, ◌⊎◌, ℕ, ◌-◌, ◌≤◌, [], length}
use Rattle.std.specs.Prelude.{slice_index_or}
use Rattle.plane_index.proofs.states.forget.Given as goal

abbrev pub invariant-slices : goal.invariant-slices
invariant-slices l = record {
  within : l.end ≤ length l.columns;
  count : length l.columns ≡ length l.fn.columns;
  each : (j : ℕ) → (slice_index_or l.columns j [] ≡ []) ⊎ (slice_index_or l.columns j [] ≡ slice_index_or l.fn.columns j []);
}

abbrev pub decreases-slices : goal.decreases-slices
decreases-slices l = l.end - l.s
