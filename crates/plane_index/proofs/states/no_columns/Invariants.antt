use Rattle.std.proofs.Common.{◌≡◌, ℕ, ◌-◌, ◌≤◌, [], length}
use Rattle.std.specs.Prelude.{slice_index_or}
use Rattle.plane.specs.declared.limits.TheConstants.{SLICES}
use Rattle.plane_index.proofs.states.no_columns.Given as goal

abbrev pub invariant-slices : goal.invariant-slices
invariant-slices l = record {
  count : length l.columns.items ≤ SLICES;
  empty : (s : ℕ) → slice_index_or l.columns.items s [] ≡ [];
}

abbrev pub decreases-slices : goal.decreases-slices
decreases-slices l = SLICES - length l.columns.items
