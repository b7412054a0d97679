use Rattle.std.proofs.Common.{◌≡◌, ℕ, ◌-◌, ◌<◌, ◌≤◌, [], length}
use Rattle.std.specs.Prelude.{slice_index_or, slice_set}
use Rattle.plane_index.specs.Columns.{narrowed}
use Rattle.plane_index.specs.Held.{kept_strips}
use Rattle.plane_index.specs.States.{strips_by_state}
use Rattle.plane_index.proofs.states.note.Given as goal

abbrev pub invariant-slices : goal.invariant-slices
invariant-slices l = record {
  count : length l.columns ≡ length l.fn.columns;
  noted : (j : ℕ) → j < l.s → slice_index_or l.columns j []
      ≡ slice_set (slice_index_or l.fn.columns j []) l.fn.place (narrowed (kept_strips (strips_by_state l.fn.state l.fn.grid j)));
  rest : (j : ℕ) → l.s ≤ j → slice_index_or l.columns j [] ≡ slice_index_or l.fn.columns j [];
}

abbrev pub decreases-slices : goal.decreases-slices
decreases-slices l = length l.columns - l.s
