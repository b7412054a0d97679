use Rattle.std.proofs.Common.{◌≡◌, ℕ, ◌*◌, ◌+◌, ◌-◌, ◌<◌, ◌≤◌, ◌==◌, false}
use Rattle.std.specs.Prelude.{slice_index_or}
use Rattle.kept_rows.proofs.near.cell_of.Given as goal

-- no cell before this one has the number
abbrev pub invariant-cells : goal.invariant-cells
invariant-cells l = record {
  least : l.bucket * 32 ≤ l.at;
  most : l.at ≤ l.end;
  none : (i : ℕ) → l.bucket * 32 ≤ i → i < l.at → (slice_index_or l.cells i 0 == l.number) ≡ false;
}

abbrev pub decreases-cells : goal.decreases-cells
decreases-cells l = l.end - l.at
