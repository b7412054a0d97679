use Rattle.std.proofs.Common.{◌≡◌, ℕ, ◌-◌, ◌≤◌, false, length}
use Rattle.kept_rows.specs.Rows.{page_has}
use Rattle.kept_rows.proofs.page.Page.blank.Given as goal

abbrev pub invariant-cells : goal.invariant-cells
invariant-cells g l = record {
  few : length l.cells.items ≤ 16;
  empty : (i t : ℕ) → page_has g.S.TickSet.member l.cells.items i t ≡ false;
}

abbrev pub decreases-cells : goal.decreases-cells
decreases-cells g l = 16 - length l.cells.items
