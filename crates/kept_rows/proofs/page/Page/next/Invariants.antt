use Rattle.std.proofs.Common.{◌≡◌, ℕ, ◌-◌, ◌<◌, ◌≤◌, false, length}
use Rattle.kept_rows.specs.Rows.{page_has}
use Rattle.kept_rows.proofs.page.Page.next.Given as goal

abbrev pub invariant-cells : goal.invariant-cells
invariant-cells g l = record {
  from : l.from ≤ l.at;
  before : (i t : ℕ) → l.from ≤ i → i < l.at → page_has g.S.TickSet.member l.self i t ≡ false;
}

abbrev pub decreases-cells : goal.decreases-cells
decreases-cells g l = length l.self - l.at
