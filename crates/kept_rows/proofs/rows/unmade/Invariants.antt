use Rattle.std.proofs.Common.{◌≡◌, ℕ, ◌-◌, ◌≤◌, false, length}
use Rattle.kept_rows.specs.Rows.{row_has}
use Rattle.kept_rows.proofs.rows.unmade.Given as goal

abbrev pub invariant-pages : goal.invariant-pages
invariant-pages g l = record {
  few : length l.pages.items ≤ l.count;
  none : (c t : ℕ) → row_has g.S.TickSet.member l.pages.items c t ≡ false;
}

abbrev pub decreases-pages : goal.decreases-pages
decreases-pages g l = l.count - length l.pages.items
