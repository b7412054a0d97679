use Rattle.std.proofs.Common.{◌≡◌, ℕ, ◌≤◌, ◌&&◌, length, if◌then◌else◌}
use Rattle.std.specs.Prelude.{nat_le}
use Rattle.tick_set.specs.TickList.{has}
use Rattle.kept_rows.specs.Changes.{AreReady, AreRising, DoDiffer, rows_after}
use Rattle.kept_rows.specs.Rising.{AscendsWithin}
use Rattle.kept_rows.specs.Rows.{row_has}
use Rattle.kept_rows.proofs.renewal.judged.Given as goal

-- the numbers that are left stand above those of the changes, and judging them anew makes all rows
abbrev pub invariant-numbers : goal.invariant-numbers
invariant-numbers g l = record {
  at : (from : ℕ) × AreRising from l.changes × ((to : ℕ) → AscendsWithin 0 to l.numbers → (from ≤ to) × AscendsWithin from to l.rest);
  ready : AreReady g.S.TickSet.member l.kept l.changes;
  differ : DoDiffer g.S.TickSet.member l.kept l.changes;
  rows : (c t : ℕ) → (if has l.rest c && nat_le l.from t then g.J.Judge.full l.judge c t else rows_after g.S.TickSet.member l.changes (row_has g.S.TickSet.member l.kept) c t)
      ≡ (if has l.numbers c && nat_le l.from t then g.J.Judge.full l.judge c t else row_has g.S.TickSet.member l.kept c t);
}

abbrev pub decreases-numbers : goal.decreases-numbers
decreases-numbers g l = length l.rest
