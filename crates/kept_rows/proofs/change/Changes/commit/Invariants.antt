use Rattle.std.proofs.Common.{◌≡◌, ℕ, length}
use Rattle.kept_rows.specs.Rows.{row_has}
use Rattle.kept_rows.specs.Changes.{AreReady, rows_after}
use Rattle.kept_rows.proofs.change.Changes.commit.Given as goal

-- the changes that are left make of the rows what all of them made of the rows before
abbrev pub invariant-changes : goal.invariant-changes
invariant-changes g l = record {
  next : (goal.iterator-changes g).can_next l.change-iterator;
  finite : (goal.iterator-changes g).is_finite l.change-iterator;
  ready : AreReady g.S.TickSet.member l.kept l.change-iterator.rest.items;
  len : length l.kept ≡ length l.fn.kept;
  rows : (c t : ℕ) → rows_after g.S.TickSet.member l.change-iterator.rest.items (row_has g.S.TickSet.member l.kept) c t
      ≡ rows_after g.S.TickSet.member l.fn.self (row_has g.S.TickSet.member l.fn.kept) c t;
}
