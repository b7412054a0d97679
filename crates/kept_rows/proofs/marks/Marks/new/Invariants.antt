use Rattle.std.proofs.Common.{◌≡◌, ℕ, ◌/◌, ◌-◌, false, length}
use Rattle.kept_rows.specs.Rows.{row_has}
use Rattle.kept_rows.specs.Slots.{may_have}
use Rattle.kept_rows.proofs.marks.Marks.new.Given as goal

-- the marks so far are right
abbrev pub invariant-pages : goal.invariant-pages
invariant-pages g l = (c t : ℕ) → may_have l.marks.items (c / 16) t ≡ false → row_has g.S.TickSet.member l.pages c t ≡ false

abbrev pub decreases-pages : goal.decreases-pages
decreases-pages g l = length l.pages - length l.marks.items
