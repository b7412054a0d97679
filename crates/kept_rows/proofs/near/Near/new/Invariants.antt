use Rattle.std.proofs.Common.{◌≡◌, ℕ, ◌-◌, ◌<◌, true}
use Rattle.kept_rows.specs.Near.{may_have_tick}
use Rattle.kept_rows.specs.Rows.{row_has}
use Rattle.kept_rows.proofs.near.Near.new.Given as goal

-- the rows of the numbers before this one are filed
abbrev pub invariant-numbers : goal.invariant-numbers
invariant-numbers g l = (c t : ℕ) → c < l.number → row_has g.S.TickSet.member l.pages c t ≡ true → may_have_tick l.near c t ≡ true

abbrev pub decreases-numbers : goal.decreases-numbers
decreases-numbers g l = l.end - l.number
