use Rattle.std.proofs.Common.{ℕ, ◌-◌, ◌<◌, length}
use Rattle.kept_rows.specs.Rows.{page_has}
use Rattle.kept_rows.specs.Slots.{AreIn}
use Rattle.kept_rows.proofs.page.Page.all_slots.Given as goal

-- the slots of the places up to this one are there
abbrev pub invariant-cells : goal.invariant-cells
invariant-cells g l = (i : ℕ) → i < l.at → AreIn (page_has g.S.TickSet.member l.self i) l.slots

abbrev pub decreases-cells : goal.decreases-cells
decreases-cells g l = length l.self - l.at
