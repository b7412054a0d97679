use Rattle.std.proofs.Common.{◌≡◌, ℕ, ◌&&◌, ◌-◌, not}
use Rattle.kept_rows.specs.Listing.{some_row}
use Rattle.kept_rows.specs.Moves.{others}
use Rattle.kept_rows.specs.Rows.{row_has}
use Rattle.kept_rows.specs.Slots.{AreIn}
use Rattle.kept_rows.proofs.moving.without_all.Given as goal

-- what is left, without the ticks of the rows from this number on
abbrev pub invariant-rows : goal.invariant-rows
invariant-rows g l = record {
  gained : (t : ℕ) → (g.S.TickSet.member l.left.gained t && not (some_row (others l.group (row_has g.S.TickSet.member l.kept)) l.at l.to t))
      ≡ (g.S.TickSet.member l.fn.changed.gained t && not (some_row (others l.group (row_has g.S.TickSet.member l.kept)) l.from l.to t));
  lost : (t : ℕ) → (g.S.TickSet.member l.left.lost t && not (some_row (others l.group (row_has g.S.TickSet.member l.kept)) l.at l.to t))
      ≡ (g.S.TickSet.member l.fn.changed.lost t && not (some_row (others l.group (row_has g.S.TickSet.member l.kept)) l.from l.to t));
  gained_in : AreIn (g.S.TickSet.member l.left.gained) l.slots;
  lost_in : AreIn (g.S.TickSet.member l.left.lost) l.slots;
}

abbrev pub decreases-rows : goal.decreases-rows
decreases-rows g l = l.to - l.at
