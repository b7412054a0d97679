use Rattle.std.proofs.Common.{◌≡◌, ℕ, ◌-◌, ◌||◌}
use Rattle.std.specs.List.{list_any}
use Rattle.kept_rows.specs.Listing.{some_row}
use Rattle.kept_rows.specs.Rows.{row_has}
use Rattle.kept_rows.proofs.listing.push_rows.Given as goal

-- the rows so far and those from this number on have all ticks
abbrev pub invariant-rows : goal.invariant-rows
invariant-rows g l = record {
  ticks : (t : ℕ) → (list_any (λ row. g.S.TickSet.member row.now t) l.rows.items || some_row (row_has g.S.TickSet.member l.kept) l.from l.to t)
      ≡ (list_any (λ row. g.S.TickSet.member row.now t) l.initial.rows.items || some_row (row_has g.S.TickSet.member l.kept) l.first l.to t);
}

abbrev pub decreases-rows : goal.decreases-rows
decreases-rows g l = l.to - l.from
