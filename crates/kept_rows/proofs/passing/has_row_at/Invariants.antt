use Rattle.std.proofs.Common.{◌≡◌, ◌-◌}
use Rattle.kept_rows.specs.Listing.{some_row}
use Rattle.kept_rows.specs.Rows.{row_has}
use Rattle.kept_rows.proofs.passing.has_row_at.Given as goal

-- no row before this number has the tick
abbrev pub invariant-rows : goal.invariant-rows
invariant-rows g l = some_row (row_has g.S.TickSet.member l.kept) l.from l.to l.tick ≡ some_row (row_has g.S.TickSet.member l.kept) l.fn.from l.to l.tick

abbrev pub decreases-rows : goal.decreases-rows
decreases-rows g l = l.to - l.from
