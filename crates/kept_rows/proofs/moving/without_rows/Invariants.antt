use Rattle.std.proofs.Common.{length}
use Rattle.kept_rows.specs.Moves.{others}
use Rattle.kept_rows.specs.Rows.{row_has}
use Rattle.kept_rows.proofs.FoundLemmas.{IsLeftBy}
use Rattle.kept_rows.proofs.moving.without_rows.Given as goal

-- the rows of the numbers that were passed have no tick that is left
abbrev pub invariant-rows : goal.invariant-rows
invariant-rows g l = record {
  gained : IsLeftBy (others l.group (row_has g.S.TickSet.member l.kept)) l.from l.to l.numbers l.rest (g.S.TickSet.member l.fn.changed.gained) (g.S.TickSet.member l.left.gained);
  lost : IsLeftBy (others l.group (row_has g.S.TickSet.member l.kept)) l.from l.to l.numbers l.rest (g.S.TickSet.member l.fn.changed.lost) (g.S.TickSet.member l.left.lost);
}

abbrev pub decreases-rows : goal.decreases-rows
decreases-rows g l = length l.rest
