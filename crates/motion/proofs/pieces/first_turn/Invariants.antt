use Rattle.std.proofs.Common.{take}
use Rattle.std.specs.List.{list_any}
use Rattle.motion.specs.Cells.{cell_turns}
use Rattle.motion.specs.Pieces.{IsFirstOrEnd}
use Rattle.motion.proofs.pieces.first_turn.Given as goal

abbrev pub invariant-loop-cell : goal.invariant-loop-cell
invariant-loop-cell l = IsFirstOrEnd (λ t. list_any (cell_turns t) (take l.cell-index l.cells)) l.at l.end l.first
