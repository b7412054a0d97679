use Rattle.std.proofs.Common.{take, false}
use Rattle.std.specs.Prelude.{slice_get}
use Rattle.std.specs.List.{list_any}
use Rattle.std.specs.Option.{option_map_or}
use Rattle.motion.specs.Cells.{cell_turns}
use Rattle.motion.specs.Pieces.{IsFirstOrEnd}
use Rattle.motion.proofs.pieces.first_turn_among.Given as goal

abbrev pub invariant-loop-index : goal.invariant-loop-index
invariant-loop-index l =
    IsFirstOrEnd (λ t. list_any (λ i. option_map_or (cell_turns t) (slice_get l.cells i) false) (take l.index-index l.indexes)) l.at l.end l.first
