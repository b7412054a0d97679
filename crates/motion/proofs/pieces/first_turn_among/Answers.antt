use Rattle.std.proofs.Common.{Option, false, get_or, refl, subst, arith}
use Rattle.std.specs.Option.{option_map_or}
use Rattle.motion.specs.Cells.{cell_turns}
use Rattle.motion.specs.Pieces.{IsFirstOrEnd}
use Rattle.motion.specs.declared.cell.Cell.{Cell}
use Rattle.motion.proofs.PieceLemmas.{first_among_at, first_among_all}
use Rattle.motion.proofs.pieces.first_turn_among.Goals as goal

pub loop-index-preserved : goal.loop-index-preserved
loop-index-preserved c =
    let k = c.loop-index.index-index in
    let P : Option Cell → Type 0 = λ cell. IsFirstOrEnd (λ t. option_map_or (cell_turns t) cell false) c.args.at c.loop-index.first c.turn_if_any-first.result in
    first_among_at c.args.indexes.now k (get_or c.args.indexes.now k 0) c.args.cells.now c.args.at c.args.end c.loop-index.first c.turn_if_any-first.result
    c.loop-index-test.true refl c.loop-index.invariant (subst P c.cell_at.ensures.value c.turn_if_any-first.ensures)

pub returns : goal.returns
returns c =
    first_among_all c.args.indexes.now c.loop-index.index-index c.args.cells.now c.args.at c.args.end c.loop-index.first (grind arith) c.loop-index.invariant
