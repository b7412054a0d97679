use Rattle.std.proofs.Common.{arith}
use Rattle.motion.proofs.PieceLemmas.{first_more_at, first_all}
use Rattle.motion.proofs.pieces.first_turn.Goals as goal

pub loop-cell-preserved : goal.loop-cell-preserved
loop-cell-preserved c =
    first_more_at c.args.cells.now c.loop-cell.cell-index c.cell-item.result c.args.at c.args.end c.loop-cell.first c.turn-first.result
    c.loop-cell-test.true c.cell-item.is c.loop-cell.invariant c.turn-first.ensures

pub returns : goal.returns
returns c =
    first_all c.args.cells.now c.loop-cell.cell-index c.args.at c.args.end c.loop-cell.first (grind arith) c.loop-cell.invariant
