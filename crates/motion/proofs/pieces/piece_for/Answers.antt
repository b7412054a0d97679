use Rattle.std.proofs.Common.{refl, arith, subst}
use Rattle.motion.specs.Cells.{AreCellsAt}
use Rattle.motion.proofs.PieceLemmas.{cutting, piece_is, steady_is, begun_at}
use Rattle.motion.proofs.pieces.piece_for.Goals as goal

pub returns-clause-piece : goal.returns-clause-piece
returns-clause-piece c =
    let cut = cutting c.args.asked c.args.epochs.now c.index-epochs-count.result c.cells.result.now c.args.count c.args.at c.args.last c.next_begin.result c.first_end-first.result
    c.requires.rising c.requires.some c.requires.begun c.index-epochs-count.is c.cells.ensures.value c.next_begin.ensures.before c.next_begin.ensures.reached
    c.first_end-first.ensures c.next_begin.ensures.within in
    piece_is c.args.asked c.args.epochs.now c.index-epochs-count.result c.args.count c.args.at c.args.last c.next_begin.result c.first_end-first.result cut _ refl (omega arith) refl

pub returns-clause-steady : goal.returns-clause-steady
returns-clause-steady c =
    let cut = cutting c.args.asked c.args.epochs.now c.index-epochs-count.result c.cells.result.now c.args.count c.args.at c.args.last c.next_begin.result c.first_end-first.result
    c.requires.rising c.requires.some c.requires.begun c.index-epochs-count.is c.cells.ensures.value c.next_begin.ensures.before c.next_begin.ensures.reached
    c.first_end-first.ensures c.next_begin.ensures.within in
    steady_is c.args.asked c.args.epochs.now c.index-epochs-count.result c.args.count c.args.at c.args.last c.next_begin.result c.first_end-first.result cut _
    (subst (λ cells. AreCellsAt cells c.index-epochs-count.result.from) c.cells.ensures.value c.cells.ensures.written) refl (omega arith) refl

pub returns-clause-begun : goal.returns-clause-begun
returns-clause-begun c =
    let cut = cutting c.args.asked c.args.epochs.now c.index-epochs-count.result c.cells.result.now c.args.count c.args.at c.args.last c.next_begin.result c.first_end-first.result
    c.requires.rising c.requires.some c.requires.begun c.index-epochs-count.is c.cells.ensures.value c.next_begin.ensures.before c.next_begin.ensures.reached
    c.first_end-first.ensures c.next_begin.ensures.within in
    begun_at c.args.asked c.args.epochs.now c.index-epochs-count.result c.args.count c.args.at c.args.last c.next_begin.result c.first_end-first.result cut _ (omega arith) (omega arith)
