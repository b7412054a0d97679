use Rattle.std.proofs.Common.{arith, subst, sym}
use Rattle.std.specs.Prelude.{All}
use Rattle.std.proofs.lemmas.List.Elements.{All-push}
use Rattle.motion.specs.Pieces.{IsSteadyPiece}
use Rattle.motion.proofs.PieceLemmas.{ArePiecesTo-none, ArePiecesTo-push, ArePiecesTo-all, some_begun}
use Rattle.motion.proofs.pieces.pieces_from.Goals as goal

pub cutting-init : goal.cutting-init
cutting-init c = record {
  pieces = ArePiecesTo-none c.args.epochs.now c.args.start c.args.last c.new-made.result.items c.new-made.ensures.items;
  steady = λ k d l. absurd (grind arith);
  begun = c.begun_count-count.ensures;
  some = some_begun c.args.epochs.now c.args.start c.begun_count-count.result c.requires.some c.requires.begun c.begun_count-count.ensures;
}

pub cutting-preserved : goal.cutting-preserved
cutting-preserved c = record {
  pieces =
      rw c.in_ok-push.ensures.items
      (ArePiecesTo-push c.args.epochs.now c.args.start c.args.last c.cutting.made.items c.cutting.at c.piece_for-piece.result c.cutting.invariant.pieces c.piece_for-piece.ensures.piece);
  steady =
      subst (λ pieces. All (IsSteadyPiece c.args.epochs.now) pieces) (sym c.in_ok-push.ensures.items)
      (All-push (IsSteadyPiece c.args.epochs.now) c.cutting.made.items c.piece_for-piece.result c.cutting.invariant.steady c.piece_for-piece.ensures.steady);
  begun = c.begun_next-count.ensures.begun;
  some = omega (arith, c.cutting.invariant.some, c.begun_next-count.ensures.more);
}

pub returns-clause-pieces : goal.returns-clause-pieces
returns-clause-pieces c =
    ArePiecesTo-all c.args.epochs.now c.args.start c.args.last c.cutting.made.items c.cutting.at c.cutting.invariant.pieces c.cutting-test.false
