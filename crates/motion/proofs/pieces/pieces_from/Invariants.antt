use Rattle.std.proofs.Common.{◌+◌, ◌-◌, ◌<◌}
use Rattle.std.specs.Prelude.{All}
use Rattle.motion.specs.Timeline.{AreBegunUpTo}
use Rattle.motion.specs.Pieces.{IsSteadyPiece}
use Rattle.motion.proofs.PieceLemmas.{ArePiecesTo}
use Rattle.motion.proofs.pieces.pieces_from.Given as goal

-- the pieces so far lie without a gap before tick `at`
abbrev pub invariant-cutting : goal.invariant-cutting
invariant-cutting l = record {
  pieces : ArePiecesTo l.epochs l.start l.last l.made.items l.at;
  steady : All (IsSteadyPiece l.epochs) l.made.items;
  begun : AreBegunUpTo l.epochs l.at l.count;
  some : 0 < l.count;
}

abbrev pub decreases-cutting : goal.decreases-cutting
decreases-cutting l = l.last + 1 - l.at
