use Rattle.std.proofs.Common.{arith}
use Rattle.motion.proofs.PieceLemmas.{pieces_have-cover}
use Rattle.motion.proofs.timeline.Timeline.pieces.Goals as goal

pub returns-clause-cover : goal.returns-clause-cover
returns-clause-cover c = grind (arith, pieces_have-cover)
