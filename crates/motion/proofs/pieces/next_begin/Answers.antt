use Rattle.std.proofs.Common.{arith}
use Rattle.motion.proofs.PieceLemmas.{begin_reached}
use Rattle.motion.proofs.pieces.next_begin.Goals as goal

pub returns-in-Some-clause-reached : goal.returns-in-Some-clause-reached
returns-in-Some-clause-reached c =
    begin_reached c.args.epochs.now c.args.index c.args.last c.min.result c.in-Some.next.now (grind arith) (grind arith) (grind arith)
