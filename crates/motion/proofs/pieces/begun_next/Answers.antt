use Rattle.std.proofs.Common.{arith}
use Rattle.std.proofs.lemmas.Bool.Decides.{nat_tests}
use Rattle.motion.proofs.PieceLemmas.{begun_next}
use Rattle.motion.proofs.pieces.begun_next.Goals as goal

pub returns-in-Some-clause-begun : goal.returns-in-Some-clause-begun
returns-in-Some-clause-begun c =
    begun_next c.args.epochs.now c.args.t c.args.count c.from-in-Some.result c.in-Some.next.now c.requires.rising c.requires.begun
    (grind arith) (grind arith) (grind (arith, nat_tests))
