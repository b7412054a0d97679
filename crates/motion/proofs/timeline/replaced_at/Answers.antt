use Rattle.std.proofs.Common.{arith}
use Rattle.motion.proofs.TimelineLemmas.{put_over, put_behind}
use Rattle.motion.proofs.timeline.replaced_at.Goals as goal

pub returns-then-from-clause-over : goal.returns-then-from-clause-over
returns-then-from-clause-over c =
    put_over c.args.epochs.now c.in_ok-last.last c.args.from c.index-epochs-last.result c.requires.rising (grind arith) (grind arith) (grind arith)

pub returns-else-from-clause-behind : goal.returns-else-from-clause-behind
returns-else-from-clause-behind c =
    put_behind c.args.epochs.now c.in_ok-last.last c.args.from c.index-epochs-last.result c.requires.rising c.requires.after (grind arith) (grind arith) (grind arith)
