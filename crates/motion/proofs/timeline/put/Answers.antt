use Rattle.std.proofs.Common.{arith}
use Rattle.motion.proofs.TimelineLemmas.{IsRising-written}
use Rattle.motion.proofs.timeline.put.Goals as goal

pub returns-in-Some-clause-rising : goal.returns-in-Some-clause-rising
returns-in-Some-clause-rising c =
    IsRising-written c.args.epochs.now.items _ c.args.epoch c.requires.rising (grind (arith, c.in-Some.ensures.over c.args.epoch))

pub returns-in_ok-push-in-None-clause-rising : goal.returns-in_ok-push-in-None-clause-rising
returns-in_ok-push-in-None-clause-rising c =
    IsRising-written c.args.epochs.now.items _ c.args.epoch c.requires.rising (grind (arith, c.in-None.ensures.behind c.args.epoch))
