use Rattle.std.proofs.Common.{arith}
use Rattle.motion.proofs.LegLemmas.{next_end, no_end}
use Rattle.motion.proofs.legs.Legs.next_end.Goals as goal

pub returns-in_err-leg-clause-none : goal.returns-in_err-leg-clause-none
returns-in_err-leg-clause-none c =
    grind (arith, no_end c.args.self.now.firsts c.args.ticks c.leg_in_force-ended.result.0 c.leg_in_force-ended.result.1)

pub returns-clause-some : goal.returns-clause-some
returns-clause-some c =
    next_end c.args.self.now.firsts c.args.ticks c.leg_in_force-ended.result.0 c.leg_in_force-ended.result.1 c.in_ok-leg.leg.now (grind arith) (grind arith) (grind arith)
