use Rattle.std.proofs.Common.{arith}
use Rattle.exact.proofs.Sizes.{steps}
use Rattle.polygon.proofs.TickLemmas.{beside_runs}
use Rattle.polygon.proofs.crossing.ticks_left_of.Goals as goal

pub returns : goal.returns
returns c =
    beside_runs c.args.start.now c.args.end.now c.args.l.now c.args.margin.now c.args.w _ _ c.solve.result (grind (arith, steps)) (grind (arith, steps)) c.solve.ensures
