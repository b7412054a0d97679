use Rattle.std.proofs.Common.{◌-◌, arith}
use Rattle.std.proofs.lemmas.Int.{ints}
use Rattle.nearest.specs.Order.{difference_after}
use Rattle.nearest.proofs.LowLemmas.{nowhere_rising, run_throughout, turns}
use Rattle.nearest.proofs.low.low_ticks.Goals as goal

pub returns-then-ends : goal.returns-then-ends
returns-then-ends c =
    let d = c.args.d.now in
    run_throughout (difference_after d) c.args.limit c.args.w (turns d.quadratic d.linear d.constant (c.args.w.hi - c.args.w.lo)) c.span.result
    (omega (arith, ints, c.at.ensures)) (omega (arith, ints, c.at-2.ensures)) c.span.ensures.0 c.span.ensures.1

pub returns-then-d-ge0 : goal.returns-then-d-ge0
returns-then-d-ge0 c =
    let d = c.args.d.now in
    nowhere_rising d.quadratic d.linear d.constant c.args.limit c.args.w (omega (arith, ints)) (omega (arith, ints, c.at.ensures))
