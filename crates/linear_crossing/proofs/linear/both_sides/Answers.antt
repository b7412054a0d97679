use Rattle.std.proofs.Common.{◌+◌, ◌-◌, arith}
use Rattle.linear_crossing.proofs.Pairs.{two_stretches}
use Rattle.linear_crossing.proofs.linear.both_sides.Goals as goal

pub returns : goal.returns
returns c =
    let w = c.args.w in
    two_stretches w.lo (w.hi + 1 - w.lo) c.args.from c.args.until c.stretch-first.result c.stretch-second.result (omega arith) (omega arith) c.if-is_none.ensures c.stretch-first.ensures c.stretch-second.ensures
