use Rattle.nearest.proofs.valley.turn.Goals as goal
use Rattle.std.proofs.Common.{arith}

pub returns-then-rises_from : goal.returns-then-rises_from
returns-then-rises_from c = record {
  bound = grind arith;
  falls = c.falls_to.ensures c.if-falls_to.true;
  rises = c.rises_from.ensures c.if-rises_from.true;
}

pub returns : goal.returns
returns c = record {
  bound = grind arith;
  falls = c.bisected.ensures.falls;
  rises = c.bisected.ensures.rises;
}
