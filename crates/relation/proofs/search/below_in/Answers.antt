use Rattle.std.proofs.Common.{arith}
use Rattle.relation.proofs.SearchLemmas.{number_after, number_before}
use Rattle.relation.proofs.search.below_in.Goals as goal

pub loop-low-preserved-then-from-id : goal.loop-low-preserved-then-from-id
loop-low-preserved-then-from-id c = record {
  order = omega arith;
  in_range = omega arith;
  before = λ up. number_before c.args.ids.now up _ c.args.id (omega arith) (omega (arith, c.from.ensures, c.if-from-id.true));
  after = c.loop-low.invariant.after;
}

pub loop-low-preserved : goal.loop-low-preserved
loop-low-preserved c = record {
  order = omega arith;
  in_range = omega arith;
  before = c.loop-low.invariant.before;
  after = λ up. number_after c.args.ids.now up _ c.args.id (omega arith) (omega (arith, c.from.ensures, c.if-from-id.false));
}
