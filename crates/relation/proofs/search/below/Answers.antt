use Rattle.std.proofs.Common.{arith}
use Rattle.relation.specs.Group.{id_at}
use Rattle.relation.proofs.SearchLemmas.{cut_after, cut_before}
use Rattle.relation.proofs.search.below.Goals as goal

pub loop-low-preserved-then-from-id : goal.loop-low-preserved-then-from-id
loop-low-preserved-then-from-id g c = record {
  order = omega arith;
  in_range = omega arith;
  before = λ rises. cut_before (id_at c.args.place) _ _ c.args.id _ rises (omega arith) c.index-rows-middle.is (omega (arith, c.id_at.ensures, c.from.ensures, c.if-from-id.true));
  after = c.loop-low.invariant.after;
}

pub loop-low-preserved : goal.loop-low-preserved
loop-low-preserved g c = record {
  order = omega arith;
  in_range = omega arith;
  before = c.loop-low.invariant.before;
  after = λ rises. cut_after (id_at c.args.place) _ _ c.args.id _ rises (omega arith) c.index-rows-middle.is (omega (arith, c.id_at.ensures, c.from.ensures, c.if-from-id.false));
}
