use Rattle.std.proofs.Common.{sym, ◌∙◌}
use Rattle.pairs.proofs.distance.distance_in.Goals as goal

pub returns-then-is_at_most-clause-distance : goal.returns-then-is_at_most-clause-distance
returns-then-is_at_most-clause-distance c = record {
  from = c.in-Dist.v;
  to = c.in-Dist.u;
  op = c.in-Dist.op;
  is = c.in-Dist.is;
  near = sym c.is_at_most.ensures ∙ c.if-is_at_most.true;
  both = sym c.are_both.ensures ∙ c.if-are_both.true;
}
