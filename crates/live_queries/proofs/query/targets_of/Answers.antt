use Rattle.live_queries.proofs.QueryLemmas.{back_few, both_few, front_few}
use Rattle.live_queries.proofs.query.targets_of.Goals as goal

pub width-requires : goal.width-requires
width-requires c = front_few c.args.count c.args.columns.now c.requires.size

pub width-requires-2 : goal.width-requires-2
width-requires-2 c = back_few c.args.count c.args.columns.now c.requires.size

pub invariant_of-result : goal.invariant_of-result
invariant_of-result c = record {
  some = c.width-2.ensures.some;
  within = both_few c.args.count c.args.columns.now c.requires.size c.width.result c.width-2.result c.width.ensures.value c.width-2.ensures.value;
}
