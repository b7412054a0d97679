use Rattle.live_queries.specs.Written.{AreVariablesWith}
use Rattle.live_queries.proofs.ListLemmas.{pairs_end}
use Rattle.live_queries.proofs.columns.numbers_with.Goals as goal

pub returns : goal.returns
returns c =
    pairs_end (AreVariablesWith c.args.arrival.now.grows c.args.arrival.now.object.now.class c.args.classes.now c.args.arrival.now.object.now.id) c.args.columns.now
    c.columns.rest.now c.columns.numbers.items c.in_default.ensures.cases tt c.columns.invariant.made
