use Rattle.live_queries.proofs.GrowLemmas.{within_capacity}
use Rattle.live_queries.proofs.columns.class_count.Goals as goal

pub returns-clause-room : goal.returns-clause-room
returns-clause-room c =
    within_capacity c.args.store.now c.args.class c.object_count.ensures.sound c.class_names.result.now c.class_names.ensures.ids
