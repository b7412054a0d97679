use Rattle.meaning.specs.Agreement.{world_with}
use Rattle.live_queries.proofs.CommittedLemmas.{all_current}
use Rattle.live_queries.proofs.laws.committed_writes_keep_queries_current.Goals as goal

pub returns : goal.returns
returns c = λ id now class old new changes adds regions rs live live' kept kept' current fresh made.
    all_current (world_with old regions) (world_with new regions) id class now
    (λ r k k' is done. c.prepared_writes_renew_queries.ensures (world_with new regions) id class now r k k' is done)
    (λ k k' is is' was renewed. c.a_write_keeps_queries_current.ensures id now old new changes adds regions k k' is is' was renewed)
    rs live live' kept kept' current fresh made
