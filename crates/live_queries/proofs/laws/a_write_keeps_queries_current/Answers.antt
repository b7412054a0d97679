use Rattle.meaning.specs.Agreement.{world_with}
use Rattle.live_queries.proofs.CurrentLemmas.{stays_current}
use Rattle.live_queries.proofs.laws.a_write_keeps_queries_current.Goals as goal

pub returns : goal.returns
returns c = λ id now old new changes adds regions k k' is is' current renewed.
    stays_current id now old new changes adds regions k k' is is'
    (λ b apart t to. c.other_objects_stay.ensures id now old new changes regions k.query is.sees b apart k.expiry t to)
    (λ b t to past. c.expired_queries_stay.ensures id now old new changes regions k.query is.sees b k.expiry t to past)
    (λ n ahead b t to before.
    c.the_past_changes_as_far_back_as_the_reach.ensures id now old new changes regions k.query is.sees n ahead b k.expiry t to before)
    (λ b t v below none. c.absent_objects_satisfy_no_query.ensures (world_with new regions) k.query k.expiry b t v below none)
    current renewed
