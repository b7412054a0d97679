use Rattle.live_queries.proofs.CurrentLemmas.{row_stays}
use Rattle.live_queries.proofs.laws.a_row_changes_by_what_comes_after.Goals as goal

pub returns : goal.returns
returns c = λ id now old new changes adds regions k k' is is' current renewed.
    row_stays id now old new changes adds regions k k' is is'
    (λ b later. c.the_past_changes_by_what_comes_after.ensures id now old new changes regions k.query is.sees b k.expiry later)
    current renewed
    (c.a_write_keeps_queries_current.ensures id now old new changes adds regions k k' is is' current renewed)
