use Rattle.live_queries.proofs.WriteLemmas.{changes_are}
use Rattle.live_queries.proofs.laws.prepared_changes_tell_what_a_write_changes.Goals as goal

pub returns : goal.returns
returns c = λ id now old new write adds regions k k' is is' current renewed changes same entered.
    changes_are id now old new write adds regions k k' is is' current renewed
    (c.a_write_keeps_queries_current.ensures id now old new write adds regions k k' is is' current renewed) changes same entered
