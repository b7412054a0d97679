use Rattle.kept_rows.proofs.LawLemmas.{same_places, one_more}
use Rattle.kept_rows.proofs.laws.an_insert_adds_the_bindings_that_hold_it.Goals as goal

pub returns-clause-places : goal.returns-clause-places
returns-clause-places c = same_places

pub returns-clause-bindings : goal.returns-clause-bindings
returns-clause-bindings c = one_more
