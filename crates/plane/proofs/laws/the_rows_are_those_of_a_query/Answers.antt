use Rattle.plane.proofs.QueryLemmas.{answers_query}
use Rattle.plane.proofs.laws.the_rows_are_those_of_a_query.Goals as goal

pub returns : goal.returns
returns c = answers_query
