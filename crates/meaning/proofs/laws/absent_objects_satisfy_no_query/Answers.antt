use Rattle.meaning.proofs.QueryLemmas.{absent_satisfies_none}
use Rattle.meaning.proofs.laws.absent_objects_satisfy_no_query.Goals as goal

pub returns : goal.returns
returns c = absent_satisfies_none
