use Rattle.meaning.proofs.QueryLemmas.{one_object_is_near}
use Rattle.meaning.proofs.laws.one_object_is_at_distance_0.Goals as goal

pub returns : goal.returns
returns c = one_object_is_near
