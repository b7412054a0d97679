use Rattle.meaning.proofs.QueryLemmas.{expired_stay}
use Rattle.meaning.proofs.laws.expired_queries_stay.Goals as goal

pub returns : goal.returns
returns c = expired_stay
