use Rattle.live_queries.proofs.CurrentLemmas.{made_renews}
use Rattle.live_queries.proofs.laws.prepared_writes_renew_queries.Goals as goal

pub returns : goal.returns
returns c = made_renews
