use Rattle.live_queries.proofs.CurrentLemmas.{expired_stay, others_stay}
use Rattle.live_queries.proofs.laws.other_rows_stay.Goals as goal

pub returns : goal.returns
returns c = record { others = others_stay; expired = expired_stay }
