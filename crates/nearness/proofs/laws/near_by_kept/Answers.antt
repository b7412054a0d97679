use Rattle.nearness.proofs.OrderLemmas.{near_among_kept}
use Rattle.nearness.proofs.laws.near_by_kept.Goals as goal

pub returns : goal.returns
returns c = near_among_kept
