use Rattle.meaning.proofs.QueryLemmas.{past_stays_beyond_the_reach}
use Rattle.meaning.proofs.laws.the_past_changes_as_far_back_as_the_reach.Goals as goal

pub returns : goal.returns
returns c = past_stays_beyond_the_reach
