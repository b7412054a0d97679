use Rattle.meaning.proofs.QueryLemmas.{past_stays_with_the_future}
use Rattle.meaning.proofs.laws.the_past_changes_by_what_comes_after.Goals as goal

pub returns : goal.returns
returns c = past_stays_with_the_future
