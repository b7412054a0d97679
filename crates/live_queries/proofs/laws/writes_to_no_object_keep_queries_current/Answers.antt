use Rattle.live_queries.proofs.RegionLemmas.{stays_current_without_objects}
use Rattle.live_queries.proofs.laws.writes_to_no_object_keep_queries_current.Goals as goal

pub returns : goal.returns
returns c = stays_current_without_objects c.interpretations_that_agree_give_the_same_truth.ensures
