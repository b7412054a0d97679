use Rattle.tick_set.proofs.CallerLemmas.{has_listed}
use Rattle.tick_set.proofs.laws.listed_ticks_are_those_that_pass.Goals as goal

pub returns : goal.returns
returns c = has_listed
