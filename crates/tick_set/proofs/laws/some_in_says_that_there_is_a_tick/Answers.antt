use Rattle.tick_set.proofs.CallerLemmas.{some_in_iff}
use Rattle.tick_set.proofs.laws.some_in_says_that_there_is_a_tick.Goals as goal

pub returns : goal.returns
returns c = some_in_iff
