use Rattle.tick_set.proofs.CallerLemmas.{all_in_iff}
use Rattle.tick_set.proofs.laws.all_in_says_that_each_tick_passes.Goals as goal

pub returns : goal.returns
returns c = all_in_iff
