use Rattle.tick_set.proofs.RunLemmas.{pairs_same}
use Rattle.tick_set.proofs.laws.same_ticks_have_the_same_runs.Goals as goal

pub returns : goal.returns
returns c = pairs_same
