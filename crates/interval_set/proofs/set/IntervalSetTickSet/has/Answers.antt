use Rattle.tick_set.proofs.RunLemmas.{spans_have-in_range}
use Rattle.interval_set.proofs.set.IntervalSetTickSet.has.Goals as goal

pub returns-clause-in_range : goal.returns-clause-in_range
returns-clause-in_range c = spans_have-in_range _
