use Rattle.tick_set.specs.TickList.{has}
use Rattle.until_merge.proofs.TickByTick.{NoGoalSoFar}
use Rattle.until_merge.proofs.by_tick.leads.Given as goal

abbrev pub invariant-loop-u : goal.invariant-loop-u
invariant-loop-u l = NoGoalSoFar (has l.g) (has l.h) l.t l.from l.u
