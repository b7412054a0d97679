use Rattle.std.proofs.Common.{length}
use Rattle.tick_set.proofs.TickListLemmas.{PartSoFar, in_part}
use Rattle.tick_set.proofs.tick_list.TickList.push_part.Given as goal

abbrev pub invariant-ticks : goal.invariant-ticks
invariant-ticks l = PartSoFar (in_part l.from l.until) l.fn.self l.ticks l.self l.rest

abbrev pub decreases-ticks : goal.decreases-ticks
decreases-ticks l = length l.rest
