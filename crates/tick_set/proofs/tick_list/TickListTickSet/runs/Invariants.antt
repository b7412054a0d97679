use Rattle.std.proofs.Common.{length}
use Rattle.tick_set.proofs.TickListLemmas.{RunsSoFar}
use Rattle.tick_set.proofs.tick_list.TickListTickSet.runs.Given as goal

abbrev pub invariant-loop-first : goal.invariant-loop-first
invariant-loop-first l = RunsSoFar l.self l.spans.items l.rest

abbrev pub decreases-loop-first : goal.decreases-loop-first
decreases-loop-first l = length l.rest
