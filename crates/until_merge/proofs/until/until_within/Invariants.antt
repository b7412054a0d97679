use Rattle.std.proofs.Common.{length}
use Rattle.until_merge.proofs.UntilLemmas.{UntilSoFar}
use Rattle.until_merge.proofs.until.until_within.Given as goal

abbrev pub invariant-loop-s : goal.invariant-loop-s
invariant-loop-s l = UntilSoFar l.c l.guard l.goal l.made.items l.lo l.hi l.guards l.rest

abbrev pub decreases-loop-s : goal.decreases-loop-s
decreases-loop-s l = length l.rest
