use Rattle.std.proofs.Common.{length}
use Rattle.until_merge.proofs.ShapeLemmas.{MovedSoFar}
use Rattle.until_merge.proofs.shapes.moved.Given as goal

abbrev pub invariant-loop-s : goal.invariant-loop-s
invariant-loop-s l = MovedSoFar l.c l.lo l.spans l.made.items l.rest

abbrev pub decreases-loop-s : goal.decreases-loop-s
decreases-loop-s l = length l.rest
