use Rattle.std.proofs.Common.{length}
use Rattle.until_merge.proofs.ShapeLemmas.{HeldSoFar}
use Rattle.until_merge.proofs.shapes.held.Given as goal

abbrev pub invariant-loop-s : goal.invariant-loop-s
invariant-loop-s l = HeldSoFar l.c l.last l.spans l.made.items l.rest

abbrev pub decreases-loop-s : goal.decreases-loop-s
decreases-loop-s l = length l.rest
