use Rattle.std.proofs.Common.{length}
use Rattle.narrowing.specs.Beside.{AreFar}
use Rattle.narrowing.specs.Holding.{AreLost}
use Rattle.narrowing.proofs.nearby.those_beside.Given as goal

-- what isn't among the ids is near to none of the others so far
abbrev pub invariant-others : goal.invariant-others
invariant-others l = AreLost (AreFar l.scene l.class l.fn.most l.ids.items) l.others l.rest

abbrev pub decreases-others : goal.decreases-others
decreases-others l = length l.rest
