use Rattle.std.proofs.Common.{length}
use Rattle.narrowing.specs.Beside.{IsApart}
use Rattle.narrowing.specs.Holding.{AreLost}
use Rattle.narrowing.proofs.nearby.can_be_beside.Given as goal

abbrev pub invariant-others : goal.invariant-others
invariant-others l = AreLost (IsApart l.scene l.most l.id) l.others l.rest

abbrev pub decreases-others : goal.decreases-others
decreases-others l = length l.rest
