use Rattle.std.proofs.Common.{length}
use Rattle.formula.specs.Tree.{formula_view}
use Rattle.narrowing.specs.Holding.{AreLost, FailsWith}
use Rattle.narrowing.proofs.holding.can_hold_with_any.Given as goal

abbrev pub invariant-ids : goal.invariant-ids
invariant-ids l = AreLost (FailsWith l.scene l.var (formula_view l.f)) l.ids l.rest

abbrev pub decreases-ids : goal.decreases-ids
decreases-ids l = length l.rest
