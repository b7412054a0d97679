use Rattle.std.proofs.Common.{length}
use Rattle.formula.specs.Tree.{formula_view}
use Rattle.object_store.specs.Searching.{IsSearched}
use Rattle.narrowing.specs.Holding.{FailsWith}
use Rattle.narrowing.proofs.holding.those_to_hold.Given as goal

-- with those before the rest that aren't found the formula holds nowhere
abbrev pub invariant-ids : goal.invariant-ids
invariant-ids l = IsSearched (FailsWith l.scene l.var (formula_view l.f)) l.ids l.found.items l.rest

abbrev pub decreases-ids : goal.decreases-ids
decreases-ids l = length l.rest
