use Rattle.std.proofs.Common.{◌≡◌, ℕ, length}
use Rattle.evaluator.specs.inner.ByBinding.{any_member}
use Rattle.evaluator.proofs.sets.union_of.Given as goal

abbrev pub invariant-sets : goal.invariant-sets
invariant-sets g l = (t : ℕ) → any_member g.S.TickSet.member l.sets.items t ≡ any_member g.S.TickSet.member l.initial.sets.items t

abbrev pub decreases-sets : goal.decreases-sets
decreases-sets g l = length l.sets.items
