use Rattle.std.proofs.Common.{◌<◌, ℕ, List, length, sym, subst}
use Rattle.std.specs.List.Sorted.{IsStrictlyIncreasing}
use Rattle.formula_shape.specs.declared.limits.TheConstants.{OBJECT_LIMIT}
use Rattle.relation.proofs.HeldLemmas.{held_more}
use Rattle.relation.proofs.domains.Domains.push.Goals as goal

pub invariant_of-self : goal.invariant_of-self
invariant_of-self c =
    held_more c.self.inside.lists c.self.inside.count c.in_ok-ids.ids c.self.invariant
    (subst (λ (lists : List (List ℕ)). length lists < OBJECT_LIMIT) (sym c.self.view_is) c.requires.few)
    (subst IsStrictlyIncreasing (sym c.in_ok-ids.ensures.items) c.requires.ascending)
