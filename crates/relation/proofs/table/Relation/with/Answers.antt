use Rattle.std.proofs.Common.{◌≡◌, ◌≤◌, ℕ, true, List, length, ap, sym, subst, ◌∙◌}
use Rattle.std.specs.List.Sorted.{IsStrictlyIncreasing}
use Rattle.relation.specs.Frames.{Frame}
use Rattle.relation.specs.Key.{are_known}
use Rattle.relation.specs.Walk.{covers}
use Rattle.relation.proofs.UnionLemmas.{known_union, union_covers_left, union_covers_right}
use Rattle.relation.proofs.table.Relation.with.Goals as goal

pub walked-requires-clause-known : goal.walked-requires-clause-known
walked-requires-clause-known g c =
    (λ i. are_known c.args.self.now.domains ((c.vars-3.ensures.value ∙ c.vars_of_both-vars.ensures) i))
    ∙ known_union c.args.self.now.domains c.vars.result.now c.vars-2.result.now c.vars.ensures.known
    (subst (λ (d : List (List ℕ)). are_known d c.vars-2.result.now ≡ true) (ap (λ (f : Frame). f.domains) c.requires.frame) c.vars-2.ensures.known)

pub walked-requires-clause-left : goal.walked-requires-clause-left
walked-requires-clause-left g c =
    let few = subst (λ (n : ℕ). n ≤ 4) (c.len.ensures.count ∙ ap length c.domains.ensures) c.len.ensures.few in
    (λ i. covers ((c.vars-3.ensures.value ∙ c.vars_of_both-vars.ensures) i) (sym c.vars.ensures.value i))
    ∙ union_covers_left c.args.self.now.domains c.vars.result.now c.vars-2.result.now few c.vars.ensures.known
    (subst (λ (us : List ℕ). IsStrictlyIncreasing us) (sym c.vars.ensures.value) c.requires.left)

pub walked-requires-clause-right : goal.walked-requires-clause-right
walked-requires-clause-right g c =
    let few = subst (λ (n : ℕ). n ≤ 4) (c.len.ensures.count ∙ ap length c.domains.ensures) c.len.ensures.few in
    let known = subst (λ (d : List (List ℕ)). are_known d c.vars-2.result.now ≡ true) (ap (λ (f : Frame). f.domains) c.requires.frame) c.vars-2.ensures.known in
    (λ i. covers ((c.vars-3.ensures.value ∙ c.vars_of_both-vars.ensures) i) (sym c.vars-2.ensures.value i))
    ∙ union_covers_right c.args.self.now.domains c.vars.result.now c.vars-2.result.now few known
    (subst (λ (us : List ℕ). IsStrictlyIncreasing us) (sym c.vars-2.ensures.value) c.requires.right)
