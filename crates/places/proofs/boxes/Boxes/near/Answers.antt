use Rattle.std.proofs.Common.{◌*◌, eqb, length, ap, subst, ◌∙◌}
use Rattle.std.proofs.lemmas.List.Filters.{dedup_is}
use Rattle.places.specs.declared.boxes.TheConstants.{BLOCK}
use Rattle.places.specs.Boxes.{numbers_near, AreFound, Horizon}
use Rattle.places.proofs.NearLemmas.{all_found}
use Rattle.places.proofs.boxes.Boxes.near.Goals as goal

pub returns : goal.returns
returns c =
    let area = c.args.area.now in let found = c.in_ok-found.found.items in let sorted = c.sort_unstable.new.self.items in
    let covers = c.self.inside.covers.items in let numbers = c.self.inside.numbers.items in let patches = c.self.inside.patches.items in
    let are : AreFound (BLOCK * length covers) covers numbers patches area found =
    subst (λ ps. AreFound (BLOCK * length covers) covers numbers ps area found) c.deref-3.ensures.value
    (subst (λ ns. AreFound (BLOCK * length covers) covers ns c.deref-3.result.now area found) c.deref-2.ensures.value
    (subst (λ cs. AreFound (BLOCK * length cs) cs c.deref-2.result.now c.deref-3.result.now area found) c.deref.ensures.value c.in_ok-found.ensures)) in
    dedup_is eqb sorted c.dedup.new.self.items c.dedup.ensures.filtered
    ∙ all_found covers patches c.self.inside.slots.items numbers area found sorted c.self.invariant are c.sort_unstable.ensures.permutation c.sort_unstable.ensures.sorted
    ∙ ap (λ (h : Horizon). numbers_near h.patches area) c.self.view_is
