use Rattle.std.proofs.Common.{◌≡◌, ◌/◌, ◌<◌, length, get_or, set, sym, subst, ◌∙◌, arith}
use Rattle.std.proofs.lemmas.List.{get_or_default}
use Rattle.places.specs.declared.boxes.TheConstants.{BLOCK}
use Rattle.places.specs.Boxes.{AreArranged, Horizon}
use Rattle.places.proofs.CoverLemmas.{covers_set, widened}
use Rattle.places.proofs.boxes.Boxes.set.Goals as goal

pub invariant_of-self : goal.invariant_of-self
invariant_of-self c =
    let covers = c.self.inside.covers.items in let patches = c.self.inside.patches.items in
    let slots = c.self.inside.slots.items in let numbers = c.self.inside.numbers.items in
    let number = c.args.number in
    let within : number < length patches = subst (λ (h : Horizon). number < length h.patches) (sym c.self.view_is) c.requires in
    let slot_is : c.index.result.now ≡ get_or slots number 0 =
    c.index.ensures ∙ get_or_default slots number c.index.result.now 0 (omega (arith, within, c.self.invariant.long)) in
    rw c.widen.ensures
    (subst (λ s. AreArranged (widened covers (s / BLOCK) c.args.patch) (set patches number c.args.patch) slots numbers) (sym slot_is)
    (covers_set covers patches slots numbers number c.args.patch c.self.invariant within))
