use Rattle.std.proofs.Common.{rules, ◌≡◌, ◌+◌, ◌-◌, ◌/◌, ◌<◌, ◌≤◌, length, vec_len, get_or, set, take, sym, ap, subst, ◌∙◌, arith}
use Rattle.std.proofs.lemmas.List.{get_or_default, length-take-le}
use Rattle.places.specs.declared.boxes.TheConstants.{BLOCK}
use Rattle.places.specs.Boxes.{patch_at, AreArranged}
use Rattle.places.specs.Patches.{empty_patch}
use Rattle.places.proofs.CoverLemmas.{widened}
use Rattle.places.proofs.SlotLemmas.{popped_moved, popped_plain}
use Rattle.places.proofs.boxes.Boxes.pop.Goals as goal

pub invariant_of-self-else-number-last : goal.invariant_of-self-else-number-last
invariant_of-self-else-number-last c =
    let covers = c.self.inside.covers.items in let patches = c.self.inside.patches.items in
    let slots = c.self.inside.slots.items in let numbers = c.self.inside.numbers.items in
    let held = c.self.invariant in let last = c.len-last.result - 1 in
    let count : c.len-last.result ≡ length patches = search rules in
    let some : 0 < c.len-last.result = search rules in
    let one : length patches ≡ last + 1 = omega (arith, count, some) in
    let within : last < length numbers = omega (arith, one, held.long, held.slots_are.long) in
    let slots_count : vec_len c.self.inside.slots ≡ length slots = search rules in
    let numbers_count : vec_len c.self.inside.numbers ≡ length numbers = search rules in
    let slots_last : vec_len c.self.inside.slots - 1 ≡ last = omega (arith, slots_count, held.long, count) in
    let numbers_last : vec_len c.self.inside.numbers - 1 ≡ last = omega (arith, numbers_count, held.slots_are.long, held.long, count) in
    let number_is : c.index-number.result.now ≡ get_or numbers last 0 = c.index-number.ensures ∙ get_or_default numbers last c.index-number.result.now 0 within in
    let patches_is : c.pop.new.self.items ≡ take last patches = c.pop.ensures.rest ∙ ap (λ n. take (n - 1) patches) (sym c.len-last.ensures) in
    let slots_is : c.pop-2.new.self.items ≡ take last slots = c.pop-2.ensures.rest ∙ ap (λ n. take n slots) slots_last in
    let numbers_is : c.pop-3.new.self.items ≡ take last numbers = c.pop-3.ensures.rest ∙ ap (λ n. take n numbers) numbers_last in
    rw (patches_is, slots_is, numbers_is)
    (popped_plain covers patches slots numbers last one held (subst (λ n. last ≤ n) number_is c.if-number-last.false))

pub invariant_of-self : goal.invariant_of-self
invariant_of-self c =
    let covers = c.self.inside.covers.items in let patches = c.self.inside.patches.items in
    let slots = c.self.inside.slots.items in let numbers = c.self.inside.numbers.items in
    let held = c.self.invariant in let last = c.len-last.result - 1 in
    let number = c.index-number.result.now in let slot = c.index-slot.result.now in
    let count : c.len-last.result ≡ length patches = search rules in
    let some : 0 < c.len-last.result = search rules in
    let one : length patches ≡ last + 1 = omega (arith, count, some) in
    let within : last < length numbers = omega (arith, one, held.long, held.slots_are.long) in
    let seated : last < length slots = omega (arith, one, held.long) in
    let slots_count : vec_len c.self.inside.slots ≡ length slots = search rules in
    let numbers_count : vec_len c.self.inside.numbers ≡ length numbers = search rules in
    let slots_last : vec_len c.self.inside.slots - 1 ≡ last = omega (arith, slots_count, held.long, count) in
    let numbers_last : vec_len c.self.inside.numbers - 1 ≡ last = omega (arith, numbers_count, held.slots_are.long, held.long, count) in
    let number_is : number ≡ get_or numbers last 0 = c.index-number.ensures ∙ get_or_default numbers last number 0 within in
    let slot_is : slot ≡ get_or slots last 0 = c.index-slot.ensures ∙ get_or_default slots last slot 0 seated in
    let patches_is : c.pop.new.self.items ≡ take last patches = c.pop.ensures.rest ∙ ap (λ n. take (n - 1) patches) (sym c.len-last.ensures) in
    let slots_is : c.pop-2.new.self.items ≡ take last slots = c.pop-2.ensures.rest ∙ ap (λ n. take n slots) slots_last in
    let numbers_is : c.pop-3.new.self.items ≡ take last numbers = c.pop-3.ensures.rest ∙ ap (λ n. take n numbers) numbers_last in
    let left : length (take last patches) ≡ last = length-take-le last patches (omega (arith, one)) in
    let patch_is : c.index.result.now ≡ patch_at (take last patches) number =
    c.index.ensures ∙ ap (λ ps. get_or ps number c.index.result.now) patches_is
    ∙ get_or_default (take last patches) number c.index.result.now empty_patch (omega (arith, left, c.if-number-last.true)) in
    rw (c.widen.ensures, patches_is, slots_is, numbers_is)
    (subst (λ p. AreArranged (widened covers (slot / BLOCK) p) (take last patches) (set (take last slots) number slot) (set (take last numbers) slot number)) (sym patch_is)
    (popped_moved covers patches slots numbers last number slot one held number_is slot_is c.if-number-last.true).1)
