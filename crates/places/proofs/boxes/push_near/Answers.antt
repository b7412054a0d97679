use Rattle.std.proofs.Common.{◌+◌, sym, subst, ◌∙◌, ap}
use Rattle.places.specs.Boxes.{AddsFound}
use Rattle.places.proofs.NearLemmas.{none_found, one_found}
use Rattle.places.proofs.boxes.push_near.Goals as goal
use Rattle.places.proofs.boxes.push_near.Goals.{then-meets_at+in_ok-push, else-meets_at}

pub slots-preserved : goal.slots-preserved
slots-preserved c =
    let n = c.args.start in let s = c.slots.slot in let numbers = c.args.numbers.now in let patches = c.args.patches.now in
    let area = c.args.area.now in let old = c.args.found.now.items in let found = c.slots.found.items in
    elim c.if-meets_at.branch [
      | then-meets_at+in_ok-push w ↦
          subst (AddsFound n (s + 1) numbers patches area old) (sym (ap (λ v. v.items) w.found-is ∙ w.in_ok-push.ensures.items))
          (one_found n s numbers patches area old found c.slots.invariant (rw w.if-meets_at.true at c.meets_at.ensures.met))
      | else-meets_at w ↦
          subst (AddsFound n (s + 1) numbers patches area old) (sym (ap (λ v. v.items) w.found-is))
          (none_found n s numbers patches area old found c.slots.invariant (rw w.if-meets_at.false at c.meets_at.ensures.apart))
    ]
