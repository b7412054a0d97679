use Rattle.std.proofs.Common.{◌≡◌, ◌+◌, ◌*◌, false, sym, ap, subst, ◌∙◌}
use Rattle.std.proofs.lemmas.List.{get_or_default}
use Rattle.places.specs.declared.boxes.TheConstants.{BLOCK}
use Rattle.places.specs.Boxes.{patch_at, AreFound}
use Rattle.places.specs.Patches.{empty_patch, meets}
use Rattle.places.proofs.CoverLemmas.{zeros}
use Rattle.places.proofs.NearLemmas.{block_found, passed_found}
use Rattle.places.proofs.boxes.found_near.Goals as goal
use Rattle.places.proofs.boxes.found_near.Goals.{then-meets+in_ok-push_near, else-meets}

pub walk-preserved : goal.walk-preserved
walk-preserved c =
    let b = c.walk.block in let covers = c.args.covers.now in let numbers = c.args.numbers.now in let patches = c.args.patches.now in
    let area = c.args.area.now in let found = c.walk.found.items in
    elim c.if-meets.branch [
      | then-meets+in_ok-push_near w ↦
          subst (AreFound (BLOCK * (b + 1)) covers numbers patches area) (sym (ap (λ v. v.items) w.found-is))
          (block_found b covers numbers patches area found w.push_near.new.found.items c.walk.invariant w.in_ok-push_near.ensures)
      | else-meets w ↦
          let none : meets (patch_at covers b) area ≡ false =
          sym (ap (λ p. meets p area) (get_or_default covers b zeros empty_patch c.walk-test.true)) ∙ sym c.meets.ensures ∙ w.if-meets.false in
          subst (AreFound (BLOCK * (b + 1)) covers numbers patches area) (sym (ap (λ v. v.items) w.found-is))
          (passed_found b covers numbers patches area found c.walk.invariant none)
    ]
