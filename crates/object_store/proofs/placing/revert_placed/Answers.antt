use Rattle.std.proofs.Common.{◌≡◌, ◌-◌, length, take, subst, sym, ap, ◌∙◌, arith, if◌then◌else◌}
use Rattle.std.proofs.lemmas.List.{length-map}
use Rattle.std.proofs.lemmas.Option.{slice_get_within}
use Rattle.places.specs.declared.horizons.Places.{Places}
use Rattle.object_store.specs.AtIndex.{restored_at}
use Rattle.object_store.specs.Contents.{Contents}
use Rattle.object_store.specs.ObjectView.{objects_of, stored}
use Rattle.object_store.specs.Placing.{AreOthersPlaced, ArePlaced}
use Rattle.object_store.specs.TakingBack.{IsLeft}
use Rattle.object_store.proofs.PlaceLemmas.{all_others_after, all_popped, length-restored_at}
use Rattle.object_store.proofs.placing.revert_placed.Goals as goal

pub set_patches-requires-clause-index : goal.set_patches-requires-clause-index
set_patches-requires-clause-index c =
    let objects = objects_of c.args.tables.now.objects.entries in
    let left = subst (λ b. IsLeft b c.args.undo objects) c.if-is_new.false c.requires.revertible.left in
    let new : objects_of c.revert.new.self.objects.entries ≡ restored_at c.args.undo.id c.args.undo.replaced objects =
    ap (λ (s : Contents). s.objects) c.revert.ensures.contents
    ∙ ap (λ b. if b then take (length objects - 1) objects else restored_at c.args.undo.id c.args.undo.replaced objects) c.if-is_new.false in
    omega (
      arith,
      slice_get_within objects c.args.undo.id left.0 left.1,
      length-map c.revert.new.self.objects.entries stored,
      ap length new,
      length-restored_at c.args.undo.id c.args.undo.replaced objects,
    )

pub set_patches-requires-clause-others : goal.set_patches-requires-clause-others
set_patches-requires-clause-others c =
    let objects = objects_of c.args.tables.now.objects.entries in
    let new : objects_of c.revert.new.self.objects.entries ≡ restored_at c.args.undo.id c.args.undo.replaced objects =
    ap (λ (s : Contents). s.objects) c.revert.ensures.contents
    ∙ ap (λ b. if b then take (length objects - 1) objects else restored_at c.args.undo.id c.args.undo.replaced objects) c.if-is_new.false in
    subst (AreOthersPlaced c.args.undo.id c.args.places.now) (sym new)
    (all_others_after c.args.undo.id c.args.undo.replaced c.args.places.now objects c.requires.placed)

pub returns-then-is_new-clause-placed : goal.returns-then-is_new-clause-placed
returns-then-is_new-clause-placed c =
    let objects = objects_of c.args.tables.now.objects.entries in
    let new : objects_of c.revert.new.self.objects.entries ≡ take (length objects - 1) objects =
    ap (λ (s : Contents). s.objects) c.revert.ensures.contents
    ∙ ap (λ b. if b then take (length objects - 1) objects else restored_at c.args.undo.id c.args.undo.replaced objects) c.if-is_new.true in
    subst (ArePlaced c.pop.new.self) (sym new)
    (subst (λ (p : Places). ArePlaced p (take (length objects - 1) objects)) (sym c.pop.ensures) (all_popped c.args.places.now objects c.requires.placed))
