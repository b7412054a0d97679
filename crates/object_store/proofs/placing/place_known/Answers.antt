use Rattle.std.proofs.Common.{◌-◌, length, take, subst, arith, if◌then◌else◌}
use Rattle.std.proofs.lemmas.List.{length-map}
use Rattle.std.proofs.lemmas.Option.{slice_get_within}
use Rattle.object_store.specs.AtIndex.{restored_at}
use Rattle.object_store.specs.ObjectView.{objects_of, stored}
use Rattle.object_store.specs.Placing.{ArePlaced}
use Rattle.object_store.specs.TakingBack.{IsLeft}
use Rattle.object_store.proofs.PlaceLemmas.{all_others_before}
use Rattle.object_store.proofs.placing.place_known.Goals as goal

pub set_patches-requires-clause-index : goal.set_patches-requires-clause-index
set_patches-requires-clause-index c =
    let objects = objects_of c.args.tables.now.objects.entries in
    let left = subst (λ b. IsLeft b c.args.undo.now objects) c.requires.known c.requires.revertible.left in
    omega (arith, slice_get_within objects c.args.undo.now.id left.0 left.1, length-map c.args.tables.now.objects.entries stored)

pub set_patches-requires-clause-others : goal.set_patches-requires-clause-others
set_patches-requires-clause-others c =
    let objects = objects_of c.args.tables.now.objects.entries in
    all_others_before c.args.undo.now.id c.args.undo.now.replaced c.args.places.now objects
    (subst (λ b. ArePlaced c.args.places.now (if b then take (length objects - 1) objects else restored_at c.args.undo.now.id c.args.undo.now.replaced objects)) c.requires.known
    c.requires.placed)
