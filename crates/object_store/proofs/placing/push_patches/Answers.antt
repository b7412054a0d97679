use Rattle.std.proofs.Common.{◌≡◌, ◌-◌, Some, length, subst, sym, ◌∙◌, arith}
use Rattle.std.specs.Prelude.{slice_get}
use Rattle.std.proofs.lemmas.List.{length-map}
use Rattle.places.specs.declared.horizons.Places.{Places}
use Rattle.object_store.specs.ObjectView.{objects_of, stored}
use Rattle.object_store.specs.Placing.{ArePlaced, HavePatches}
use Rattle.object_store.proofs.EntryLemmas.{value_begun, value_there}
use Rattle.object_store.proofs.PlaceLemmas.{all_end, all_pushed, begun_later}
use Rattle.object_store.proofs.placing.push_patches.Goals as goal

pub patches-patches-requires-clause-begun : goal.patches-patches-requires-clause-begun
patches-patches-requires-clause-begun c =
    value_begun c.args.objects.now.entries _ c.index.result.now c.max-from.result c.index.ensures
    (begun_later (objects_of c.args.objects.now.entries) c.args.tick c.max-from.result (omega (arith, c.max-from.ensures)) c.requires.begun)

pub patches-patches-requires-clause-ends : goal.patches-patches-requires-clause-ends
patches-patches-requires-clause-ends c = all_end c.args.places.now _ c.requires.others

pub returns-clause-ok : goal.returns-clause-ok
returns-clause-ok c =
    let entries = c.args.objects.now.entries in
    let objects = objects_of entries in
    let from = c.max-from.result in
    let patches = c.patches-patches.result in
    let at = value_there entries _ c.index.result.now c.index.ensures in
    let there : slice_get objects (length objects - 1) ≡ Some at.object =
    subst (λ n. slice_get objects (n - 1) ≡ Some at.object) (c.len.ensures.len ∙ sym (length-map entries stored)) at.there in
    subst (λ (p : Places). ArePlaced (record p { from = from }) objects) (sym c.in_ok-push.ensures.ok)
    (all_pushed from c.args.places.now objects patches at.object (omega (arith, c.max-from.ensures)) there c.requires.others
    (subst (HavePatches from c.args.places.now patches) (sym at.epochs) c.patches-patches.ensures))
