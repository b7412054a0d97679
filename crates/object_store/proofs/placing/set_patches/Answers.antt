use Rattle.std.proofs.Common.{subst, sym, arith}
use Rattle.places.specs.declared.horizons.Places.{Places}
use Rattle.object_store.specs.ObjectView.{objects_of}
use Rattle.object_store.specs.Placing.{ArePlaced, HavePatches}
use Rattle.object_store.proofs.EntryLemmas.{value_begun, value_there}
use Rattle.object_store.proofs.PlaceLemmas.{all_set, begun_later, others_end}
use Rattle.object_store.proofs.placing.set_patches.Goals as goal

pub patches-patches-requires-clause-begun : goal.patches-patches-requires-clause-begun
patches-patches-requires-clause-begun c =
    value_begun c.args.objects.now.entries c.args.index c.index.result.now c.max-from.result c.index.ensures
    (begun_later (objects_of c.args.objects.now.entries) c.args.tick c.max-from.result (omega (arith, c.max-from.ensures)) c.requires.begun)

pub patches-patches-requires-clause-ends : goal.patches-patches-requires-clause-ends
patches-patches-requires-clause-ends c = others_end c.args.index c.args.places.now (objects_of c.args.objects.now.entries) c.requires.others

pub returns : goal.returns
returns c =
    let entries = c.args.objects.now.entries in
    let from = c.max-from.result in
    let patches = c.patches-patches.result in
    let at = value_there entries c.args.index c.index.result.now c.index.ensures in
    subst (λ (p : Places). ArePlaced (record p { from = from }) (objects_of entries)) (sym c.set.ensures)
    (all_set c.args.index from c.args.places.now (objects_of entries) patches at.object (omega (arith, c.max-from.ensures)) at.there c.requires.others
    (subst (HavePatches from c.args.places.now patches) (sym at.epochs) c.patches-patches.ensures))
