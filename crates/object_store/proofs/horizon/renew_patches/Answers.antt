use Rattle.std.proofs.Common.{length, subst, sym, ap, ◌∙◌, arith}
use Rattle.std.proofs.lemmas.List.{length-set, length-map}
use Rattle.std.proofs.lemmas.Option.{slice_get_within}
use Rattle.places.specs.Boxes.{Horizon, patch_at}
use Rattle.object_store.specs.ObjectView.{objects_of, stored}
use Rattle.object_store.specs.Placing.{ArePlacedIn, IsPlaced}
use Rattle.object_store.proofs.EntryLemmas.{value_begun, value_there}
use Rattle.object_store.proofs.PlaceLemmas.{placed_more}
use Rattle.object_store.proofs.horizon.renew_patches.Goals as goal

pub patch-patch-requires-clause-begun : goal.patch-patch-requires-clause-begun
patch-patch-requires-clause-begun c = value_begun c.args.objects.now.entries c.objects.index c.index.result.now c.args.from c.index.ensures c.requires.begun

pub objects-preserved : goal.objects-preserved
objects-preserved c =
    let objects = objects_of c.args.objects.now.entries in
    let at = value_there c.args.objects.now.entries c.objects.index c.index.result.now c.index.ensures in
    let patch = c.patch-patch.result in
    record {
      long = ap (λ (h : Horizon). length h.patches) c.set.ensures ∙ length-set c.objects.boxes.patches c.objects.index patch ∙ c.objects.invariant.long;
      each = λ k o below is.
          subst (λ (h : Horizon). IsPlaced c.args.from c.args.upto (patch_at h.patches k) o.epochs) (sym c.set.ensures)
          (placed_more c.args.from c.args.upto c.objects.index c.objects.boxes.patches objects patch at.object c.objects.invariant.long at.there
          (subst (λ epochs. IsPlaced c.args.from c.args.upto patch epochs) (sym at.epochs) c.patch-patch.ensures) c.objects.invariant.each k o below is);
    }

pub returns : goal.returns
returns c =
    let objects = objects_of c.args.objects.now.entries in
    subst (λ (h : Horizon). ArePlacedIn c.args.from h objects) (sym c.renew.ensures)
    (record {
      tick = c.requires.tick;
      long = c.objects.invariant.long;
      each = λ k o is. c.objects.invariant.each k o
          (omega (arith, slice_get_within objects k o is, length-map c.args.objects.now.entries stored, c.objects-test.false, c.len-index-end.ensures.len)) is;
    })
