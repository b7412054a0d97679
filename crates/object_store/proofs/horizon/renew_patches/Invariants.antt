use Rattle.std.proofs.Common.{◌≡◌, ℕ, ◌<◌, Some, length}
use Rattle.std.specs.Prelude.{slice_get}
use Rattle.places.specs.Boxes.{patch_at}
use Rattle.object_store.specs.Contents.{StoredObject}
use Rattle.object_store.specs.ObjectView.{objects_of}
use Rattle.object_store.specs.Placing.{IsPlaced}
use Rattle.object_store.proofs.horizon.renew_patches.Given as goal

-- the patches so far are for the new ticks
abbrev pub invariant-objects : goal.invariant-objects
invariant-objects l = record {
  long : length l.boxes.patches ≡ length (objects_of l.objects.entries);
  each : (k : ℕ) (o : StoredObject) → k < l.index → slice_get (objects_of l.objects.entries) k ≡ Some o → IsPlaced l.from l.upto (patch_at l.boxes.patches k) o.epochs;
}
