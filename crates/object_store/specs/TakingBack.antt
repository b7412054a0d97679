-- How a write to an object is taken back.
use Rattle.std.specs.Prelude.{◌≡◌, ◌+◌, ◌-◌, Bool, true, false, Some, List, length, take, slice_get, if◌then◌else◌}
use Rattle.motion.specs.Timeline.{StandsAsLeft}
use Rattle.object_store.specs.declared.objects.Undo.{Undo}
use Rattle.object_store.specs.Contents.{StoredObject, Contents}
use Rattle.object_store.specs.AtIndex.{restored_at}
use Rattle.object_store.specs.Sound.{IsSound}

-- the contents once a call is taken back: a new name goes, else the object's timeline is as before
abbrev pub undone : Undo → Contents → Contents
undone undo s = record s {
  objects = if undo.is_new then take (length s.objects - 1) s.objects else restored_at undo.id undo.replaced s.objects;
  last_tick = undo.last_tick;
}

-- the object that a call wrote stands as it left it
abbrev pub IsLeft : Bool → Undo → List StoredObject → Type 0
IsLeft true undo objects = undo.id + 1 ≡ length objects
IsLeft false undo objects =
    (o : StoredObject) × (slice_get objects undo.id ≡ Some o) × StandsAsLeft o.epochs undo.replaced

-- The store stands as the call left it: what the call wrote is the last write to its object, and can be taken back.
pub record IsRevertible (undo : Undo) (s : Contents) : Type 0 where
  pub left : IsLeft undo.is_new undo s.objects
  pub sound : IsSound (undone undo s)

-- A call made the contents `new` of `old`, and answered how to take it back.
pub record Undoes (undo : Undo) (old new : Contents) : Type 0 where
  pub revertible : IsRevertible undo new
  pub before : undone undo new ≡ old

-- the contents without the last class
abbrev pub without_last_class : Contents → Contents
without_last_class s = record s { classes = take (length s.classes - 1) s.classes }

-- The last class has no object, and can be taken back.
pub record HasEmptyLastClass (s : Contents) : Type 0 where
  pub sound : IsSound (without_last_class s)
