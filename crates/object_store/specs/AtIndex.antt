-- A change of the timeline of one object, by its index.
use Rattle.std.specs.Prelude.{◌≡◌, ℕ, zero, suc, Option, Some, List, [], ◌∷◌, slice_get}
use Rattle.motion.specs.Timeline.{Epoch, put, restored, TakesBack}
use Rattle.object_store.specs.Contents.{StoredObject}

-- the objects, that of the index with the epochs that `change` makes of its own
abbrev pub at_index : ℕ → (List Epoch → List Epoch) → List StoredObject → List StoredObject
at_index index change [] = []
at_index zero change (o ∷ os) = record o { epochs = change o.epochs } ∷ os
at_index (suc index) change (o ∷ os) = o ∷ at_index index change os

-- the last epoch of the object of an index gives way to the one that it had replaced, where there is one
abbrev pub restored_at : ℕ → Option Epoch → List StoredObject → List StoredObject
restored_at index replaced objects = at_index index (λ epochs. restored epochs replaced) objects

-- the object of the index has one more epoch, made of those that it had, and that can be taken back
pub record GainsEpochAt (index : ℕ) (epoch : List Epoch → Epoch) (replaced : Option Epoch) (old new : List StoredObject) : Type 0 where
  pub written : new ≡ at_index index (λ epochs. put epochs (epoch epochs)) old
  pub back : (o : StoredObject) → slice_get old index ≡ Some o → TakesBack o.epochs (put o.epochs (epoch o.epochs)) replaced
