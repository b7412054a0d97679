-- What a command that writes to an object makes of the objects of the store.
use Rattle.std.specs.Prelude.{◌≡◌, ℕ, ◌==◌, Bool, true, false, List, slice_get}
use Rattle.std.specs.Option.{option_map_or}
use Rattle.motion.specs.Timeline.{last_begun}
use Rattle.object_store.specs.Contents.{StoredObject}
use Rattle.command_text.specs.Tree
use Rattle.command_text.specs.Tree.{CommandTree}
use Rattle.database.specs.declared.change.Change.{Change}
use Rattle.database.specs.declared.change.Change.TheVariants as changes
use Rattle.database.specs.declared.database.Database.{Database}

-- the last epoch of the object of a number begins at a tick, and the other objects are as before
pub record WritesOneObject (id now : ℕ) (old new : List StoredObject) : Type 0 where
  pub begins : option_map_or (λ o. last_begun o.epochs) (slice_get new id) 0 ≡ now
  pub others : (i : ℕ) → (i == id) ≡ false → slice_get new i ≡ slice_get old i

-- a command that writes to an object
abbrev pub writes_object : CommandTree → Bool
writes_object (Tree.Insert class name place sets) = true
writes_object (Tree.Update name place sets) = true
writes_object (Tree.Remove name) = true
writes_object c = false

-- what a command makes of them by its change, and whether it writes to one
abbrev pub WritesByCommand : CommandTree → Change → Database → Database → Type 0
WritesByCommand c (changes.Object done) old new = WritesOneObject done.id old.clock old.store.objects new.store.objects × (writes_object c ≡ true)
WritesByCommand c change old new = writes_object c ≡ false
