-- What an attempt makes of the database, and how it is taken back before it is final.
use Rattle.std.specs.Prelude.{◌≡◌, ◌-◌, ◌<◌, ◌≤◌, take, length}
use Rattle.object_store.specs.TakingBack.{undone, without_last_class, HasEmptyLastClass, IsRevertible}
use Rattle.database.specs.declared.change.Change.{Change}
use Rattle.database.specs.declared.change.Change.TheVariants as changes
use Rattle.database.specs.declared.database.Database.{Database}

-- the database without a change
abbrev pub without : Change → Database → Database
without changes.Class d = record d { store = without_last_class d.store }
without changes.Region d = record d { regions = take (length d.regions - 1) d.regions }
without (changes.Object done) d = record d { store = undone done.undo d.store }
without (changes.Clock ticks) d = record d { clock = d.clock - ticks }

-- the change is the last one that was made
abbrev pub IsLast : Change → Database → Type 0
IsLast changes.Class d = (0 < length d.store.classes) × HasEmptyLastClass d.store
IsLast changes.Region d = 0 < length d.regions
IsLast (changes.Object done) d = IsRevertible done.undo d.store
IsLast (changes.Clock ticks) d = ticks ≤ d.clock

-- the change made the database new of old
pub record TakesBackChange (change : Change) (old new : Database) : Type 0 where
  pub last : IsLast change new
  pub before : without change new ≡ old
