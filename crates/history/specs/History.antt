-- What a list of writes tells, and a store as well.
use Rattle.std.specs.Prelude.{◌≡◌, ℕ, ◌<◌, ◌==◌, false, Option, List, length, slice_get, take}
use Rattle.std.specs.Option.{option_and_then}
use Rattle.motion.specs.declared.cell.Cell.{Cell}
use Rattle.history.specs.Write.{Write}
use Rattle.history.specs.Catalog.{Catalog, catalog}
use Rattle.history.specs.State.{state}

-- the classes and objects, and the state of each name at each tick
pub record History : Type 0 where
  pub catalog : Catalog
  pub state : List ℕ → ℕ → Option (List Cell)

abbrev pub history : List Write → History
history writes = record { catalog = catalog writes; state = state writes }

-- the cells of an object, by its number, at a tick; None where it is absent
abbrev pub cells_at : History → ℕ → ℕ → Option (List Cell)
cells_at h id t = option_and_then (λ o. h.state o.name t) (slice_get h.catalog.objects id)

-- What an accepted write at tick `now` changes of the object of a number: its states from then on. The classes, the
-- objects that were there, their order and the states of each other object stay; an object of a new name comes last.
pub record ChangesFrom (id now : ℕ) (old new : History) : Type 0 where
  pub classes : new.catalog.classes ≡ old.catalog.classes
  pub objects : take (length old.catalog.objects) new.catalog.objects ≡ old.catalog.objects
  pub others : (i t : ℕ) → (i == id) ≡ false → cells_at new i t ≡ cells_at old i t
  pub past : (t : ℕ) → t < now → cells_at new id t ≡ cells_at old id t
