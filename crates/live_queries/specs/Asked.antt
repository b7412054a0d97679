-- What a world and a store must be for queries to be judged in them.
use Rattle.std.specs.Prelude.{◌≡◌, ℕ, List, All, length, slice_get, take}
use Rattle.std.specs.Option.{option_map_or}
use Rattle.history.specs.Catalog.{Catalog}
use Rattle.history.specs.World.{World}
use Rattle.meaning.specs.Fits.{FitsItsClasses}
use Rattle.object_store.specs.Contents.{Contents, IsObjectId}
use Rattle.live_queries.specs.Columns.{HaveCapacitiesOf, HaveObjectsOf}
use Rattle.live_queries.specs.Kept.{KeptQuery}
use Rattle.live_queries.specs.Renewed.{AddsAtMost}

-- a registered query fits a world, whose classes have the capacities that they had when it was registered
pub record FitsWorld (w : World) (k : KeptQuery) : Type 0 where
  pub fits : FitsItsClasses w k.query
  pub capacities : HaveCapacitiesOf w.history.catalog k.query.classes k.columns

-- One object may have been added to those of an old catalog, at the end.
pub record ExtendsCatalog (id : ℕ) (old new : Catalog) : Type 0 where
  pub objects : take (length old.objects) new.objects ≡ old.objects
  pub adds : AddsAtMost id old new

-- the variables of registered queries range over the objects from before a write to one object
pub record HaveObjectsBefore (id : ℕ) (new : Catalog) (live : List KeptQuery) : Type 0 where
  pub old : Catalog
  pub before : ExtendsCatalog id old new
  pub objects : All (λ k. HaveObjectsOf old k.query.classes k.columns) live

-- the class of an object, by its number
abbrev pub class_in : Contents → ℕ → ℕ
class_in s id = option_map_or (λ o. o.class) (slice_get s.objects id) 0

-- a store has the object, in the class
pub record IsObjectWithClass (store : Contents) (id number : ℕ) : Type 0 where
  pub there : IsObjectId store id
  pub class : number ≡ class_in store id
