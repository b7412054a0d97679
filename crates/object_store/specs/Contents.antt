-- What a contract sees of a store: its classes, and its objects with their timelines.
use Rattle.std.specs.Prelude.{ℕ, ◌==◌, Bool, is_some, Option, option_and_then, List, [], map, slice_get, ◌≤◌, ◌<◌, length, ◌≡◌, position, Some}
use Rattle.std.specs.List.{filter, find, enumerate_from}
use Rattle.std.specs.Option.{option_map_or}
use Rattle.std.specs.Str.{bytes_eq}
use Rattle.motion.specs.declared.cell.Cell.{Cell}
use Rattle.motion.specs.Timeline.{Epoch, state_at}
use Rattle.history.specs.Write.{Attribute}
use Rattle.history.specs.Catalog.{ClassInfo, ObjectInfo, Catalog}
use Rattle.history.specs.History.{History}
use Rattle.tick_set.specs.Ticks.{IsTick}

-- an object that was ever inserted: its name, the number of its class, and the epochs of its timeline
pub record StoredObject : Type 0 where
  pub name : List ℕ
  pub class : ℕ
  pub epochs : List Epoch

-- classes in the order of making, objects in the order of first insertion, and the tick of the last write to an object
pub record Contents : Type 0 where
  pub classes : List ClassInfo
  pub objects : List StoredObject
  pub last_tick : ℕ

abbrev pub empty_contents : Contents
empty_contents = record { classes = []; objects = []; last_tick = 0 }

-- the attributes of a class by its number
abbrev pub attributes_of_number : List ClassInfo → ℕ → List Attribute
attributes_of_number classes number = option_map_or (λ k. k.attributes) (slice_get classes number) []

abbrev pub object_info : StoredObject → ObjectInfo
object_info o = record { name = o.name; class = o.class }

abbrev pub catalog_of : Contents → Catalog
catalog_of s = record { classes = s.classes; objects = map object_info s.objects }

abbrev pub is_named : List ℕ → StoredObject → Bool
is_named name o = bytes_eq name o.name

-- the cells of the object of a name at a tick, None where it is absent
abbrev pub state_of : Contents → List ℕ → ℕ → Option (List Cell)
state_of s name t = option_and_then (λ o. state_at o.epochs t) (find (is_named name) s.objects)

-- what a store tells
abbrev pub history_of : Contents → History
history_of s = record { catalog = catalog_of s; state = state_of s }

-- the indexes of the objects of a class, by its number
abbrev pub ids_in : List StoredObject → ℕ → List ℕ
ids_in objects number = map (λ e. e.0) (filter (λ e. e.1.class == number) (enumerate_from 0 objects))

-- whether an object has cells at a tick
abbrev pub is_present_at : ℕ → StoredObject → Bool
is_present_at t o = is_some (state_at o.epochs t)

-- the name of an object by its id
abbrev pub object_name : List StoredObject → ℕ → List ℕ
object_name objects id = option_map_or (λ o. o.name) (slice_get objects id) []

-- no object is written after the tick
abbrev pub HasNoWriteAfter : Contents → ℕ → Type 0
HasNoWriteAfter s t = s.last_tick ≤ t

-- an object has the id
abbrev pub IsObjectId : Contents → ℕ → Type 0
IsObjectId s id = id < length s.objects

-- a class has the number
abbrev pub IsClassNumber : Contents → ℕ → Type 0
IsClassNumber s number = number < length s.classes

-- the object of the name has the id
abbrev pub IsNamedAt : Contents → List ℕ → ℕ → Type 0
IsNamedAt s name id = position (is_named name) s.objects ≡ Some id

-- an object can be written at the tick
pub record CanWriteAt (s : Contents) (now : ℕ) : Type 0 where
  pub tick : IsTick now
  pub after : HasNoWriteAfter s now
