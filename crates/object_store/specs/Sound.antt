-- What is always true of the contents of a store.
use Rattle.std.specs.Prelude.{◌≡◌, ℕ, ◌+◌, ◌<◌, ◌≤◌, false, IsTrue, All, Some, List, [], map, length, take, slice_get, slice_index_or, if◌then◌else◌}
use Rattle.std.specs.List.{IsDistinct}
use Rattle.std.specs.Option.{ForSome}
use Rattle.std.specs.Str.{bytes_eq}
use Rattle.motion.specs.declared.cell.Cell.{Cell}
use Rattle.motion.specs.declared.cell.Cell.TheVariants as cells
use Rattle.motion.specs.Timeline.{Epoch, AreBegunBy}
use Rattle.history.specs.Write.{Attribute}
use Rattle.history.specs.Catalog.{ClassInfo, coordinates}
use Rattle.tick_set.specs.declared.spans.TheConstants.{LAST_TICK}
use Rattle.object_store.specs.declared.schema.TheConstants.{CLASS_LIMIT}
use Rattle.motion.specs.declared.limits.TheConstants.{CAPACITY_LIMIT, ATTRIBUTE_LIMIT}
use Rattle.motion.specs.Cells.{kind_of}
use Rattle.object_store.specs.Faults.{repeats_attribute}
use Rattle.object_store.specs.Contents.{StoredObject, Contents, attributes_of_number, ids_in}

-- one cell for each attribute, of its kind
abbrev pub AreCellsOf : List Attribute → List Cell → Type 0
AreCellsOf attributes cells = map kind_of cells ≡ map (λ a. a.kind) attributes

-- so are the cells of each epoch in which the object is present
abbrev pub AreEpochsOf : List Attribute → List Epoch → Type 0
AreEpochsOf attributes epochs = All (λ p. ForSome p.cells (AreCellsOf attributes)) epochs

-- A class has a capacity of 1 to 100,000 and at most 16 attributes that were written, and no two of one name.
-- A point class begins with x and y.
pub record IsClass (k : ClassInfo) : Type 0 where
  pub some_capacity : 0 < k.capacity
  pub within_limit : k.capacity ≤ CAPACITY_LIMIT
  pub few : length k.attributes ≤ (if k.point then ATTRIBUTE_LIMIT + 2 else ATTRIBUTE_LIMIT)
  pub positions : IsTrue k.point → take 2 k.attributes ≡ coordinates
  pub differ : repeats_attribute k.attributes ≡ false

-- at most 64 classes, of different names
pub record AreClasses (classes : List ClassInfo) : Type 0 where
  pub few : length classes ≤ CLASS_LIMIT
  pub names : IsDistinct bytes_eq (map (λ k. k.name) classes)
  pub each : All IsClass classes

-- the objects of the classes, when all were written by a tick
pub record AreObjects (classes : List ClassInfo) (objects : List StoredObject) (last_tick : ℕ) : Type 0 where
  pub names : IsDistinct bytes_eq (map (λ o. o.name) objects)
  pub classed : All (λ o. o.class < length classes) objects
  pub fitted : All (λ o. AreEpochsOf (attributes_of_number classes o.class) o.epochs) objects
  pub begun : All (λ o. AreBegunBy o.epochs last_tick) objects
  pub within : (number : ℕ) (k : ClassInfo) → slice_get classes number ≡ Some k → length (ids_in objects number) ≤ k.capacity

pub record IsSound (s : Contents) : Type 0 where
  pub classes : AreClasses s.classes
  pub objects : AreObjects s.classes s.objects s.last_tick
  pub tick : s.last_tick ≤ LAST_TICK

-- the lists of ids that are kept for each class are those of its objects
pub record AreMembers (members : List (List ℕ)) (s : Contents) : Type 0 where
  pub count : length members ≡ length s.classes
  pub each : (number : ℕ) → number < length s.classes → slice_index_or members number [] ≡ ids_in s.objects number
