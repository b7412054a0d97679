-- The classes and the names of objects, as the writes tell them.
use Rattle.std.specs.Prelude.{ℕ, ◌==◌, ◌*◌, Bool, Option, None, Some, slice_get, List, [], ◌∷◌, ◌++◌, map, codes, if◌then◌else◌}
use Rattle.std.specs.List.{enumerate_from, filter, find, list_any, fold, position}
use Rattle.std.specs.Option.{option_map_or}
use Rattle.std.specs.Str.{bytes_eq}
use Rattle.motion.specs.declared.cell.AttrKind.TheVariants as kinds
use Rattle.history.specs.Write.{Attribute, Write, Class, Insert, Update, Remove}

-- a class, with all its attributes
pub record ClassInfo : Type 0 where
  pub name : List ℕ
  pub capacity : ℕ
  pub point : Bool
  pub attributes : List Attribute

-- an object that was ever inserted, and the number of its class
pub record ObjectInfo : Type 0 where
  pub name : List ℕ
  pub class : ℕ

-- Classes in the order of making, objects in the order of first insertion. The index of each, counted from 0, is its number.
pub record Catalog : Type 0 where
  pub classes : List ClassInfo
  pub objects : List ObjectInfo

abbrev pub empty_catalog : Catalog
empty_catalog = record { classes = []; objects = [] }

-- the attributes of a point
abbrev pub coordinates : List Attribute
coordinates = record { name = codes "x"; kind = kinds.Dyn } ∷ record { name = codes "y"; kind = kinds.Dyn } ∷ []

-- a point class has the coordinates before the attributes that were written
abbrev pub with_coordinates : Bool → List Attribute → List Attribute
with_coordinates point attributes = if point then (coordinates ++ attributes) else attributes

abbrev pub class_of : Catalog → List ℕ → Option ClassInfo
class_of c name = find (λ k. bytes_eq name k.name) c.classes

-- the number of a class by its name
abbrev pub class_number : List ClassInfo → List ℕ → Option ℕ
class_number classes name = position (λ k. bytes_eq name k.name) classes

abbrev pub number_of_class : Catalog → List ℕ → Option ℕ
number_of_class c name = class_number c.classes name

-- how many objects a class may have, none where it isn't there
abbrev pub capacity_of : List ClassInfo → ℕ → ℕ
capacity_of classes class = option_map_or (λ k. k.capacity) (slice_get classes class) 0

abbrev pub product_of : List ℕ → ℕ
product_of [] = 1
product_of (n ∷ ns) = n * product_of ns

-- how many bindings there may come to be of objects of these classes
abbrev pub most_bindings : List ClassInfo → List ℕ → ℕ
most_bindings classes numbers = product_of (map (capacity_of classes) numbers)

abbrev pub object_of : Catalog → List ℕ → Option ObjectInfo
object_of c name = find (λ o. bytes_eq name o.name) c.objects

abbrev pub has_object : Catalog → List ℕ → Bool
has_object c name = list_any (λ o. bytes_eq name o.name) c.objects

-- with one more object, of the class of a number; a class that isn't there takes none
abbrev pub with_new_object : Catalog → Option ℕ → List ℕ → Catalog
with_new_object c None name = c
with_new_object c (Some class) name = record c { objects = c.objects ++ record { name = name; class = class } ∷ [] }

-- the catalog after one more write
abbrev pub catalog_after : Catalog → Write → Catalog
catalog_after c (Class name capacity point attributes) = record c {
  classes = c.classes
      ++ record { name = name; capacity = capacity; point = point; attributes = with_coordinates point attributes } ∷ [];
}
catalog_after c (Insert tick class name place sets) =
    if has_object c name then c else with_new_object c (number_of_class c class) name
catalog_after c (Update tick name place sets) = c
catalog_after c (Remove tick name) = c

abbrev pub catalog : List Write → Catalog
catalog writes = fold catalog_after empty_catalog writes

-- the attributes of a class, none where it isn't there
abbrev pub attributes_of_class : Option ClassInfo → List Attribute
attributes_of_class None = []
attributes_of_class (Some k) = k.attributes

-- the name of an object, by its number
abbrev pub name_of : Catalog → ℕ → List ℕ
name_of c id = option_map_or (λ o. o.name) (slice_get c.objects id) []

-- the numbers of the objects of a class, ascending
abbrev pub ids_of : Catalog → ℕ → List ℕ
ids_of c class = map (λ e. e.0) (filter (λ e. e.1.class == class) (enumerate_from 0 c.objects))

-- the names ever inserted into a class, by first insertion
abbrev pub names : Catalog → ℕ → List (List ℕ)
names c class = map (λ o. o.name) (filter (λ o. o.class == class) c.objects)

-- the same of a class that may not be there
abbrev pub names_in : Catalog → Option ℕ → List (List ℕ)
names_in c None = []
names_in c (Some class) = names c class
