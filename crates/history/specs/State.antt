-- The state of an object at a tick: absent, or one cell for each attribute of its class.
use Rattle.std.specs.Prelude.{ℕ, ◌&&◌, nat_le, Option, None, Some, List, map, slice_get, if◌then◌else◌}
use Rattle.std.specs.List.{fold}
use Rattle.std.specs.Option.{option_map}
use Rattle.std.specs.Str.{bytes_eq}
use Rattle.motion.specs.declared.cell.Cell.{Cell}
use Rattle.motion.specs.declared.cell.NamedSet.{NamedSet}
use Rattle.motion.specs.declared.cell.Place.{Place}
use Rattle.motion.specs.Cells.{fresh, cells_after}
use Rattle.history.specs.Write.{Attribute, Write, Class, Insert, Update, Remove}
use Rattle.history.specs.Catalog.{Catalog, ObjectInfo, empty_catalog, catalog_after, class_of, object_of, attributes_of_class}

abbrev pub attribute_names : List Attribute → List (List ℕ)
attribute_names attributes = map (λ a. a.name) attributes

-- the attributes of the class of an object
abbrev pub attributes_of_object : Catalog → Option ObjectInfo → List Attribute
attributes_of_object c None = attributes_of_class None
attributes_of_object c (Some o) = attributes_of_class (slice_get c.classes o.class)

-- An insert begins with fresh cells and writes what it names.
abbrev pub inserted : ℕ → List Attribute → Place → List NamedSet → List Cell
inserted s attributes place sets =
    cells_after s (attribute_names attributes) (map (λ a. fresh s a.kind) attributes) place sets

-- An update writes what it names.
abbrev pub updated : ℕ → List Attribute → Place → List NamedSet → List Cell → List Cell
updated s attributes place sets cells = cells_after s (attribute_names attributes) cells place sets

-- the cells of object o at tick t after one more write, made when the catalog was c
abbrev pub cells_after_write : Catalog → List ℕ → ℕ → Option (List Cell) → Write → Option (List Cell)
cells_after_write c o t cells (Class name capacity point attributes) = cells
cells_after_write c o t cells (Insert s class name place sets) =
    if bytes_eq o name && nat_le s t
    then Some (inserted s (attributes_of_class (class_of c class)) place sets)
    else cells
cells_after_write c o t cells (Update s name place sets) =
    if bytes_eq o name && nat_le s t
    then option_map (updated s (attributes_of_object c (object_of c o)) place sets) cells
    else cells
cells_after_write c o t cells (Remove s name) = if bytes_eq o name && nat_le s t then None else cells

-- what the writes so far come to: the catalog, and the cells of one object at one tick
pub record SoFar : Type 0 where
  pub catalog : Catalog
  pub cells : Option (List Cell)

abbrev pub after_write : List ℕ → ℕ → SoFar → Write → SoFar
after_write o t so_far write = record {
  catalog = catalog_after so_far.catalog write;
  cells = cells_after_write so_far.catalog o t so_far.cells write;
}

-- the state of object o at tick t: the fold of the writes up to t, each read with the classes made before it
abbrev pub state : List Write → List ℕ → ℕ → Option (List Cell)
state writes o t = (fold (after_write o t) (record { catalog = empty_catalog; cells = None }) writes).cells
