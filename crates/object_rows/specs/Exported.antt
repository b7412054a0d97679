-- The text of a class's objects: every column of the class, and a row for each present object.
use Rattle.std.specs.Prelude.{ℕ, Option, None, Some, List, [], ◌∷◌, slice_get}
use Rattle.std.specs.List.{flat_map}
use Rattle.csv.specs.Writing.{default_writer, row_text}
use Rattle.fixed_point.specs.Canonical.{fix_text}
use Rattle.motion.specs.declared.cell.Cell.{Cell}
use Rattle.motion.specs.declared.cell.Cell.TheVariants as cells
use Rattle.motion.specs.Dynamic.{slope_at, value_at}
use Rattle.history.specs.Catalog.{Catalog, attributes_of_class, ids_of, name_of}
use Rattle.history.specs.History.{History, cells_at}
use Rattle.history.specs.Write.{Attribute}
use Rattle.object_rows.specs.Columns.{header_of}

-- of a dynamic attribute the value that is implied at a tick, and the slope then
abbrev pub cell_fields : ℕ → Cell → List (List ℕ)
cell_fields now (cells.Num n) = fix_text n ∷ []
cell_fields now (cells.Text w) = w ∷ []
cell_fields now (cells.Dyn v) = fix_text (value_at v now) ∷ fix_text (slope_at v now) ∷ []

abbrev pub object_fields : ℕ → List ℕ → List Cell → List (List ℕ)
object_fields now name object = name ∷ flat_map (cell_fields now) object

-- the row of an object with these cells, none where it is absent
abbrev pub state_rows : ℕ → List ℕ → Option (List Cell) → List (List (List ℕ))
state_rows now name None = []
state_rows now name (Some object) = object_fields now name object ∷ []

-- that of an object by its number
abbrev pub object_rows : History → ℕ → ℕ → List (List (List ℕ))
object_rows h now id = state_rows now (name_of h.catalog id) (cells_at h id now)

-- the attributes of the class of a number
abbrev pub attributes_at : Catalog → ℕ → List Attribute
attributes_at catalog class = attributes_of_class (slice_get catalog.classes class)

-- the objects of the class of a number, in the order of first insertion
abbrev pub class_rows : History → ℕ → ℕ → List (List (List ℕ))
class_rows h now class = header_of (attributes_at h.catalog class) ∷ flat_map (object_rows h now) (ids_of h.catalog class)

-- what is exported of a class at a tick
unfoldable pub exported : History → ℕ → ℕ → List ℕ
exported h now class = flat_map (row_text default_writer) (class_rows h now class)
