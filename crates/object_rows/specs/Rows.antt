-- Which objects a text of csv holds. The text is read as csv reads it by default, with no special first row.
use Rattle.std.specs.Prelude.{◌≡◌, ◌⊎◌, ℕ, Bool, Option, Some, None, IsSome, option_map, List, [], ◌∷◌, if◌then◌else◌}
use Rattle.std.specs.List.{fold}
use Rattle.std.specs.Str.{bytes_eq}
use Rattle.exact.specs.Options.{◌>>=◌}
use Rattle.csv.specs.Reading.{default_config, records, strip_bom}
use Rattle.motion.specs.declared.cell.Given.{Given}
use Rattle.motion.specs.declared.cell.Given.TheVariants as givens
use Rattle.motion.specs.declared.cell.NamedSet.{NamedSet}
use Rattle.history.specs.Write.{Attribute}
use Rattle.object_rows.specs.declared.columns.Column.{Column}
use Rattle.object_rows.specs.declared.rows.ObjectRow.{ObjectRow}
use Rattle.object_rows.specs.Columns.{columns_of}
use Rattle.object_rows.specs.Fields.{given_by, is_object_name}

-- ---- The settings of a row

-- the setting that a field is by itself
abbrev pub part_of : Column → List ℕ → Option NamedSet
part_of column field = option_map (λ given. record { name = column.attribute; given = given }) (given_by column.form field)

-- those of the fields, one for each column
abbrev pub parts_of : List Column → List (List ℕ) → Option (List NamedSet)
parts_of [] [] = Some []
parts_of [] (field ∷ fields) = None
parts_of (column ∷ columns) [] = None
parts_of (column ∷ columns) (field ∷ fields) = do
  part ← part_of column field
  later ← parts_of columns fields
  Some (part ∷ later)

-- a value and a rate of one attribute are given together
abbrev pub both : Given → Given → Given
both (givens.Num n) (givens.Rate f) = givens.Both n f
both (givens.Rate f) (givens.Num n) = givens.Both n f
both first second = first

abbrev pub joined_setting : NamedSet → NamedSet → NamedSet
joined_setting set part = record { name = set.name; given = both set.given part.given }

abbrev pub is_set_of : NamedSet → NamedSet → Bool
is_set_of part set = bytes_eq part.name set.name

-- a part joins the setting of its attribute, or is one more
abbrev pub with_part : List NamedSet → NamedSet → List NamedSet
with_part [] part = part ∷ []
with_part (set ∷ sets) part = if is_set_of part set then (joined_setting set part ∷ sets) else (set ∷ with_part sets part)

abbrev pub settings_of : List NamedSet → List NamedSet
settings_of parts = fold with_part [] parts

-- ---- Rows

-- the object of a row under these columns: its name and its settings
abbrev pub row_of : List Column → List (List ℕ) → Option ObjectRow
row_of columns [] = None
row_of columns (name ∷ fields) =
    if is_object_name name then option_map (λ parts. record { name = name; sets = settings_of parts }) (parts_of columns fields) else None

-- there is no row, or one that can stand under these columns
abbrev pub IsNoneOrRight : List Column → List (List ℕ) → Type 0
IsNoneOrRight columns fields = (fields ≡ []) ⊎ IsSome (row_of columns fields)

abbrev pub each_row : List Column → List (List (List ℕ)) → Option (List ObjectRow)
each_row columns [] = Some []
each_row columns (row ∷ rows) = do
  object ← row_of columns row
  later ← each_row columns rows
  Some (object ∷ later)

-- the objects of the rows after the first
abbrev pub rows_of : List Attribute → List (List (List ℕ)) → Option (List ObjectRow)
rows_of attributes [] = None
rows_of attributes (header ∷ rows) = columns_of attributes header >>= (λ columns. each_row columns rows)

-- the objects that a text holds for a class with these attributes, None where it isn't of the format
unfoldable pub rows_in : List Attribute → List ℕ → Option (List ObjectRow)
rows_in attributes text = rows_of attributes (records default_config (strip_bom text))
