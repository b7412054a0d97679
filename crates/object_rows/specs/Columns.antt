-- The first row of a text: `name`, and then different columns, each of an attribute's value or of the rate of a dynamic one.
use Rattle.std.specs.Prelude.{◌≡◌, ◌⊎◌, ℕ, ◌&&◌, not, Bool, true, false, Option, Some, None, IsSome, option_map, List, [], ◌∷◌, ◌++◌, codes, if◌then◌else◌}
use Rattle.std.specs.List.{find, flat_map}
use Rattle.std.specs.Option.{option_or}
use Rattle.std.specs.Str.{bytes_eq}
use Rattle.exact.specs.Options.{◌>>=◌}
use Rattle.motion.specs.declared.cell.AttrKind.{AttrKind}
use Rattle.motion.specs.declared.cell.AttrKind.TheVariants as kinds
use Rattle.history.specs.Write.{Attribute}
use Rattle.object_store.specs.Faults.{attribute_named, repeats}
use Rattle.object_rows.specs.declared.columns.Column.{Column}
use Rattle.object_rows.specs.declared.columns.Form.{Form}
use Rattle.object_rows.specs.declared.columns.Form.TheVariants as forms

abbrev pub is_dynamic : AttrKind → Bool
is_dynamic kinds.Num = false
is_dynamic kinds.Text = false
is_dynamic kinds.Dyn = true

-- what a field of the value of an attribute is
abbrev pub value_form : AttrKind → Form
value_form kinds.Num = forms.Number
value_form kinds.Text = forms.Text
value_form kinds.Dyn = forms.Number

-- fuel.rate
abbrev pub rate_name : List ℕ → List ℕ
rate_name name = name ++ codes ".rate"

abbrev pub is_rate_of : List ℕ → Attribute → Bool
is_rate_of field a = is_dynamic a.kind && bytes_eq field (rate_name a.name)

abbrev pub value_column : List Attribute → List ℕ → Option Column
value_column attributes field = option_map (λ a. record { attribute = a.name; form = value_form a.kind }) (attribute_named attributes field)

abbrev pub rate_column : List Attribute → List ℕ → Option Column
rate_column attributes field = option_map (λ a. record { attribute = a.name; form = forms.Rate }) (find (is_rate_of field) attributes)

-- the column of a field of the first row, None where no attribute has it
abbrev pub column_of : List Attribute → List ℕ → Option Column
column_of attributes field = option_or (value_column attributes field) (rate_column attributes field)

-- the columns of such fields, if each has one
abbrev pub each_column : List Attribute → List (List ℕ) → Option (List Column)
each_column attributes [] = Some []
each_column attributes (field ∷ fields) = do
  column ← column_of attributes field
  later ← each_column attributes fields
  Some (column ∷ later)

abbrev pub name_field : List ℕ
name_field = codes "name"

-- the columns after the first one
abbrev pub columns_of : List Attribute → List (List ℕ) → Option (List Column)
columns_of attributes [] = None
columns_of attributes (first ∷ fields) =
    if bytes_eq first name_field && not (repeats (λ field. field) fields) then each_column attributes fields else None

-- there is no row, or one that a text can begin with
abbrev pub IsNoneOrFirst : List Attribute → List (List ℕ) → Type 0
IsNoneOrFirst attributes fields = (fields ≡ []) ⊎ IsSome (columns_of attributes fields)

-- ---- The first row of an exported text: every column of the class

abbrev pub columns_of_attribute : Attribute → List (List ℕ)
columns_of_attribute a = if is_dynamic a.kind then (a.name ∷ rate_name a.name ∷ []) else (a.name ∷ [])

abbrev pub header_of : List Attribute → List (List ℕ)
header_of attributes = name_field ∷ flat_map columns_of_attribute attributes
