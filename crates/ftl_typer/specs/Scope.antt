-- What the names in a query stand for, and of which kind and how large the values of terms are.
use Rattle.std.specs.Prelude.{ℕ, pos, Bool, true, false, not, ◌&&◌, ◌||◌, is_none, is_some, nat_le, Option, unwrap_or, option_map, option_and_then, List, [], ◌∷◌, ◌++◌, map, find, position, slice_get, if◌then◌else◌}
use Rattle.std.specs.List.{list_any}
use Rattle.std.specs.Option.{option_map_or}
use Rattle.std.specs.Str.{bytes_eq}
use Rattle.fixed_point.specs.declared.number.TheConstants.{FIX_LIMIT}
use Rattle.geometry.specs.Region.{Region, region_number}
use Rattle.motion.specs.declared.cell.AttrKind.{AttrKind}
use Rattle.motion.specs.declared.cell.AttrKind.TheVariants as kinds
use Rattle.history.specs.Catalog.{ClassInfo, class_number}
use Rattle.formula.specs.Bounds.{term_bound}
use Rattle.formula.specs.declared.tree.RSigned.{RSigned}
use Rattle.formula.specs.declared.tree.RTerm.{RTerm}
use Rattle.formula.specs.declared.tree.RUnit.{RUnit}
use Rattle.formula.specs.declared.tree.RUnit.TheVariants as runits
use Rattle.meaning.specs.Value.{attribute_bound}
use Rattle.ftl_parser.specs.declared.tree.FromPart.{FromPart}
use Rattle.ftl_parser.specs.declared.tree.Signed.{Signed}
use Rattle.ftl_parser.specs.declared.tree.Term.{Term}
use Rattle.ftl_parser.specs.declared.tree.Unit as unit_type
use Rattle.ftl_parser.specs.declared.tree.Unit.TheVariants as units
use Rattle.ftl_typer.specs.declared.values.Assigned.{Assigned}
use Rattle.formula.specs.declared.value.ValueKind.{ValueKind}
use Rattle.formula.specs.declared.value.ValueKind.TheVariants.{Number, Text}

-- What a name stands for, and the value variables in whose scope one stands, the innermost last.
pub record NameScope : Type 0 where
  -- the number of the first variable of FROM of that name
  pub variable : List ℕ → Option ℕ
  -- the class of that variable
  pub class : List ℕ → Option ClassInfo
  -- the number of the region of that name
  pub region : List ℕ → Option ℕ
  pub values : List Assigned

abbrev pub class_named : List ClassInfo → List ℕ → Option ClassInfo
class_named classes name = option_and_then (slice_get classes) (class_number classes name)

-- where there are these classes, these regions and these parts of FROM
abbrev pub scope_with : List ClassInfo → List Region → List FromPart → List Assigned → NameScope
scope_with classes regions from values = record {
  variable = λ name. position (λ part. bytes_eq name part.var) from;
  class = λ name. option_and_then (λ part. class_named classes part.class) (find (λ part. bytes_eq name part.var) from);
  region = region_number regions;
  values = values;
}

-- around the formula of a query no value variable is in scope
abbrev pub scope_of : List ClassInfo → List Region → List FromPart → NameScope
scope_of classes regions from = scope_with classes regions from []

-- ---- names

abbrev pub is_variable : NameScope → List ℕ → Bool
is_variable s name = is_some (s.variable name)

-- the depth of the value variable of that name
abbrev pub value_of : NameScope → List ℕ → Option ℕ
value_of s name = position (λ v. bytes_eq name v.name) s.values

abbrev pub value_named : NameScope → List ℕ → Option Assigned
value_named s name = find (λ v. bytes_eq name v.name) s.values

abbrev pub is_value : NameScope → List ℕ → Bool
is_value s name = is_some (value_of s name)

abbrev pub is_point : NameScope → List ℕ → Bool
is_point s name = option_map_or (λ k. k.point) (s.class name) false

-- the number of an attribute of a variable, and its kind
abbrev pub attribute_position : NameScope → List ℕ → List ℕ → Option ℕ
attribute_position s o a = option_and_then (λ k. position (λ attribute. bytes_eq a attribute.name) k.attributes) (s.class o)

abbrev pub named_attribute_kind : NameScope → List ℕ → List ℕ → Option AttrKind
named_attribute_kind s o a =
    option_and_then (λ k. option_map (λ attribute. attribute.kind) (find (λ attribute. bytes_eq a attribute.name) k.attributes))
    (s.class o)

-- ---- what is wrong of a name at its place

abbrev pub is_unknown : NameScope → List ℕ → Bool
is_unknown s name = not (is_variable s name) && not (is_value s name)

-- a value variable, where an object must stand
abbrev pub is_no_object : NameScope → List ℕ → Bool
is_no_object s name = not (is_variable s name) && is_value s name

-- an object, where a point must stand
abbrev pub is_no_point : NameScope → List ℕ → Bool
is_no_point s name = is_variable s name && not (is_point s name)

-- an attribute of an object that the object's class hasn't
abbrev pub lacks_attribute : NameScope → List ℕ → List ℕ → Bool
lacks_attribute s o a = is_variable s o && is_none (named_attribute_kind s o a)

abbrev pub is_static : AttrKind → Bool
is_static kinds.Num = true
is_static kinds.Text = true
is_static kinds.Dyn = false

-- an attribute that has no sub-attributes
abbrev pub has_no_parts : NameScope → List ℕ → List ℕ → Bool
has_no_parts s o a = option_map_or is_static (named_attribute_kind s o a) false

-- an assigned name that something has already
abbrev pub is_name_taken : NameScope → List ℕ → Bool
is_name_taken s name = is_variable s name || is_value s name

-- ---- numbers for names; what isn't there stands for 0

abbrev pub variable_number : NameScope → List ℕ → ℕ
variable_number s name = unwrap_or (s.variable name) 0

abbrev pub attribute_number : NameScope → List ℕ → List ℕ → ℕ
attribute_number s o a = unwrap_or (attribute_position s o a) 0

abbrev pub bound_of_value : NameScope → List ℕ → ℕ
bound_of_value s name = option_map_or (λ v. v.bound) (value_named s name) 0

abbrev pub bound_of_attribute : NameScope → List ℕ → List ℕ → ℕ
bound_of_attribute s o a = option_map_or attribute_bound (named_attribute_kind s o a) 0

abbrev pub resolved_unit : NameScope → unit_type.Unit → RUnit
resolved_unit s (units.Literal n) = runits.Literal n
resolved_unit s (units.Text text) = runits.Text text
resolved_unit s (units.Alone name) = runits.Var (unwrap_or (value_of s name) 0) (pos (bound_of_value s name))
resolved_unit s (units.Attr o a) = runits.Attr (variable_number s o) (attribute_number s o a) (pos (bound_of_attribute s o a))
resolved_unit s (units.Sub o a part) = runits.Sub (variable_number s o) (attribute_number s o a) part
resolved_unit s units.Time = runits.Time

abbrev pub resolved_factor : NameScope → Signed → RSigned
resolved_factor s f = record { minus = f.minus; times = f.times; unit = resolved_unit s f.unit }

abbrev pub resolved_term : NameScope → Term → RTerm
resolved_term s t = record { factors = map (resolved_factor s) t.factors }

-- ---- terms

abbrev pub is_text_kind : AttrKind → Bool
is_text_kind kinds.Num = false
is_text_kind kinds.Text = true
is_text_kind kinds.Dyn = false

abbrev pub is_kind_of_text : ValueKind → Bool
is_kind_of_text Number = false
is_kind_of_text Text = true

-- whether the value of a unit is a text
abbrev pub is_text_unit : NameScope → unit_type.Unit → Bool
is_text_unit s (units.Literal n) = false
is_text_unit s (units.Text text) = true
is_text_unit s (units.Alone name) = option_map_or (λ v. is_kind_of_text v.kind) (value_named s name) false
is_text_unit s (units.Attr o a) = option_map_or is_text_kind (named_attribute_kind s o a) false
is_text_unit s (units.Sub o a part) = false
is_text_unit s units.Time = false

-- a term with a text among its factors counts as a text, each other one as a number
abbrev pub has_text : NameScope → Term → Bool
has_text s t = list_any (λ f. is_text_unit s f.unit) t.factors

abbrev pub named_term_kind : NameScope → Term → ValueKind
named_term_kind s t = if has_text s t then Text else Number

-- one factor, with neither a sign nor a multiplier
abbrev pub is_bare : List Signed → Bool
is_bare (f ∷ []) = not f.minus && is_none f.times
is_bare _ = false

-- a text that stands with a sign, a multiplier or a second factor
abbrev pub is_misplaced_text : NameScope → Term → Bool
is_misplaced_text s t = has_text s t && not (is_bare t.factors)

abbrev pub is_past_range : NameScope → Term → Bool
is_past_range s t = not (nat_le (term_bound (resolved_term s t)) FIX_LIMIT)

-- A bound that passes 10^18 is a fault of its own, and stands for 0 behind it.
abbrev pub bound_in_range : ℕ → ℕ
bound_in_range bound = if nat_le bound FIX_LIMIT then bound else 0

-- what an assignment binds
abbrev pub assigned : NameScope → List ℕ → Term → Assigned
assigned s name t = record { name = name; kind = named_term_kind s t; bound = bound_in_range (term_bound (resolved_term s t)) }

abbrev pub scope_inside : NameScope → Assigned → NameScope
scope_inside s value = record s { values = s.values ++ value ∷ [] }

-- in the scope of an assignment
abbrev pub with_assigned : NameScope → List ℕ → Term → NameScope
with_assigned s name t = scope_inside s (assigned s name t)
