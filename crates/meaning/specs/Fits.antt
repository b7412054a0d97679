-- Whether a query by number fits the classes of its variables: each attribute is there, each value is of a kind that
-- its place takes, and the bound beside each attribute is that of its kind.
use Rattle.std.specs.Prelude.{◌≡◌, ℕ, ℤ, pos, ◌<◌, ◌==◌, Bool, true, false, ◌&&◌, nat_lt, Option, None, Some, unwrap_or, option_map, option_and_then, List, length, map, slice_get, slice_index, IsTrue, if◌then◌else◌}
use Rattle.std.specs.List.{list_all, list_any, reduce}
use Rattle.std.specs.Option.{option_map_or}
use Rattle.std.specs.Ordering.{int_eq}
use Rattle.case_table.specs.declared.compare.Op.{Op}
use Rattle.motion.specs.declared.cell.AttrKind.{AttrKind}
use Rattle.motion.specs.declared.cell.AttrKind.TheVariants as kinds
use Rattle.history.specs.Catalog.{Catalog, ClassInfo, ids_of}
use Rattle.history.specs.World.{World}
use Rattle.formula_shape.specs.Shape as shapes
use Rattle.formula.specs.declared.tree.RAtom.{RAtom}
use Rattle.formula.specs.declared.tree.RAtom.TheVariants as atoms
use Rattle.formula.specs.declared.tree.RSigned.{RSigned}
use Rattle.formula.specs.declared.tree.RTerm.{RTerm}
use Rattle.formula.specs.declared.tree.RUnit.{RUnit}
use Rattle.formula.specs.declared.tree.RUnit.TheVariants as units
use Rattle.formula.specs.declared.value.Env.{Env}
use Rattle.formula.specs.declared.value.Value.{Value}
use Rattle.formula.specs.declared.value.Value.TheVariants as values
use Rattle.formula.specs.declared.value.ValueKind.{ValueKind}
use Rattle.formula.specs.declared.value.ValueKind.TheVariants.{Number, Text}
use Rattle.formula.specs.Kinds.{may_compare}
use Rattle.formula.specs.Tree.{ResolvedQuery, ResolvedTree}
use Rattle.formula.specs.Value.{value_in}
use Rattle.meaning.specs.Value.{attribute_bound}

abbrev pub value_kind : Value → ValueKind
value_kind (values.Num n) = Number
value_kind (values.Text s) = Text

-- what an attribute's values are
abbrev pub kind_of_values : AttrKind → ValueKind
kind_of_values kinds.Num = Number
kind_of_values kinds.Text = Text
kind_of_values kinds.Dyn = Number

-- the class of an object variable, where each variable has the number of its class
abbrev pub class_of_variable : Catalog → List ℕ → ℕ → Option ClassInfo
class_of_variable c classes v = option_and_then (slice_get c.classes) (slice_get classes v)

abbrev pub attribute_kind : Catalog → List ℕ → ℕ → ℕ → Option AttrKind
attribute_kind c classes v a =
    option_and_then
    (λ k. option_map (λ attribute. attribute.kind) (slice_get k.attributes a))
    (class_of_variable c classes v)

abbrev pub is_point_variable : Catalog → List ℕ → ℕ → Bool
is_point_variable c classes v = option_map_or (λ k. k.point) (class_of_variable c classes v) false

-- the kind of the values of an attribute, where the bound beside it is that of its kind
abbrev pub kind_beside : ℤ → AttrKind → Option ValueKind
kind_beside bound k = if int_eq bound (pos (attribute_bound k)) then Some (kind_of_values k) else None

-- a dynamic attribute has parts, which are numbers
abbrev pub kind_of_parts : AttrKind → Option ValueKind
kind_of_parts kinds.Num = None
kind_of_parts kinds.Text = None
kind_of_parts kinds.Dyn = Some Number

-- The kind of the value of a unit, a factor and a term, None where it doesn't fit. What an assignment around binds is
-- of the kind that the scope tells.
abbrev pub unit_kind : Catalog → List ℕ → (ℕ → Option ValueKind) → RUnit → Option ValueKind
unit_kind c classes scope (units.Literal n) = Some Number
unit_kind c classes scope (units.Text s) = Some Text
unit_kind c classes scope (units.Var d bound) = scope d
unit_kind c classes scope (units.Attr v a bound) = option_and_then (kind_beside bound) (attribute_kind c classes v a)
unit_kind c classes scope (units.Sub v a part) = option_and_then kind_of_parts (attribute_kind c classes v a)
unit_kind c classes scope units.Time = Some Number

-- a text takes neither a sign nor a multiplier
abbrev pub kind_with_sign : Bool → Option ℕ → ValueKind → Option ValueKind
kind_with_sign minus times Number = Some Number
kind_with_sign false None Text = Some Text
kind_with_sign minus times Text = None

abbrev pub factor_kind : Catalog → List ℕ → (ℕ → Option ValueKind) → RSigned → Option ValueKind
factor_kind c classes scope s = option_and_then (kind_with_sign s.minus s.times) (unit_kind c classes scope s.unit)

-- two numbers have a sum, and nothing else has
abbrev pub kind_of_sum : Option ValueKind → Option ValueKind → Option ValueKind
kind_of_sum (Some Number) (Some Number) = Some Number
kind_of_sum _ _ = None

abbrev pub term_kind : Catalog → List ℕ → (ℕ → Option ValueKind) → RTerm → Option ValueKind
term_kind c classes scope q = unwrap_or (reduce kind_of_sum (map (factor_kind c classes scope) q.factors)) None

-- two sides that have kinds, and kinds that may be compared
abbrev pub kinds_compare : Op → Option ValueKind → Option ValueKind → Bool
kinds_compare op (Some left) (Some right) = may_compare left op right
kinds_compare op _ _ = false

-- where there are so many regions
abbrev pub atom_fits : Catalog → List ℕ → ℕ → (ℕ → Option ValueKind) → RAtom → Bool
atom_fits c classes regions scope (atoms.Compare q op r) =
    kinds_compare op (term_kind c classes scope q) (term_kind c classes scope r)
atom_fits c classes regions scope (atoms.Inside v n) = is_point_variable c classes v && nat_lt n regions
atom_fits c classes regions scope (atoms.Outside v n) = is_point_variable c classes v && nat_lt n regions
atom_fits c classes regions scope (atoms.Dist v u op bound) =
    is_point_variable c classes v && is_point_variable c classes u
atom_fits c classes regions scope (atoms.Sphere r vs) = list_all (is_point_variable c classes) vs

abbrev pub no_kinds : ℕ → Option ValueKind
no_kinds d = None

abbrev pub with_kind : (ℕ → Option ValueKind) → ℕ → ValueKind → ℕ → Option ValueKind
with_kind scope d k e = if e == d then Some k else scope e

-- the kinds of the values that are bound
abbrev pub kinds_in : Env → ℕ → Option ValueKind
kinds_in x d = option_map value_kind (value_in x d)

-- what is bound is of the kinds that the scope tells
abbrev pub BindsKinds : (ℕ → Option ValueKind) → Env → Type 0
BindsKinds scope x = (d : ℕ) (k : ValueKind) → scope d ≡ Some k → kinds_in x d ≡ Some k

abbrev pub formula_fits : Catalog → List ℕ → ℕ → (ℕ → Option ValueKind) → ResolvedTree → Bool
formula_fits c classes regions scope (shapes.Truth b) = true
formula_fits c classes regions scope (shapes.Atom a) = atom_fits c classes regions scope a
formula_fits c classes regions scope (shapes.Not f) = formula_fits c classes regions scope f
formula_fits c classes regions scope (shapes.And f g) =
    formula_fits c classes regions scope f && formula_fits c classes regions scope g
formula_fits c classes regions scope (shapes.Or f g) =
    formula_fits c classes regions scope f && formula_fits c classes regions scope g
formula_fits c classes regions scope (shapes.Next f) = formula_fits c classes regions scope f
formula_fits c classes regions scope (shapes.Eventually f) = formula_fits c classes regions scope f
formula_fits c classes regions scope (shapes.Always f) = formula_fits c classes regions scope f
formula_fits c classes regions scope (shapes.Bounded form ticks f) = formula_fits c classes regions scope f
formula_fits c classes regions scope (shapes.Until form ticks f g) =
    formula_fits c classes regions scope f && formula_fits c classes regions scope g
formula_fits c classes regions scope (shapes.Assign (d, q) f) =
    option_map_or (λ k. formula_fits c classes regions (with_kind scope d k) f) (term_kind c classes scope q) false

-- its classes are there, and its formula fits them and the regions
pub record FitsItsClasses (w : World) (q : ResolvedQuery) : Type 0 where
  pub classes : IsTrue (list_all (λ k. nat_lt k (length w.history.catalog.classes)) q.classes)
  pub formula : IsTrue (formula_fits w.history.catalog q.classes (length w.regions) no_kinds q.formula)

-- a binding gives each variable an object of its class
abbrev pub BindsItsClasses : World → ResolvedQuery → (ℕ → ℕ) → Type 0
BindsItsClasses w q b = (v : ℕ) → v < length q.classes
    → IsTrue (list_any (λ id. id == b v) (ids_of w.history.catalog (slice_index q.classes v)))
