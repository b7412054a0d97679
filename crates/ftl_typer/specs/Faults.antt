-- What is wrong with the names, kinds and bounds of a query, and where. `at` is the number of names that are written before
-- a part, and `nth` the number of terms.
use Rattle.std.specs.Prelude.{ℕ, ◌+◌, ◌*◌, not, is_none, List, [], ◌∷◌, ◌++◌, length}
use Rattle.std.specs.List.{list_any}
use Rattle.std.specs.Str.{bytes_eq}
use Rattle.case_table.specs.declared.compare.Op.{Op}
use Rattle.geometry.specs.Region.{Region}
use Rattle.history.specs.Catalog.{ClassInfo, class_number}
use Rattle.formula_shape.specs.Shape as shapes
use Rattle.ftl_parser.specs.declared.tree.Atom as atom_type
use Rattle.ftl_parser.specs.declared.tree.Atom.TheVariants as atoms
use Rattle.ftl_parser.specs.declared.tree.FromPart.{FromPart}
use Rattle.ftl_parser.specs.declared.tree.Signed.{Signed}
use Rattle.ftl_parser.specs.declared.tree.Term.{Term}
use Rattle.ftl_parser.specs.declared.tree.Unit as unit_type
use Rattle.ftl_parser.specs.declared.tree.Unit.TheVariants as units
use Rattle.ftl_parser.specs.Order.{unit_names, term_names, formula_names, formula_terms}
use Rattle.ftl_parser.specs.Tree.{QueryTree, Tree}
use Rattle.ftl_typer.specs.declared.found.FaultKind.TheVariants.{UnknownName, NameTaken, WrongKind, TermRange}
use Rattle.formula.specs.Kinds.{may_compare}
use Rattle.ftl_typer.specs.Fault.{Fault, fault_if}
use Rattle.ftl_typer.specs.Scope.{NameScope, has_no_parts, is_misplaced_text, is_name_taken, is_no_object, is_no_point, is_past_range, is_unknown, is_variable, lacks_attribute, named_term_kind, scope_of, with_assigned}

-- ---- names in formulas

-- where an object must stand: the name is known, and no value variable
abbrev pub object_faults : NameScope → ℕ → List ℕ → List Fault
object_faults s at name = fault_if (is_unknown s name) UnknownName at ++ fault_if (is_no_object s name) WrongKind at

-- where a number or a text must stand: the name is known, and no variable of FROM
abbrev pub value_faults : NameScope → ℕ → List ℕ → List Fault
value_faults s at name = fault_if (is_unknown s name) UnknownName at ++ fault_if (is_variable s name) WrongKind at

-- an attribute of a variable of FROM is one of its class
abbrev pub attribute_faults : NameScope → ℕ → List ℕ → List ℕ → List Fault
attribute_faults s at o a = object_faults s at o ++ fault_if (lacks_attribute s o a) UnknownName (at + 1)

-- a sub-attribute is one of a dynamic attribute
abbrev pub part_faults : NameScope → ℕ → List ℕ → List ℕ → List Fault
part_faults s at o a = attribute_faults s at o a ++ fault_if (has_no_parts s o a) WrongKind (at + 1)

-- where a point must stand: an object of a point class
abbrev pub point_faults : NameScope → ℕ → List ℕ → List Fault
point_faults s at name = object_faults s at name ++ fault_if (is_no_point s name) WrongKind at

-- a region is there
abbrev pub region_faults : NameScope → ℕ → List ℕ → List Fault
region_faults s at name = fault_if (is_none (s.region name)) UnknownName at

-- ---- terms

abbrev pub unit_faults : NameScope → ℕ → unit_type.Unit → List Fault
unit_faults s at (units.Literal n) = []
unit_faults s at (units.Text text) = []
unit_faults s at (units.Alone name) = value_faults s at name
unit_faults s at (units.Attr o a) = attribute_faults s at o a
unit_faults s at (units.Sub o a part) = part_faults s at o a
unit_faults s at units.Time = []

abbrev pub factors_faults : NameScope → ℕ → List Signed → List Fault
factors_faults s at [] = []
factors_faults s at (f ∷ fs) = unit_faults s at f.unit ++ factors_faults s (at + length (unit_names f.unit)) fs

-- a text stands alone, without a sign and a multiplier; a bound doesn't pass 10^18
abbrev pub term_faults : NameScope → (at nth : ℕ) → Term → List Fault
term_faults s at nth t =
    fault_if (is_misplaced_text s t) WrongKind at
    ++ (factors_faults s at t.factors ++ fault_if (is_past_range s t) TermRange nth)

-- ---- atoms

abbrev pub points_faults : NameScope → ℕ → List (List ℕ) → List Fault
points_faults s at [] = []
points_faults s at (name ∷ names) = point_faults s at name ++ points_faults s (at + 1) names

abbrev pub compare_faults : NameScope → (at nth : ℕ) → Term → Op → Term → List Fault
compare_faults s at nth t op u =
    fault_if (not (may_compare (named_term_kind s t) op (named_term_kind s u))) WrongKind at
    ++ (term_faults s at nth t ++ term_faults s (at + length (term_names t)) (nth + 1) u)

abbrev pub atom_faults : NameScope → (at nth : ℕ) → atom_type.Atom → List Fault
atom_faults s at nth (atoms.Compare t op u) = compare_faults s at nth t op u
atom_faults s at nth (atoms.Inside o region) = point_faults s at o ++ region_faults s (at + 1) region
atom_faults s at nth (atoms.Outside o region) = point_faults s at o ++ region_faults s (at + 1) region
atom_faults s at nth (atoms.Dist o n op c) = point_faults s at o ++ point_faults s (at + 1) n
atom_faults s at nth (atoms.Sphere r names) = points_faults s at names

-- ---- formulas

-- an assigned name is new
abbrev pub assigned_faults : NameScope → ℕ → List ℕ → List Fault
assigned_faults s at name = fault_if (is_name_taken s name) NameTaken at

-- the scope of an assignment is the formula behind it, and not its own term
abbrev pub formula_faults : NameScope → (at nth : ℕ) → Tree → List Fault
formula_faults s at nth (shapes.Truth b) = []
formula_faults s at nth (shapes.Atom a) = atom_faults s at nth a
formula_faults s at nth (shapes.Not f) = formula_faults s at nth f
formula_faults s at nth (shapes.And f g) =
    formula_faults s at nth f ++ formula_faults s (at + length (formula_names f)) (nth + length (formula_terms f)) g
formula_faults s at nth (shapes.Or f g) =
    formula_faults s at nth f ++ formula_faults s (at + length (formula_names f)) (nth + length (formula_terms f)) g
formula_faults s at nth (shapes.Next f) = formula_faults s at nth f
formula_faults s at nth (shapes.Eventually f) = formula_faults s at nth f
formula_faults s at nth (shapes.Always f) = formula_faults s at nth f
formula_faults s at nth (shapes.Bounded form ticks f) = formula_faults s at nth f
formula_faults s at nth (shapes.Until form ticks f g) =
    formula_faults s at nth f ++ formula_faults s (at + length (formula_names f)) (nth + length (formula_terms f)) g
formula_faults s at nth (shapes.Assign (name, t) f) =
    assigned_faults s at name
    ++ (term_faults s (at + 1) nth t ++ formula_faults (with_assigned s name t) (at + 1 + length (term_names t)) (nth + 1) f)

-- ---- queries

-- a target is a variable of FROM, and none of the targets before it
abbrev pub targets_faults : NameScope → ℕ → (earlier targets : List (List ℕ)) → List Fault
targets_faults s at earlier [] = []
targets_faults s at earlier (name ∷ names) =
    fault_if (not (is_variable s name)) UnknownName at
    ++ (fault_if (list_any (bytes_eq name) earlier) NameTaken at ++ targets_faults s (at + 1) (earlier ++ name ∷ []) names)

-- the class of a part of FROM is there, and its variable is none of those before it
abbrev pub parts_faults : List ClassInfo → ℕ → (earlier parts : List FromPart) → List Fault
parts_faults classes at earlier [] = []
parts_faults classes at earlier (part ∷ parts) =
    fault_if (is_none (class_number classes part.class)) UnknownName at
    ++ (fault_if (list_any (λ e. bytes_eq part.var e.var) earlier) NameTaken (at + 1)
    ++ parts_faults classes (at + 2) (earlier ++ part ∷ []) parts)

abbrev pub faults : List ClassInfo → List Region → QueryTree → List Fault
faults classes regions q =
    let s = scope_of classes regions q.from in
    let behind = length q.targets in
    targets_faults s 0 [] q.targets
    ++ (parts_faults classes behind [] q.from ++ formula_faults s (behind + 2 * length q.from) 0 q.formula)
