-- The canonical text of a query, part by part.
--
--   queries          RETRIEVE o,n FROM car o,car n WHERE f
--   binary formulas  (f AND g)  (f OR g)  (f UNTIL g)  (f UNTIL_WITHIN 5 g)  (f UNTIL_AFTER 5 g)
--   unary formulas   NOT f  NEXTTIME f  EVENTUALLY f  ALWAYS f  EVENTUALLY_WITHIN 5 f  EVENTUALLY_AFTER 5 f  ALWAYS_FOR 5 f  [v <- t] f
--   atoms            t <= u  INSIDE(o,P)  OUTSIDE(o,P)  DIST(o,n) <= 3  WITHIN_SPHERE(3.4,a,b,c)  TRUE  FALSE
--   terms            -o.x + 2 * n.x.function - 0.5  "AB"  TIME
--
-- Numbers have the canonical text of their thousandths. Only a sign between factors, or before the first one, may stand before a zero.
use Rattle.std.specs.Prelude.{ℕ, Bool, true, false, List, [], ◌∷◌, ◌++◌, Option, None, Some, codes, decimal}
use Rattle.std.specs.List.{flat_map}
use Rattle.fixed_point.specs.Canonical.{fix_text}
use Rattle.fixed_point.specs.declared.variants.BoundForm.{BoundForm}
use Rattle.fixed_point.specs.declared.variants.BoundForm.TheVariants as bounds
use Rattle.fixed_point.specs.declared.variants.UntilForm.{UntilForm}
use Rattle.fixed_point.specs.declared.variants.UntilForm.TheVariants as untils
use Rattle.fixed_point.specs.declared.variants.SubName.{SubName}
use Rattle.fixed_point.specs.declared.variants.SubName.TheVariants as subs
use Rattle.case_table.specs.declared.compare.Op.{Op}
use Rattle.case_table.specs.declared.compare.Op.TheVariants as ops
use Rattle.formula_shape.specs.Shape.{Shape}
use Rattle.ftl_parser.specs.declared.tree.Atom as atom_type
use Rattle.ftl_parser.specs.declared.tree.Atom.TheVariants as atoms
use Rattle.ftl_parser.specs.declared.tree.Unit as unit_type
use Rattle.ftl_parser.specs.declared.tree.Unit.TheVariants as units
use Rattle.ftl_parser.specs.declared.tree.Term.{Term}
use Rattle.ftl_parser.specs.declared.tree.Signed.{Signed}
use Rattle.ftl_parser.specs.declared.tree.FromPart.{FromPart}
use Rattle.ftl_parser.specs.declared.prefix.Prefix.{Prefix}
use Rattle.ftl_parser.specs.declared.prefix.Prefix.TheVariants as prefixes
use Rattle.ftl_parser.specs.Tree.{Tree, QueryTree}

-- ---- Words

abbrev pub truth_word : Bool → List ℕ
truth_word true = codes "TRUE"
truth_word false = codes "FALSE"

abbrev pub bound_word : BoundForm → List ℕ
bound_word bounds.Within = codes "EVENTUALLY_WITHIN"
bound_word bounds.After = codes "EVENTUALLY_AFTER"
bound_word bounds.Always = codes "ALWAYS_FOR"

abbrev pub sub_word : SubName → List ℕ
sub_word subs.Value = codes "value"
sub_word subs.UpdateTime = codes "updatetime"
sub_word subs.Function = codes "function"

abbrev pub op_word : Op → List ℕ
op_word ops.Lt = codes "<"
op_word ops.Le = codes "<="
op_word ops.Eq = codes "="
op_word ops.Ne = codes "!="
op_word ops.Ge = codes ">="
op_word ops.Gt = codes ">"

-- ---- Lists

-- a comma before each name
abbrev pub later_names : List (List ℕ) → List ℕ
later_names = flat_map (λ name. codes "," ++ name)

-- names with commas between them
abbrev pub names_text : List (List ℕ) → List ℕ
names_text [] = []
names_text (name ∷ names) = name ++ later_names names

abbrev pub from_part_text : FromPart → List ℕ
from_part_text part = part.class ++ codes " " ++ part.var

abbrev pub later_parts : List FromPart → List ℕ
later_parts = flat_map (λ part. codes "," ++ from_part_text part)

abbrev pub from_parts_text : List FromPart → List ℕ
from_parts_text [] = []
from_parts_text (part ∷ parts) = from_part_text part ++ later_parts parts

-- ---- Terms

abbrev pub unit_text : unit_type.Unit → List ℕ
unit_text (units.Literal n) = fix_text n
unit_text (units.Text t) = codes "\"" ++ t ++ codes "\""
unit_text (units.Alone o) = o
unit_text (units.Attr o a) = o ++ codes "." ++ a
unit_text (units.Sub o a s) = o ++ codes "." ++ a ++ codes "." ++ sub_word s
unit_text units.Time = codes "TIME"

abbrev pub times_text : Option ℕ → List ℕ
times_text None = []
times_text (Some k) = decimal k ++ codes " * "

abbrev pub factor_text : Signed → List ℕ
factor_text f = times_text f.times ++ unit_text f.unit

-- the sign of the first factor
abbrev pub first_sign : Bool → List ℕ
first_sign true = codes "-"
first_sign false = []

-- the sign of any other factor
abbrev pub later_sign : Bool → List ℕ
later_sign true = codes " - "
later_sign false = codes " + "

abbrev pub later_factors : List Signed → List ℕ
later_factors = flat_map (λ f. later_sign f.minus ++ factor_text f)

abbrev pub factors_text : List Signed → List ℕ
factors_text [] = []
factors_text (f ∷ fs) = first_sign f.minus ++ factor_text f ++ later_factors fs

abbrev pub term_text : Term → List ℕ
term_text t = factors_text t.factors

-- ---- Formulas

-- two names in brackets
abbrev pub name_pair_text : List ℕ → List ℕ → List ℕ
name_pair_text o n = codes "(" ++ o ++ codes "," ++ n ++ codes ")"

abbrev pub atom_text : atom_type.Atom → List ℕ
atom_text (atoms.Compare t op u) = term_text t ++ codes " " ++ op_word op ++ codes " " ++ term_text u
atom_text (atoms.Inside o p) = codes "INSIDE" ++ name_pair_text o p
atom_text (atoms.Outside o p) = codes "OUTSIDE" ++ name_pair_text o p
atom_text (atoms.Dist o n op c) = codes "DIST" ++ name_pair_text o n ++ codes " " ++ op_word op ++ codes " " ++ fix_text c
atom_text (atoms.Sphere r names) = codes "WITHIN_SPHERE(" ++ fix_text r ++ later_names names ++ codes ")"

-- an until between its formulas
abbrev pub until_text : UntilForm → ℕ → List ℕ
until_text untils.Plain ticks = codes " UNTIL "
until_text untils.Within ticks = codes " UNTIL_WITHIN " ++ decimal ticks ++ codes " "
until_text untils.After ticks = codes " UNTIL_AFTER " ++ decimal ticks ++ codes " "

-- a word before its formula
unfoldable pub prefix_text : Prefix → List ℕ
prefix_text prefixes.Not = codes "NOT "
prefix_text prefixes.Next = codes "NEXTTIME "
prefix_text prefixes.Eventually = codes "EVENTUALLY "
prefix_text prefixes.Always = codes "ALWAYS "

-- a bounded form before its formula
abbrev pub bound_text : BoundForm → ℕ → List ℕ
bound_text form ticks = bound_word form ++ codes " " ++ decimal ticks ++ codes " "

-- an assignment before its formula
abbrev pub assign_text : List ℕ → Term → List ℕ
assign_text name term = codes "[" ++ name ++ codes " <- " ++ term_text term ++ codes "] "

-- two formulas in brackets, with what stands between them
abbrev pub in_brackets : List ℕ → List ℕ → List ℕ → List ℕ
in_brackets left between right = codes "(" ++ left ++ between ++ right ++ codes ")"

abbrev pub formula_text : Tree → List ℕ
formula_text (Shape.Truth b) = truth_word b
formula_text (Shape.Atom a) = atom_text a
formula_text (Shape.Not f) = prefix_text prefixes.Not ++ formula_text f
formula_text (Shape.And f g) = in_brackets (formula_text f) (codes " AND ") (formula_text g)
formula_text (Shape.Or f g) = in_brackets (formula_text f) (codes " OR ") (formula_text g)
formula_text (Shape.Next f) = prefix_text prefixes.Next ++ formula_text f
formula_text (Shape.Eventually f) = prefix_text prefixes.Eventually ++ formula_text f
formula_text (Shape.Always f) = prefix_text prefixes.Always ++ formula_text f
formula_text (Shape.Bounded form ticks f) = bound_text form ticks ++ formula_text f
formula_text (Shape.Until form ticks f g) = in_brackets (formula_text f) (until_text form ticks) (formula_text g)
formula_text (Shape.Assign (name, term) f) = assign_text name term ++ formula_text f

abbrev pub query_text : QueryTree → List ℕ
query_text q = codes "RETRIEVE " ++ names_text q.targets ++ codes " FROM " ++ from_parts_text q.from ++ codes " WHERE " ++ formula_text q.formula
