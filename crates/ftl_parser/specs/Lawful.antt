-- What holds of each query that is read: no list is empty, numbers are in the ranges of their places, a multiplier
-- stands before a name, an attribute or TIME, and names and texts are what a line can have. What is asked of names and
-- of texts is given, N and T.
use Rattle.std.specs.Prelude.{◌≡◌, ℕ, ◌≤◌, ℤ, pos, negsuc, unsigned_abs, false, List, [], ◌∷◌, length, Option, None, Some, IsTrue}
use Rattle.std.specs.List.{AllByRecursion}
use Rattle.fixed_point.specs.declared.short_text.TheConstants.{WORD_LIMIT}
use Rattle.ftl_lexer.specs.declared.kinds.Kind.TheVariants as kinds
use Rattle.ftl_lexer.specs.Cut.{HasForm, has_no_quote}
use Rattle.fixed_point.specs.declared.number.TheConstants.{READ_LIMIT}
use Rattle.fixed_point.specs.declared.variants.UntilForm.{UntilForm}
use Rattle.fixed_point.specs.declared.variants.UntilForm.TheVariants as untils
use Rattle.geometry.specs.declared.limits.TheConstants.{RADIUS_LIMIT}
use Rattle.tick_set.specs.declared.spans.TheConstants.{LAST_TICK}
use Rattle.formula_shape.specs.Shape.{Shape}
use Rattle.formula_shape.specs.declared.limits.TheConstants.{TIMES_LIMIT}
use Rattle.ftl_parser.specs.declared.tree.Atom as atom_type
use Rattle.ftl_parser.specs.declared.tree.Atom.TheVariants as atoms
use Rattle.ftl_parser.specs.declared.tree.Unit as unit_type
use Rattle.ftl_parser.specs.declared.tree.Unit.TheVariants as units
use Rattle.ftl_parser.specs.declared.tree.Term.{Term}
use Rattle.ftl_parser.specs.declared.tree.Signed.{Signed}
use Rattle.ftl_parser.specs.declared.tree.FromPart.{FromPart}
use Rattle.ftl_parser.specs.Tree.{Tree, QueryTree}
use Rattle.ftl_parser.specs.Sizes.{first_too_large}

-- one or more, P holding of each
abbrev pub OneOrMore : {X : Type 0} → (X → Type 0) → List X → Type 0
OneOrMore P [] = ⊥
OneOrMore P (x ∷ xs) = P x × AllByRecursion P xs

-- a word that may be a name, and isn't reserved
abbrev pub IsName : List ℕ → Type 0
IsName word = HasForm kinds.Name word

-- one that has at most the bytes of a word
abbrev pub IsShortName : List ℕ → Type 0
IsShortName word = IsName word × (length word ≤ WORD_LIMIT)

-- what may stand between quotes, with at most the bytes of a word
abbrev pub IsQuotable : List ℕ → Type 0
IsQuotable text = IsTrue (has_no_quote text) × (length text ≤ WORD_LIMIT)

abbrev pub IsFromPart : (List ℕ → Type 0) → FromPart → Type 0
IsFromPart N part = N part.class × N part.var

-- a number without a sign, at most the limit
abbrev pub IsUnsigned : ℕ → ℤ → Type 0
IsUnsigned limit (pos n) = n ≤ limit
IsUnsigned limit (negsuc n) = ⊥

-- a name, an attribute, a part of one, or TIME
abbrev pub IsRef : (List ℕ → Type 0) → unit_type.Unit → Type 0
IsRef N (units.Literal n) = ⊥
IsRef N (units.Text t) = ⊥
IsRef N (units.Alone o) = N o
IsRef N (units.Attr o a) = N o × N a
IsRef N (units.Sub o a s) = N o × N a
IsRef N units.Time = Unit {0}

-- what may stand without a multiplier
abbrev pub IsUnit : (N T : List ℕ → Type 0) → unit_type.Unit → Type 0
IsUnit N T (units.Literal n) = IsUnsigned READ_LIMIT n
IsUnit N T (units.Text t) = T t
IsUnit N T (units.Alone o) = N o
IsUnit N T (units.Attr o a) = N o × N a
IsUnit N T (units.Sub o a s) = N o × N a
IsUnit N T units.Time = Unit {0}

abbrev pub IsMultiple : (N T : List ℕ → Type 0) → Option ℕ → unit_type.Unit → Type 0
IsMultiple N T None unit = IsUnit N T unit
IsMultiple N T (Some k) unit = (k ≤ TIMES_LIMIT) × IsRef N unit

abbrev pub IsFactor : (N T : List ℕ → Type 0) → Signed → Type 0
IsFactor N T f = IsMultiple N T f.times f.unit

abbrev pub IsTerm : (N T : List ℕ → Type 0) → Term → Type 0
IsTerm N T t = OneOrMore (IsFactor N T) t.factors

abbrev pub IsAtom : (N T : List ℕ → Type 0) → atom_type.Atom → Type 0
IsAtom N T (atoms.Compare t op u) = IsTerm N T t × IsTerm N T u
IsAtom N T (atoms.Inside o p) = N o × N p
IsAtom N T (atoms.Outside o p) = N o × N p
IsAtom N T (atoms.Dist o n op c) = N o × N n × (unsigned_abs c ≤ READ_LIMIT)
IsAtom N T (atoms.Sphere r names) = IsUnsigned RADIUS_LIMIT r × OneOrMore N names

-- the ticks of an until
abbrev pub AreUntilTicks : UntilForm → ℕ → Type 0
AreUntilTicks untils.Plain ticks = ticks ≡ 0
AreUntilTicks untils.Within ticks = ticks ≤ LAST_TICK
AreUntilTicks untils.After ticks = ticks ≤ LAST_TICK

abbrev pub IsFormula : (N T : List ℕ → Type 0) → Tree → Type 0
IsFormula N T (Shape.Truth b) = Unit {0}
IsFormula N T (Shape.Atom a) = IsAtom N T a
IsFormula N T (Shape.Not f) = IsFormula N T f
IsFormula N T (Shape.And f g) = IsFormula N T f × IsFormula N T g
IsFormula N T (Shape.Or f g) = IsFormula N T f × IsFormula N T g
IsFormula N T (Shape.Next f) = IsFormula N T f
IsFormula N T (Shape.Eventually f) = IsFormula N T f
IsFormula N T (Shape.Always f) = IsFormula N T f
IsFormula N T (Shape.Bounded form ticks f) = (ticks ≤ LAST_TICK) × IsFormula N T f
IsFormula N T (Shape.Until form ticks f g) = AreUntilTicks form ticks × IsFormula N T f × IsFormula N T g
IsFormula N T (Shape.Assign (name, term) f) = N name × IsTerm N T term × IsFormula N T f

pub record HasShape (N T : List ℕ → Type 0) (q : QueryTree) : Type 0 where
  pub targets : OneOrMore N q.targets
  pub from : OneOrMore (IsFromPart N) q.from
  pub formula : IsFormula N T q.formula

-- nothing is asked
abbrev pub IsAny : List ℕ → Type 0
IsAny word = Unit {0}

-- what is asked of a query whose names are to be resolved: no list is empty, numbers are in range, and no size passes its limit
pub record IsLawful (q : QueryTree) : Type 0 where
  pub shape : HasShape IsAny IsAny q
  pub small : first_too_large false q ≡ None

-- a query that can be printed so that it is read back
abbrev pub IsPrintableQuery : QueryTree → Type 0
IsPrintableQuery = HasShape IsShortName IsQuotable
