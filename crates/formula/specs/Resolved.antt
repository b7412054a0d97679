-- What is right of a query by number, whatever the database has: its variables, depths, numbers and sizes.
use Rattle.std.specs.Prelude.{ℕ, ◌+◌, ◌≤◌, ◌==◌, ℤ, pos, unsigned_abs, Bool, true, false, not, ◌&&◌, nat_lt, nat_le, int_le, unwrap_or, List, [], ◌∷◌, length, IsTrue, if◌then◌else◌}
use Rattle.std.specs.List.{list_all, list_any}
use Rattle.std.specs.Ordering.{int_eq}
use Rattle.fixed_point.specs.declared.number.TheConstants.{FIX_LIMIT, READ_LIMIT}
use Rattle.fixed_point.specs.declared.variants.UntilForm.{UntilForm}
use Rattle.fixed_point.specs.declared.variants.UntilForm.TheVariants as untils
use Rattle.geometry.specs.declared.limits.TheConstants.{RADIUS_LIMIT}
use Rattle.tick_set.specs.declared.spans.TheConstants.{LAST_TICK}
use Rattle.formula_shape.specs.Shape as shapes
use Rattle.formula_shape.specs.Sizes.{nodes, depth}
use Rattle.formula_shape.specs.declared.limits.TheConstants.{DEPTH_LIMIT, FACTOR_LIMIT, NESTING_LIMIT, NODE_LIMIT, OBJECT_LIMIT, TIMES_LIMIT}
use Rattle.formula.specs.declared.tree.RAtom as atom_type
use Rattle.formula.specs.declared.tree.RAtom.TheVariants as atoms
use Rattle.formula.specs.declared.tree.RSigned.{RSigned}
use Rattle.formula.specs.declared.tree.RTerm.{RTerm}
use Rattle.formula.specs.declared.tree.RUnit as unit_type
use Rattle.formula.specs.declared.tree.RUnit.TheVariants as units
use Rattle.formula.specs.Bounds.{term_bound}
use Rattle.formula.specs.Tree.{ResolvedQuery, ResolvedTree}

-- whether a value variable of a depth is in scope, with such a bound beside it
abbrev pub Scope : Type 0
Scope = ℕ → ℤ → Bool

-- around a query nothing is bound
abbrev pub no_scope : ℕ → ℤ → Bool
no_scope d bound = false

-- after an assignment at depth d, whose term has this bound
abbrev pub with_bound : Scope → ℕ → ℕ → ℕ → ℤ → Bool
with_bound scope d bound e beside = if e == d then int_eq beside (pos bound) else scope e beside

-- at least one, and at most so many
abbrev pub is_list_of : {A : Type 0} → ℕ → List A → Bool
is_list_of limit xs = nat_lt 0 (length xs) && nat_le (length xs) limit

abbrev pub is_within : ℕ → ℤ → Bool
is_within limit n = nat_le (unsigned_abs n) limit

-- where there are so many object variables. What an attribute's bound must be, the classes say.
abbrev pub is_unit : ℕ → Scope → unit_type.RUnit → Bool
is_unit count scope (units.Literal n) = is_within READ_LIMIT n
is_unit count scope (units.Text s) = true
is_unit count scope (units.Var d bound) = scope d bound
is_unit count scope (units.Attr v a bound) = nat_lt v count
is_unit count scope (units.Sub v a part) = nat_lt v count
is_unit count scope units.Time = true

abbrev pub is_factor : ℕ → Scope → RSigned → Bool
is_factor count scope s = nat_le (unwrap_or s.times 1) TIMES_LIMIT && is_unit count scope s.unit

-- 1 to 16 factors, and a bound of at most 10^18
abbrev pub is_term : ℕ → Scope → RTerm → Bool
is_term count scope q =
    is_list_of FACTOR_LIMIT q.factors && list_all (is_factor count scope) q.factors && nat_le (term_bound q) FIX_LIMIT

abbrev pub is_atom : ℕ → Scope → atom_type.RAtom → Bool
is_atom count scope (atoms.Compare q op r) = is_term count scope q && is_term count scope r
is_atom count scope (atoms.Inside v region) = nat_lt v count
is_atom count scope (atoms.Outside v region) = nat_lt v count
is_atom count scope (atoms.Dist v u op c) = nat_lt v count && nat_lt u count && is_within READ_LIMIT c
is_atom count scope (atoms.Sphere r vs) =
    is_list_of OBJECT_LIMIT vs && list_all (λ v. nat_lt v count) vs && int_le (pos 0) r && is_within RADIUS_LIMIT r

-- the number of ticks of UNTIL itself is 0
abbrev pub is_until : UntilForm → ℕ → Bool
is_until untils.Plain c = c == 0
is_until untils.Within c = nat_le c LAST_TICK
is_until untils.After c = nat_le c LAST_TICK

-- an assignment stands at the depth that is the number of assignments around it
abbrev pub is_formula : ℕ → ℕ → Scope → ResolvedTree → Bool
is_formula count around scope (shapes.Truth b) = true
is_formula count around scope (shapes.Atom a) = is_atom count scope a
is_formula count around scope (shapes.Not f) = is_formula count around scope f
is_formula count around scope (shapes.And f g) = is_formula count around scope f && is_formula count around scope g
is_formula count around scope (shapes.Or f g) = is_formula count around scope f && is_formula count around scope g
is_formula count around scope (shapes.Next f) = is_formula count around scope f
is_formula count around scope (shapes.Eventually f) = is_formula count around scope f
is_formula count around scope (shapes.Always f) = is_formula count around scope f
is_formula count around scope (shapes.Bounded form c f) = nat_le c LAST_TICK && is_formula count around scope f
is_formula count around scope (shapes.Until form c f g) =
    is_until form c && is_formula count around scope f && is_formula count around scope g
is_formula count around scope (shapes.Assign (d, q) f) =
    d == around
    && nat_lt around NESTING_LIMIT
    && is_term count scope q
    && is_formula count (around + 1) (with_bound scope d (term_bound q)) f

-- no number stands twice
abbrev pub are_distinct : List ℕ → Bool
are_distinct [] = true
are_distinct (x ∷ xs) = not (list_any (λ y. y == x) xs) && are_distinct xs

-- 1 to 4 variables, and 1 to 4 different targets among them, with a formula of these variables within the limits
pub record IsResolved (q : ResolvedQuery) : Type 0 where
  pub variables : IsTrue (is_list_of OBJECT_LIMIT q.classes)
  pub targets : IsTrue (is_list_of OBJECT_LIMIT q.targets && list_all (λ v. nat_lt v (length q.classes)) q.targets)
  pub differ : IsTrue (are_distinct q.targets)
  pub formula : IsTrue (is_formula (length q.classes) 0 no_scope q.formula)
  pub few_nodes : nodes q.formula ≤ NODE_LIMIT
  pub low : depth q.formula ≤ DEPTH_LIMIT
