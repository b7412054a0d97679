-- The object variables of a formula.
use Rattle.std.specs.Prelude.{ℕ, Bool, false, ◌||◌, ◌==◌, List, [], ◌∷◌}
use Rattle.std.specs.List.{filter, list_any}
use Rattle.formula_shape.specs.Sizes.{has_part}
use Rattle.formula.specs.declared.tree.RAtom as atom_type
use Rattle.formula.specs.declared.tree.RAtom.TheVariants as atoms
use Rattle.formula.specs.declared.tree.RUnit as unit_type
use Rattle.formula.specs.declared.tree.RUnit.TheVariants as units
use Rattle.formula.specs.declared.tree.RTerm.{RTerm}
use Rattle.formula.specs.Tree.{ResolvedTree}

-- whether object variable v is in a factor, a term, an atom, a formula
abbrev pub unit_has : ℕ → unit_type.RUnit → Bool
unit_has v (units.Literal n) = false
unit_has v (units.Text t) = false
unit_has v (units.Var d bound) = false
unit_has v (units.Attr o a bound) = o == v
unit_has v (units.Sub o a part) = o == v
unit_has v units.Time = false

abbrev pub term_has : ℕ → RTerm → Bool
term_has v t = list_any (λ s. unit_has v s.unit) t.factors

abbrev pub atom_has : ℕ → atom_type.RAtom → Bool
atom_has v (atoms.Compare t op u) = term_has v t || term_has v u
atom_has v (atoms.Inside o region) = o == v
atom_has v (atoms.Outside o region) = o == v
atom_has v (atoms.Dist o n op c) = o == v || n == v
atom_has v (atoms.Sphere r os) = list_any (λ o. o == v) os

abbrev pub has_variable : ℕ → ResolvedTree → Bool
has_variable v = has_part (atom_has v) (λ bound. term_has v bound.1)

-- the variables that pass a test, ascending
abbrev pub variables_in : (ℕ → Bool) → List ℕ
variables_in test = filter test (0 ∷ 1 ∷ 2 ∷ 3 ∷ [])

abbrev pub variables_of : ResolvedTree → List ℕ
variables_of f = variables_in (λ v. has_variable v f)
