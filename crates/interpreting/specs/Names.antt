-- The values that atoms, terms and formulas name by the depth of the assignment that binds them.
use Rattle.std.specs.Prelude.{◌≡◌, ℕ, Bool, true, false, ◌||◌, ◌==◌}
use Rattle.std.specs.List.{list_any}
use Rattle.formula_shape.specs.Sizes.{has_part}
use Rattle.formula.specs.declared.tree.RAtom.{RAtom}
use Rattle.formula.specs.declared.tree.RAtom.TheVariants as atoms
use Rattle.formula.specs.declared.tree.RUnit.{RUnit}
use Rattle.formula.specs.declared.tree.RUnit.TheVariants as units
use Rattle.formula.specs.declared.tree.RTerm.{RTerm}
use Rattle.formula.specs.declared.value.Env.{Env}
use Rattle.formula.specs.Tree.{ResolvedTree}
use Rattle.formula.specs.Value.{value_in}

-- whether the value of depth d is named in a factor, a term, an atom, a formula
abbrev pub unit_uses_value : ℕ → RUnit → Bool
unit_uses_value d (units.Literal n) = false
unit_uses_value d (units.Text s) = false
unit_uses_value d (units.Var e bound) = e == d
unit_uses_value d (units.Attr v a bound) = false
unit_uses_value d (units.Sub v a part) = false
unit_uses_value d units.Time = false

abbrev pub term_uses_value : ℕ → RTerm → Bool
term_uses_value d q = list_any (λ s. unit_uses_value d s.unit) q.factors

abbrev pub atom_uses_value : ℕ → RAtom → Bool
atom_uses_value d (atoms.Compare q op r) = term_uses_value d q || term_uses_value d r
atom_uses_value d (atoms.Inside v n) = false
atom_uses_value d (atoms.Outside v n) = false
atom_uses_value d (atoms.Dist v u op c) = false
atom_uses_value d (atoms.Sphere r vs) = false

abbrev pub formula_uses_value : ℕ → ResolvedTree → Bool
formula_uses_value d = has_part (atom_uses_value d) (λ bound. term_uses_value d bound.1)

-- what is bound is the same at each depth that passes a test
abbrev pub AgreeOn : (ℕ → Bool) → Env → Env → Type 0
AgreeOn test x y = (d : ℕ) → test d ≡ true → value_in x d ≡ value_in y d
