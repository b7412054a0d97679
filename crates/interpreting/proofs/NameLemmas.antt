-- Made for the crates above: what the states of a binding's objects tell depends on the values that are named alone.
use Rattle.std.proofs.Common.{◌≡◌, ℕ, None, List, [], ◌∷◌, map, refl, ap, ◌∙◌}
use Rattle.std.specs.Prelude.{unwrap_or}
use Rattle.std.specs.List.{list_any, reduce}
use Rattle.std.specs.Option.{option_and_then}
use Rattle.std.proofs.lemmas.Bool.{or_left, or_right}
use Rattle.geometry.specs.Region.{Region}
use Rattle.formula.specs.declared.tree.RAtom.{RAtom}
use Rattle.formula.specs.declared.tree.RAtom.TheVariants as atoms
use Rattle.formula.specs.declared.tree.RSigned.{RSigned}
use Rattle.formula.specs.declared.tree.RTerm.{RTerm}
use Rattle.formula.specs.declared.tree.RUnit.{RUnit}
use Rattle.formula.specs.declared.tree.RUnit.TheVariants as units
use Rattle.formula.specs.declared.value.Env.{Env}
use Rattle.meaning.specs.Trace.{Trace}
use Rattle.meaning.specs.Value.{factor_value, plus, signed_value, term_value, unit_value, values_compare}
use Rattle.meaning.specs.Atom.{atom_holds}
use Rattle.interpreting.specs.Names.{AgreeOn, atom_uses_value, term_uses_value, unit_uses_value}
use Rattle.exact.proofs.Naturals.{equals_itself}

unit_by_names : (h : Trace) (x y : Env) (t : ℕ) (u : RUnit) → AgreeOn (λ d. unit_uses_value d u) x y → unit_value h x u t ≡ unit_value h y u t
unit_by_names h x y t (units.Literal n) same = refl
unit_by_names h x y t (units.Text s) same = refl
unit_by_names h x y t (units.Var d bound) same = same d (equals_itself d)
unit_by_names h x y t (units.Attr v a bound) same = refl
unit_by_names h x y t (units.Sub v a part) same = refl
unit_by_names h x y t units.Time same = refl

factors_by_names : (h : Trace) (x y : Env) (t : ℕ) (factors : List RSigned) → AgreeOn (λ d. list_any (λ s. unit_uses_value d s.unit) factors) x y →
    map (factor_value h x t) factors ≡ map (factor_value h y t) factors
factors_by_names h x y t [] same = refl
factors_by_names h x y t (s ∷ factors) same =
    let first : factor_value h x t s ≡ factor_value h y t s =
    ap (option_and_then (signed_value s.minus s.times))
    (unit_by_names h x y t s.unit (λ d names. same d (or_left (unit_uses_value d s.unit) (list_any (λ r. unit_uses_value d r.unit) factors) names))) in
    ap (λ value. value ∷ map (factor_value h x t) factors) first
    ∙ ap (λ values. factor_value h y t s ∷ values)
    (factors_by_names h x y t factors (λ d names. same d (or_right (unit_uses_value d s.unit) (list_any (λ r. unit_uses_value d r.unit) factors) names)))

pub term_by_names : (h : Trace) (q : RTerm) (x y : Env) → AgreeOn (λ d. term_uses_value d q) x y → (t : ℕ) → term_value h q x t ≡ term_value h q y t
term_by_names h q x y same t = ap (λ values. unwrap_or (reduce plus values) None) (factors_by_names h x y t q.factors same)

pub atom_by_names : (regions : List Region) (h : Trace) (a : RAtom) (x y : Env) → AgreeOn (λ d. atom_uses_value d a) x y → (t : ℕ) →
    atom_holds regions h a x t ≡ atom_holds regions h a y t
atom_by_names regions h (atoms.Compare q op r) x y same t =
    ap (λ value. values_compare op value (term_value h r x t))
    (term_by_names h q x y (λ d names. same d (or_left (term_uses_value d q) (term_uses_value d r) names)) t)
    ∙ ap (λ value. values_compare op (term_value h q y t) value)
    (term_by_names h r x y (λ d names. same d (or_right (term_uses_value d q) (term_uses_value d r) names)) t)
atom_by_names regions h (atoms.Inside v n) x y same t = refl
atom_by_names regions h (atoms.Outside v n) x y same t = refl
atom_by_names regions h (atoms.Dist v u op c) x y same t = refl
atom_by_names regions h (atoms.Sphere r vs) x y same t = refl
