-- A formula depends on the values that it names alone.
use Rattle.std.proofs.Common.{◌≡◌, ℕ, zero, suc, Bool, false, not, ◌&&◌, ◌||◌, refl, sym, ap, ◌∙◌}
use Rattle.std.proofs.lemmas.Bool.{false≢true, or_left, or_right}
use Rattle.tick_set.specs.Operators.{always_at, eventually_at, next_at}
use Rattle.formula_shape.specs.Shape as shapes
use Rattle.formula.specs.Forms.{bounded_at, until_form_at}
use Rattle.formula.specs.declared.tree.RAtom.{RAtom}
use Rattle.formula.specs.declared.tree.RTerm.{RTerm}
use Rattle.formula.specs.declared.value.Env.{Env}
use Rattle.formula.specs.declared.value.Value.{Value}
use Rattle.formula.specs.Tree.{ResolvedTree}
use Rattle.formula.specs.Value.{with_value}
use Rattle.interpreting.specs.Names.{AgreeOn, atom_uses_value, formula_uses_value, term_uses_value}
use Rattle.meaning.specs.Satisfaction.{Interpretation, sat}
use Rattle.meaning.proofs.LocalityLemmas.{bound_same}

-- one more value bound on both sides
bound_alike : (test : ℕ → Bool) (x y : Env) (d : ℕ) (v : Value) → AgreeOn test x y → AgreeOn test (with_value x d v) (with_value y d v)
bound_alike test x y zero v same zero h = refl
bound_alike test x y zero v same (suc zero) h = same (suc zero) h
bound_alike test x y zero v same (suc (suc e)) h = refl
bound_alike test x y (suc zero) v same zero h = same zero h
bound_alike test x y (suc zero) v same (suc zero) h = refl
bound_alike test x y (suc zero) v same (suc (suc e)) h = refl
bound_alike test x y (suc (suc d)) v same e h = same e h

-- two values at a depth that isn't tested
others_alike : (test : ℕ → Bool) (x : Env) (d : ℕ) (v w : Value) → test d ≡ false → AgreeOn test (with_value x d v) (with_value x d w)
others_alike test x zero v w none zero h = absurd (false≢true (sym none ∙ h))
others_alike test x zero v w none (suc zero) h = refl
others_alike test x zero v w none (suc (suc e)) h = refl
others_alike test x (suc zero) v w none zero h = refl
others_alike test x (suc zero) v w none (suc zero) h = absurd (false≢true (sym none ∙ h))
others_alike test x (suc zero) v w none (suc (suc e)) h = refl
others_alike test x (suc (suc d)) v w none e h = refl

on_left : (p q : ℕ → Bool) (x y : Env) → AgreeOn (λ d. p d || q d) x y → AgreeOn p x y
on_left p q x y same d h = same d (or_left (p d) (q d) h)

on_right : (p q : ℕ → Bool) (x y : Env) → AgreeOn (λ d. p d || q d) x y → AgreeOn q x y
on_right p q x y same d h = same d (or_right (p d) (q d) h)

module _ (j : Interpretation)
    (sees_atom : (a : RAtom) (x y : Env) → AgreeOn (λ d. atom_uses_value d a) x y → (t : ℕ) → j.atom a x t ≡ j.atom a y t)
    (sees_term : (q : RTerm) (x y : Env) → AgreeOn (λ d. term_uses_value d q) x y → (t : ℕ) → j.term q x t ≡ j.term q y t) where
  sat_by_names : (f : ResolvedTree) (x y : Env) → AgreeOn (λ d. formula_uses_value d f) x y → (e t : ℕ) → sat j f x e t ≡ sat j f y e t
  sat_by_names (shapes.Truth b) x y same e t = refl
  sat_by_names (shapes.Atom a) x y same e t = sees_atom a x y same t
  sat_by_names (shapes.Not f) x y same e t = ap not (sat_by_names f x y same e t)
  sat_by_names (shapes.And f g) x y same e t = λ i.
      sat_by_names f x y (on_left (λ d. formula_uses_value d f) (λ d. formula_uses_value d g) x y same) e t i
      && sat_by_names g x y (on_right (λ d. formula_uses_value d f) (λ d. formula_uses_value d g) x y same) e t i
  sat_by_names (shapes.Or f g) x y same e t = λ i.
      sat_by_names f x y (on_left (λ d. formula_uses_value d f) (λ d. formula_uses_value d g) x y same) e t i
      || sat_by_names g x y (on_right (λ d. formula_uses_value d f) (λ d. formula_uses_value d g) x y same) e t i
  sat_by_names (shapes.Next f) x y same e t = λ i. next_at (λ u. sat_by_names f x y same e u i) e t
  sat_by_names (shapes.Eventually f) x y same e t = λ i. eventually_at (λ u. sat_by_names f x y same e u i) e t
  sat_by_names (shapes.Always f) x y same e t = λ i. always_at (λ u. sat_by_names f x y same e u i) e t
  sat_by_names (shapes.Bounded form c f) x y same e t = λ i. bounded_at form c (λ u. sat_by_names f x y same e u i) e t
  sat_by_names (shapes.Until form c f g) x y same e t = λ i.
      until_form_at form c
      (λ u. sat_by_names f x y (on_left (λ d. formula_uses_value d f) (λ d. formula_uses_value d g) x y same) e u i)
      (λ u. sat_by_names g x y (on_right (λ d. formula_uses_value d f) (λ d. formula_uses_value d g) x y same) e u i) e t
  sat_by_names (shapes.Assign (d, q) f) x y same e t =
      bound_same (j.term q x t) (j.term q y t) (λ v. sat j f (with_value x d v) e t) (λ v. sat j f (with_value y d v) e t)
      (sees_term q x y (on_left (λ k. term_uses_value k q) (λ k. formula_uses_value k f) x y same) t)
      (λ v. sat_by_names f (with_value x d v) (with_value y d v)
      (bound_alike (λ k. formula_uses_value k f) x y d v (on_right (λ k. term_uses_value k q) (λ k. formula_uses_value k f) x y same)) e t)

  -- where it doesn't name the value of a depth, it is the same by each
  pub sat_unnamed : (depth : ℕ) (f : ResolvedTree) → formula_uses_value depth f ≡ false → (x : Env) (v w : Value) (e t : ℕ) →
      sat j f (with_value x depth v) e t ≡ sat j f (with_value x depth w) e t
  sat_unnamed depth f none x v w e t =
      sat_by_names f (with_value x depth v) (with_value x depth w) (others_alike (λ d. formula_uses_value d f) x depth v w none) e t
