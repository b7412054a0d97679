-- For this crate and for the crates above: a formula by what it asks of its interpretation, and of the states of
-- its variables.
use Rattle.std.proofs.Common.{◌≡◌, ℕ, ◌≤◌, Bool, true, false, not, ◌||◌, Option, None, Some, List, [], ◌∷◌, map, refl, ap, ◌∙◌, arith}
use Rattle.std.specs.Prelude.{◌==◌, unwrap_or}
use Rattle.std.specs.List.{list_any, reduce}
use Rattle.std.specs.Option.{option_map, option_map_or, option_and_then}
use Rattle.std.proofs.lemmas.Bool.{or_left, or_right}
use Rattle.fixed_point.specs.declared.number.Point.{Point}
use Rattle.fixed_point.specs.declared.variants.BoundForm.{BoundForm}
use Rattle.fixed_point.specs.declared.variants.BoundForm.TheVariants as bounds
use Rattle.fixed_point.specs.declared.variants.UntilForm.{UntilForm}
use Rattle.fixed_point.specs.declared.variants.UntilForm.TheVariants as untils
use Rattle.geometry.specs.Circle.{fits}
use Rattle.geometry.specs.Region.{Region}
use Rattle.tick_set.specs.Ticks.{AgreeIn}
use Rattle.tick_set.proofs.CallerLemmas.{next_same, until_same, until_within_same, until_after_same, eventually_same, eventually_within_same, eventually_after_same, always_same, always_for_same}
use Rattle.formula_shape.specs.Shape as shapes
use Rattle.formula.specs.declared.tree.RAtom.{RAtom}
use Rattle.formula.specs.declared.tree.RAtom.TheVariants as atoms
use Rattle.formula.specs.declared.tree.RSigned.{RSigned}
use Rattle.formula.specs.declared.tree.RTerm.{RTerm}
use Rattle.formula.specs.declared.tree.RUnit.{RUnit}
use Rattle.formula.specs.declared.tree.RUnit.TheVariants as units
use Rattle.formula.specs.declared.value.Env.{Env}
use Rattle.formula.specs.declared.value.Value.{Value}
use Rattle.formula.specs.Forms.{bounded_at, until_form_at}
use Rattle.formula.specs.Tree.{ResolvedTree}
use Rattle.formula.specs.Value.{with_value}
use Rattle.formula.specs.Variables.{unit_has, term_has, atom_has, has_variable}
use Rattle.meaning.specs.Trace.{Trace}
use Rattle.meaning.specs.Value.{unit_value, factor_value, signed_value, term_value, plus, values_compare, cell_in, cell_value, part_value}
use Rattle.meaning.specs.Atom.{atom_holds, distance_holds, is_in_region, position_in, positions_of}
use Rattle.meaning.specs.Satisfaction.{Interpretation, plain, sat}
use Rattle.meaning.specs.Agreement.{Agree, SameStates}
use Rattle.exact.proofs.Naturals.{equals_itself}
use Rattle.exact.proofs.Truths.{both_and}

-- ---- interpretations that agree

pub same_either : (a a' b b' : Bool) → a ≡ a' → b ≡ b' → (a || b) ≡ (a' || b')
same_either a a' b b' e f = ap (λ c. c || b) e ∙ ap (λ c. a' || c) f

ahead : (lo hi e t : ℕ) (p q : ℕ → Bool) → AgreeIn lo hi p q → e ≤ hi → lo ≤ t → AgreeIn t e p q
ahead lo hi e t p q same most from u a b = same u (omega (arith, from, a)) (omega (arith, b, most))

bounded_same : (form : BoundForm) (c : ℕ) (g g' : ℕ → Bool) (e t : ℕ) → AgreeIn t e g g' →
    bounded_at form c g e t ≡ bounded_at form c g' e t
bounded_same bounds.Within c g g' e t same = eventually_within_same c g g' e t same
bounded_same bounds.After c g g' e t same = eventually_after_same c g g' e t same
bounded_same bounds.Always c g g' e t same = always_for_same c g g' e t same

until_form_same : (form : UntilForm) (c : ℕ) (g g' h h' : ℕ → Bool) (e t : ℕ) → AgreeIn t e g g' → AgreeIn t e h h' →
    until_form_at form c g h e t ≡ until_form_at form c g' h' e t
until_form_same untils.Plain c g g' h h' e t guards goals = until_same g g' h h' e t guards goals
until_form_same untils.Within c g g' h h' e t guards goals = until_within_same c g g' h h' e t guards goals
until_form_same untils.After c g g' h h' e t guards goals = until_after_same c g g' h h' e t guards goals

tests_same : (o : Option Value) (p q : Value → Bool) → ((v : Value) → p v ≡ q v) → option_map_or p o false ≡ option_map_or q o false
tests_same None p q same = refl
tests_same (Some v) p q same = same v

pub bound_same : (o o' : Option Value) (p q : Value → Bool) → o ≡ o' → ((v : Value) → p v ≡ q v) →
    option_map_or p o false ≡ option_map_or q o' false
bound_same o o' p q e same = tests_same o p q same ∙ ap (λ (v : Option Value). option_map_or q v false) e

pub same_sat : (j k : Interpretation) (lo hi : ℕ) (f : ResolvedTree) → Agree j k lo hi f → (e : ℕ) → e ≤ hi → (x : Env) →
    AgreeIn lo hi (sat j f x e) (sat k f x e)
same_sat j k lo hi (shapes.Truth b) agree e most x t from to = refl
same_sat j k lo hi (shapes.Atom a) agree e most x t from to = agree x t from to
same_sat j k lo hi (shapes.Not f) agree e most x t from to = ap not (same_sat j k lo hi f agree e most x t from to)
same_sat j k lo hi (shapes.And f g) agree e most x t from to =
    both_and (sat j f x e t) (sat k f x e t) (sat j g x e t) (sat k g x e t)
    (same_sat j k lo hi f agree.0 e most x t from to) (same_sat j k lo hi g agree.1 e most x t from to)
same_sat j k lo hi (shapes.Or f g) agree e most x t from to =
    same_either (sat j f x e t) (sat k f x e t) (sat j g x e t) (sat k g x e t)
    (same_sat j k lo hi f agree.0 e most x t from to) (same_sat j k lo hi g agree.1 e most x t from to)
same_sat j k lo hi (shapes.Next f) agree e most x t from to =
    next_same (sat j f x e) (sat k f x e) e t
    (ahead lo hi e t (sat j f x e) (sat k f x e) (same_sat j k lo hi f agree e most x) most from)
same_sat j k lo hi (shapes.Eventually f) agree e most x t from to =
    eventually_same (sat j f x e) (sat k f x e) e t
    (ahead lo hi e t (sat j f x e) (sat k f x e) (same_sat j k lo hi f agree e most x) most from)
same_sat j k lo hi (shapes.Always f) agree e most x t from to =
    always_same (sat j f x e) (sat k f x e) e t
    (ahead lo hi e t (sat j f x e) (sat k f x e) (same_sat j k lo hi f agree e most x) most from)
same_sat j k lo hi (shapes.Bounded form c f) agree e most x t from to =
    bounded_same form c (sat j f x e) (sat k f x e) e t
    (ahead lo hi e t (sat j f x e) (sat k f x e) (same_sat j k lo hi f agree e most x) most from)
same_sat j k lo hi (shapes.Until form c f g) agree e most x t from to =
    until_form_same form c (sat j f x e) (sat k f x e) (sat j g x e) (sat k g x e) e t
    (ahead lo hi e t (sat j f x e) (sat k f x e) (same_sat j k lo hi f agree.0 e most x) most from)
    (ahead lo hi e t (sat j g x e) (sat k g x e) (same_sat j k lo hi g agree.1 e most x) most from)
same_sat j k lo hi (shapes.Assign (d, q) f) agree e most x t from to =
    bound_same (j.term q x t) (k.term q x t) (λ v. sat j f (with_value x d v) e t) (λ v. sat k f (with_value x d v) e t)
    (agree.0 x t from to) (λ v. same_sat j k lo hi f agree.1 e most (with_value x d v) t from to)

-- ---- the states of a formula's own variables

unit_same : (h k : Trace) (x : Env) (t : ℕ) (u : RUnit) → ((v : ℕ) → unit_has v u ≡ true → h v t ≡ k v t) →
    unit_value h x u t ≡ unit_value k x u t
unit_same h k x t (units.Literal n) same = refl
unit_same h k x t (units.Text s) same = refl
unit_same h k x t (units.Var d bound) same = refl
unit_same h k x t (units.Attr v a bound) same =
    ap (λ cells. option_map (λ cell. cell_value cell t) (cell_in cells a)) (same v (equals_itself v))
unit_same h k x t (units.Sub v a part) same =
    ap (λ cells. option_and_then (λ cell. part_value part cell t) (cell_in cells a)) (same v (equals_itself v))
unit_same h k x t units.Time same = refl

factors_same : (h k : Trace) (x : Env) (t : ℕ) (factors : List RSigned) →
    ((v : ℕ) → list_any (λ s. unit_has v s.unit) factors ≡ true → h v t ≡ k v t) →
    map (factor_value h x t) factors ≡ map (factor_value k x t) factors
factors_same h k x t [] same = refl
factors_same h k x t (s ∷ factors) same =
    let first : factor_value h x t s ≡ factor_value k x t s =
    ap (option_and_then (signed_value s.minus s.times))
    (unit_same h k x t s.unit (λ v has. same v (or_left (unit_has v s.unit) (list_any (λ r. unit_has v r.unit) factors) has))) in
    ap (λ value. value ∷ map (factor_value h x t) factors) first
    ∙ ap (λ values. factor_value k x t s ∷ values)
    (factors_same h k x t factors (λ v has. same v (or_right (unit_has v s.unit) (list_any (λ r. unit_has v r.unit) factors) has)))

pub term_same : (h k : Trace) (x : Env) (t : ℕ) (q : RTerm) → ((v : ℕ) → term_has v q ≡ true → h v t ≡ k v t) →
    term_value h q x t ≡ term_value k q x t
term_same h k x t q same = ap (λ values. unwrap_or (reduce plus values) None) (factors_same h k x t q.factors same)

positions_same : (h k : Trace) (t : ℕ) (vs : List ℕ) → ((v : ℕ) → list_any (λ u. u == v) vs ≡ true → h v t ≡ k v t) →
    positions_of h t vs ≡ positions_of k t vs
positions_same h k t [] same = refl
positions_same h k t (u ∷ vs) same =
    let first = same u (or_left (u == u) (list_any (λ r. r == u) vs) (equals_itself u)) in
    ap (λ cells. option_and_then (λ p. option_map (λ ps. p ∷ ps) (positions_of h t vs)) (position_in t cells)) first
    ∙ ap (λ (ps : Option (List Point)). option_and_then (λ p. option_map (λ others. p ∷ others) ps) (position_in t (k u t)))
    (positions_same h k t vs (λ v has. same v (or_right (u == v) (list_any (λ r. r == v) vs) has)))

pub atom_same : (regions : List Region) (h k : Trace) (a : RAtom) (x : Env) (t : ℕ) →
    ((v : ℕ) → atom_has v a ≡ true → h v t ≡ k v t) → atom_holds regions h a x t ≡ atom_holds regions k a x t
atom_same regions h k (atoms.Compare q op r) x t same =
    ap (λ value. values_compare op value (term_value h r x t))
    (term_same h k x t q (λ v has. same v (or_left (term_has v q) (term_has v r) has)))
    ∙ ap (λ value. values_compare op (term_value k q x t) value)
    (term_same h k x t r (λ v has. same v (or_right (term_has v q) (term_has v r) has)))
atom_same regions h k (atoms.Inside v n) x t same =
    ap (λ cells. option_map_or (is_in_region regions n) (position_in t cells) false) (same v (equals_itself v))
atom_same regions h k (atoms.Outside v n) x t same =
    ap (λ cells. option_map_or (λ p. not (is_in_region regions n p)) (position_in t cells) false) (same v (equals_itself v))
atom_same regions h k (atoms.Dist v u op c) x t same =
    let first = same v (or_left (v == v) (u == v) (equals_itself v)) in
    let second = same u (or_right (v == u) (u == u) (equals_itself u)) in
    ap (λ cells. distance_holds op c (position_in t cells) (position_in t (h u t))) first
    ∙ ap (λ cells. distance_holds op c (position_in t (k v t)) (position_in t cells)) second
atom_same regions h k (atoms.Sphere r vs) x t same =
    ap (λ ps. option_map_or (fits r) ps false) (positions_same h k t vs same)

pub states_agree : (regions : List Region) (h k : Trace) (lo hi : ℕ) (f : ResolvedTree) → SameStates h k lo hi f →
    Agree (plain regions h) (plain regions k) lo hi f
states_agree regions h k lo hi (shapes.Truth b) same = tt
states_agree regions h k lo hi (shapes.Atom a) same = λ x t from to. atom_same regions h k a x t (λ v has. same v has t from to)
states_agree regions h k lo hi (shapes.Not f) same = states_agree regions h k lo hi f same
states_agree regions h k lo hi (shapes.And f g) same = (
  states_agree regions h k lo hi f (λ v has. same v (or_left (has_variable v f) (has_variable v g) has)),
  states_agree regions h k lo hi g (λ v has. same v (or_right (has_variable v f) (has_variable v g) has)),
)
states_agree regions h k lo hi (shapes.Or f g) same = (
  states_agree regions h k lo hi f (λ v has. same v (or_left (has_variable v f) (has_variable v g) has)),
  states_agree regions h k lo hi g (λ v has. same v (or_right (has_variable v f) (has_variable v g) has)),
)
states_agree regions h k lo hi (shapes.Next f) same = states_agree regions h k lo hi f same
states_agree regions h k lo hi (shapes.Eventually f) same = states_agree regions h k lo hi f same
states_agree regions h k lo hi (shapes.Always f) same = states_agree regions h k lo hi f same
states_agree regions h k lo hi (shapes.Bounded form c f) same = states_agree regions h k lo hi f same
states_agree regions h k lo hi (shapes.Until form c f g) same = (
  states_agree regions h k lo hi f (λ v has. same v (or_left (has_variable v f) (has_variable v g) has)),
  states_agree regions h k lo hi g (λ v has. same v (or_right (has_variable v f) (has_variable v g) has)),
)
states_agree regions h k lo hi (shapes.Assign (d, q) f) same = (
  λ x t from to. term_same h k x t q (λ v has. same v (or_left (term_has v q) (has_variable v f) has) t from to),
  states_agree regions h k lo hi f (λ v has. same v (or_right (term_has v q) (has_variable v f) has)),
)

-- a formula sees the states of its own variables, at the ticks from lo to hi, and nothing else
pub sees_its_variables : (regions : List Region) (h k : Trace) (lo hi : ℕ) (f : ResolvedTree) → SameStates h k lo hi f →
    (e : ℕ) → e ≤ hi → (x : Env) → AgreeIn lo hi (sat (plain regions h) f x e) (sat (plain regions k) f x e)
sees_its_variables regions h k lo hi f same e most x =
    same_sat (plain regions h) (plain regions k) lo hi f (states_agree regions h k lo hi f same) e most x
