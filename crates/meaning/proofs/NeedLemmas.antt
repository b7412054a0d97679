-- A formula holds nowhere where none of the atoms that it needs holds.
use Rattle.std.proofs.Common.{◌≡◌, ℕ, ◌+◌, ◌≤◌, min, Bool, true, false, ◌&&◌, nat_lt, Option, None, Some, List, [], ◌∷◌, ◌++◌, refl, ap, sym, ◌∙◌, ◌⊎◌, inl, inr, if◌then◌else◌, arith, subst}
use Rattle.std.specs.List.{list_all}
use Rattle.std.specs.Option.{option_map_or}
use Rattle.std.proofs.lemmas.Bool.{and_from, and_parts, both_ways, false_from_ne_true}
use Rattle.std.proofs.lemmas.Option.{cond_some, none-some, same_Some}
use Rattle.fixed_point.specs.declared.variants.BoundForm.{BoundForm}
use Rattle.fixed_point.specs.declared.variants.BoundForm.TheVariants as bounds
use Rattle.fixed_point.specs.declared.variants.UntilForm.{UntilForm}
use Rattle.fixed_point.specs.declared.variants.UntilForm.TheVariants as untils
use Rattle.tick_set.specs.Ticks.{all_in, some_in}
use Rattle.tick_set.specs.Operators.{next_at, until_in}
use Rattle.tick_set.proofs.Between.{all_in_at, some_in_found}
use Rattle.tick_set.proofs.UntilLemmas.{until_in_found}
use Rattle.formula_shape.specs.Shape as shapes
use Rattle.formula.specs.declared.tree.RAtom.{RAtom}
use Rattle.formula.specs.declared.value.Env.{Env}
use Rattle.formula.specs.declared.value.Value.{Value}
use Rattle.formula.specs.Forms.{bounded_at, until_form_at}
use Rattle.formula.specs.Tree.{ResolvedTree}
use Rattle.formula.specs.Value.{with_value}
use Rattle.meaning.specs.Satisfaction.{Interpretation, sat}
use Rattle.meaning.specs.Needs.{AreSilent, both_lists, either_list, needs_of}
use Rattle.exact.proofs.Truths.{and_second_false, or_of_false}

-- ---- operators over tests that hold nowhere from lo to e

abbrev HoldsNowhere : ℕ → ℕ → (ℕ → Bool) → Type 0
HoldsNowhere lo e p = (t : ℕ) → lo ≤ t → t ≤ e → p t ≡ false

none_in : (p : ℕ → Bool) (lo e from upto : ℕ) → HoldsNowhere lo e p → lo ≤ from → upto ≤ e → some_in p from upto ≡ false
none_in p lo e from upto none first last =
    false_from_ne_true (some_in p from upto) (λ holds.
    let s = some_in_found p from upto holds in
    both_ways (p s.tick) (none s.tick (omega (arith, first, s.from)) (omega (arith, last, s.below))) s.passes)

not_all_in : (p : ℕ → Bool) (lo e t upto : ℕ) → HoldsNowhere lo e p → lo ≤ t → t ≤ e → t ≤ upto → all_in p t upto ≡ false
not_all_in p lo e t upto none from to within =
    false_from_ne_true (all_in p t upto) (λ holds.
    both_ways (p t) (none t from to) (all_in_at p t upto holds t (omega arith) within))

no_goal_in : (g h : ℕ → Bool) (lo e from upto t : ℕ) → HoldsNowhere lo e h → lo ≤ from → upto ≤ e → until_in g h from upto t ≡ false
no_goal_in g h lo e from upto t none first last =
    false_from_ne_true (until_in g h from upto t) (λ holds.
    let s = until_in_found g h from upto t holds in
    both_ways (h s.goal) (none s.goal (omega (arith, first, s.from)) (omega (arith, last, s.upto))) s.holds)

none_next : (p : ℕ → Bool) (lo e t : ℕ) → HoldsNowhere lo e p → lo ≤ t → next_at p e t ≡ false
none_next p lo e t none from =
    false_from_ne_true (next_at p e t) (λ holds.
    let parts = and_parts (nat_lt t e) (p (t + 1)) holds in
    let before : t + 1 ≤ e = grind (arith, parts.0) in
    both_ways (p (t + 1)) (none (t + 1) (omega (arith, from)) before) parts.1)

bounded_nowhere : (form : BoundForm) (c : ℕ) (p : ℕ → Bool) (lo e t : ℕ) → HoldsNowhere lo e p → lo ≤ t → t ≤ e → bounded_at form c p e t ≡ false
bounded_nowhere bounds.Within c p lo e t none from to = none_in p lo e t (min (t + c) e) none from (omega arith)
bounded_nowhere bounds.After c p lo e t none from to = none_in p lo e (t + c) e none (omega (arith, from)) (omega arith)
bounded_nowhere bounds.Always c p lo e t none from to = not_all_in p lo e t (min (t + c) e) none from to (omega (arith, to))

until_nowhere : (form : UntilForm) (c : ℕ) (g h : ℕ → Bool) (lo e t : ℕ) → HoldsNowhere lo e h → lo ≤ t → until_form_at form c g h e t ≡ false
until_nowhere untils.Plain c g h lo e t none from = no_goal_in g h lo e t e t none from (omega arith)
until_nowhere untils.Within c g h lo e t none from = no_goal_in g h lo e t (min (t + c) e) t none from (omega arith)
until_nowhere untils.After c g h lo e t none from = no_goal_in g h lo e (t + c) e t none (omega (arith, from)) (omega arith)

not_both_left : (b c : Bool) → b ≡ false → (b && c) ≡ false
not_both_left b c first = ap (λ d. d && c) first

bound_nowhere : (o : Option Value) (p : Value → Bool) → ((v : Value) → p v ≡ false) → option_map_or p o false ≡ false
bound_nowhere None p none = refl
bound_nowhere (Some v) p none = none v

-- ---- the lists of both sides

one_of : (b : Bool) (left right atoms : List RAtom) → Some (if b then left else right) ≡ Some atoms →
    (Some left ≡ Some atoms) ⊎ (Some right ≡ Some atoms)
one_of true left right atoms is = inl is
one_of false left right atoms is = inr is

either_has : (is_better : List RAtom → List RAtom → Bool) (left right : Option (List RAtom)) (atoms : List RAtom) →
    either_list is_better left right ≡ Some atoms → (left ≡ Some atoms) ⊎ (right ≡ Some atoms)
either_has is_better (Some left) (Some right) atoms is = one_of (is_better left right) left right atoms is
either_has is_better (Some left) None atoms is = inl is
either_has is_better None right atoms is = inr is

record Joined (left right : Option (List RAtom)) (atoms : List RAtom) : Type 0 where
  first : List RAtom
  second : List RAtom
  of_left : left ≡ Some first
  of_right : right ≡ Some second
  joined : first ++ second ≡ atoms

both_have : (left right : Option (List RAtom)) (atoms : List RAtom) → both_lists left right ≡ Some atoms → Joined left right atoms
both_have (Some left) (Some right) atoms is =
    record { first = left; second = right; of_left = refl; of_right = refl; joined = same_Some (left ++ right) atoms is }
both_have (Some left) None atoms is = absurd (none-some atoms is)
both_have None right atoms is = absurd (none-some atoms is)

silent_parts : (j : Interpretation) (lo e : ℕ) (first second : List RAtom) → AreSilent j lo e (first ++ second) →
    AreSilent j lo e first × AreSilent j lo e second
silent_parts j lo e [] second silent = (tt, silent)
silent_parts j lo e (a ∷ first) second silent =
    let parts = silent_parts j lo e first second silent.1 in ((silent.0, parts.0), parts.1)

-- ---- formulas

pub holds_nowhere : (passes : RAtom → Bool) (is_better : List RAtom → List RAtom → Bool) (f : ResolvedTree) (atoms : List RAtom) →
    needs_of passes is_better f ≡ Some atoms → (j : Interpretation) (lo e : ℕ) → AreSilent j lo e atoms → (x : Env) →
    HoldsNowhere lo e (sat j f x e)
holds_nowhere passes is_better (shapes.Truth true) atoms is j lo e silent x t from to = absurd (none-some atoms is)
holds_nowhere passes is_better (shapes.Truth false) atoms is j lo e silent x t from to = refl
holds_nowhere passes is_better (shapes.Atom a) atoms is j lo e silent x t from to =
    let same = cond_some (passes a) (a ∷ []) atoms is in
    let silent_atom : AreSilent j lo e (a ∷ []) = subst (AreSilent j lo e) (sym same.1) silent in
    silent_atom.0 x t from to
holds_nowhere passes is_better (shapes.Not f) atoms is j lo e silent x t from to = absurd (none-some atoms is)
holds_nowhere passes is_better (shapes.And f g) atoms is j lo e silent x t from to =
    elim (either_has is_better (needs_of passes is_better f) (needs_of passes is_better g) atoms is) [
      | inl left ↦ not_both_left (sat j f x e t) (sat j g x e t) (holds_nowhere passes is_better f atoms left j lo e silent x t from to)
      | inr right ↦ and_second_false (sat j f x e t) (sat j g x e t) (holds_nowhere passes is_better g atoms right j lo e silent x t from to)
    ]
holds_nowhere passes is_better (shapes.Or f g) atoms is j lo e silent x t from to =
    let both = both_have (needs_of passes is_better f) (needs_of passes is_better g) atoms is in
    let parts = silent_parts j lo e both.first both.second (subst (AreSilent j lo e) (sym both.joined) silent) in
    or_of_false (sat j f x e t) (sat j g x e t)
    (holds_nowhere passes is_better f both.first both.of_left j lo e parts.0 x t from to)
    (holds_nowhere passes is_better g both.second both.of_right j lo e parts.1 x t from to)
holds_nowhere passes is_better (shapes.Next f) atoms is j lo e silent x t from to =
    none_next (sat j f x e) lo e t (holds_nowhere passes is_better f atoms is j lo e silent x) from
holds_nowhere passes is_better (shapes.Eventually f) atoms is j lo e silent x t from to =
    none_in (sat j f x e) lo e t e (holds_nowhere passes is_better f atoms is j lo e silent x) from (omega arith)
holds_nowhere passes is_better (shapes.Always f) atoms is j lo e silent x t from to =
    not_all_in (sat j f x e) lo e t e (holds_nowhere passes is_better f atoms is j lo e silent x) from to to
holds_nowhere passes is_better (shapes.Bounded form c f) atoms is j lo e silent x t from to =
    bounded_nowhere form c (sat j f x e) lo e t (holds_nowhere passes is_better f atoms is j lo e silent x) from to
holds_nowhere passes is_better (shapes.Until form c f g) atoms is j lo e silent x t from to =
    until_nowhere form c (sat j f x e) (sat j g x e) lo e t (holds_nowhere passes is_better g atoms is j lo e silent x) from
holds_nowhere passes is_better (shapes.Assign (d, q) f) atoms is j lo e silent x t from to =
    bound_nowhere (j.term q x t) (λ v. sat j f (with_value x d v) e t)
    (λ v. holds_nowhere passes is_better f atoms is j lo e silent (with_value x d v) t from to)

-- ---- what is needed passes the test

all_of_both : (p : RAtom → Bool) (xs ys : List RAtom) → list_all p xs ≡ true → list_all p ys ≡ true → list_all p (xs ++ ys) ≡ true
all_of_both p [] ys first second = second
all_of_both p (x ∷ xs) ys first second =
    let parts = and_parts (p x) (list_all p xs) first in
    and_from (p x) (list_all p (xs ++ ys)) parts.0 (all_of_both p xs ys parts.1 second)

pub needed_pass : (passes : RAtom → Bool) (is_better : List RAtom → List RAtom → Bool) (f : ResolvedTree) (atoms : List RAtom) →
    needs_of passes is_better f ≡ Some atoms → list_all passes atoms ≡ true
needed_pass passes is_better (shapes.Truth true) atoms is = absurd (none-some atoms is)
needed_pass passes is_better (shapes.Truth false) atoms is = ap (list_all passes) (sym (same_Some [] atoms is))
needed_pass passes is_better (shapes.Atom a) atoms is =
    let same = cond_some (passes a) (a ∷ []) atoms is in
    ap (list_all passes) (sym same.1) ∙ and_from (passes a) true same.0 refl
needed_pass passes is_better (shapes.Not f) atoms is = absurd (none-some atoms is)
needed_pass passes is_better (shapes.And f g) atoms is =
    elim (either_has is_better (needs_of passes is_better f) (needs_of passes is_better g) atoms is) [
      | inl left ↦ needed_pass passes is_better f atoms left
      | inr right ↦ needed_pass passes is_better g atoms right
    ]
needed_pass passes is_better (shapes.Or f g) atoms is =
    let both = both_have (needs_of passes is_better f) (needs_of passes is_better g) atoms is in
    ap (list_all passes) (sym both.joined)
    ∙ all_of_both passes both.first both.second
    (needed_pass passes is_better f both.first both.of_left) (needed_pass passes is_better g both.second both.of_right)
needed_pass passes is_better (shapes.Next f) atoms is = needed_pass passes is_better f atoms is
needed_pass passes is_better (shapes.Eventually f) atoms is = needed_pass passes is_better f atoms is
needed_pass passes is_better (shapes.Always f) atoms is = needed_pass passes is_better f atoms is
needed_pass passes is_better (shapes.Bounded form c f) atoms is = needed_pass passes is_better f atoms is
needed_pass passes is_better (shapes.Until form c f g) atoms is = needed_pass passes is_better g atoms is
needed_pass passes is_better (shapes.Assign bound f) atoms is = needed_pass passes is_better f atoms is
