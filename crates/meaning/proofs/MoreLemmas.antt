-- Where a formula has no NOT, atoms that hold more make it hold more.
use Rattle.std.proofs.Common.{◌≡◌, ℕ, ◌+◌, min, Bool, true, false, ◌&&◌, ◌||◌, nat_lt, Option, None, Some, ap, ◌∙◌, sym, inl, inr, arith}
use Rattle.std.specs.Option.{option_map_or}
use Rattle.std.proofs.lemmas.Bool.{false≢true, and_parts, and_from, or_cases, or_left, or_right, or_parts}
use Rattle.fixed_point.specs.declared.variants.BoundForm.{BoundForm}
use Rattle.fixed_point.specs.declared.variants.BoundForm.TheVariants as bounds
use Rattle.fixed_point.specs.declared.variants.UntilForm.{UntilForm}
use Rattle.fixed_point.specs.declared.variants.UntilForm.TheVariants as untils
use Rattle.tick_set.specs.Ticks.{some_in, all_in}
use Rattle.tick_set.specs.Operators.{until_in}
use Rattle.tick_set.proofs.Between.{some_in_found, some_in_at, all_in_at, all_in_from}
use Rattle.tick_set.proofs.UntilLemmas.{until_in_found, until_in_from}
use Rattle.formula_shape.specs.Shape as shapes
use Rattle.formula_shape.specs.Sizes.{has_not}
use Rattle.formula.specs.declared.value.Env.{Env}
use Rattle.formula.specs.declared.value.Value.{Value}
use Rattle.formula.specs.Forms.{bounded_at, until_form_at}
use Rattle.formula.specs.Tree.{ResolvedTree}
use Rattle.formula.specs.Value.{with_value}
use Rattle.meaning.specs.Satisfaction.{Interpretation, sat}
use Rattle.meaning.specs.Agreement.{HasMore}

-- where the first holds, so does the second
abbrev Below : (ℕ → Bool) → (ℕ → Bool) → Type 0
Below p q = (t : ℕ) → p t ≡ true → q t ≡ true

some_more : (p q : ℕ → Bool) (lo hi : ℕ) → Below p q → some_in p lo hi ≡ true → some_in q lo hi ≡ true
some_more p q lo hi below e =
    let s = some_in_found p lo hi e in some_in_at q lo hi s.tick s.from (omega (arith, s.below)) (below s.tick s.passes)

all_more : (p q : ℕ → Bool) (lo hi : ℕ) → Below p q → all_in p lo hi ≡ true → all_in q lo hi ≡ true
all_more p q lo hi below e = all_in_from q lo hi (λ u l k. below u (all_in_at p lo hi e u l k))

until_more : (g g' h h' : ℕ → Bool) (lo hi t : ℕ) → Below g g' → Below h h' → until_in g h lo hi t ≡ true → until_in g' h' lo hi t ≡ true
until_more g g' h h' lo hi t guards goals e =
    let s = until_in_found g h lo hi t e in
    until_in_from g' h' lo hi t (record {
      goal = s.goal;
      from = s.from;
      upto = s.upto;
      holds = goals s.goal s.holds;
      guard = λ v l k. guards v (s.guard v l k);
    })

bounded_more : (form : BoundForm) (c : ℕ) (g g' : ℕ → Bool) (e t : ℕ) → Below g g' → bounded_at form c g e t ≡ true → bounded_at form c g' e t ≡ true
bounded_more bounds.Within c g g' e t below holds = some_more g g' t (min (t + c) e) below holds
bounded_more bounds.After c g g' e t below holds = some_more g g' (t + c) e below holds
bounded_more bounds.Always c g g' e t below holds = all_more g g' t (min (t + c) e) below holds

until_form_more : (form : UntilForm) (c : ℕ) (g g' h h' : ℕ → Bool) (e t : ℕ) → Below g g' → Below h h' →
    until_form_at form c g h e t ≡ true → until_form_at form c g' h' e t ≡ true
until_form_more untils.Plain c g g' h h' e t guards goals holds = until_more g g' h h' t e t guards goals holds
until_form_more untils.Within c g g' h h' e t guards goals holds = until_more g g' h h' t (min (t + c) e) t guards goals holds
until_form_more untils.After c g g' h h' e t guards goals holds = until_more g g' h h' (t + c) e t guards goals holds

next_more : (a b b' : Bool) → (b ≡ true → b' ≡ true) → (a && b) ≡ true → (a && b') ≡ true
next_more a b b' below holds = let parts = and_parts a b holds in and_from a b' parts.0 (below parts.1)

both_more : (a a' b b' : Bool) → (a ≡ true → a' ≡ true) → (b ≡ true → b' ≡ true) → (a && b) ≡ true → (a' && b') ≡ true
both_more a a' b b' first second holds =
    let parts = and_parts a b holds in and_from a' b' (first parts.0) (second parts.1)

either_more : (a a' b b' : Bool) → (a ≡ true → a' ≡ true) → (b ≡ true → b' ≡ true) → (a || b) ≡ true → (a' || b') ≡ true
either_more a a' b b' first second holds =
    elim (or_cases a b holds) [
      | inl e ↦ or_left a' b' (first e)
      | inr e ↦ or_right a' b' (second e)
    ]

bound_more : (o o' : Option Value) (p q : Value → Bool) → o ≡ o' → ((v : Value) → p v ≡ true → q v ≡ true) →
    option_map_or p o false ≡ true → option_map_or q o' false ≡ true
bound_more None o' p q e below holds = absurd (false≢true holds)
bound_more (Some v) o' p q e below holds = ap (λ (value : Option Value). option_map_or q value false) (sym e) ∙ below v holds

pub holds_more : (j k : Interpretation) (f : ResolvedTree) → HasMore j k f → has_not f ≡ false → (x : Env) (e t : ℕ) →
    sat j f x e t ≡ true → sat k f x e t ≡ true
holds_more j k (shapes.Truth b) more none x e t holds = holds
holds_more j k (shapes.Atom a) more none x e t holds = more x t holds
holds_more j k (shapes.Not f) more none x e t holds = absurd (false≢true (sym none))
holds_more j k (shapes.And f g) more none x e t holds =
    let parts = or_parts (has_not f) (has_not g) none in
    both_more (sat j f x e t) (sat k f x e t) (sat j g x e t) (sat k g x e t)
    (holds_more j k f more.0 parts.0 x e t) (holds_more j k g more.1 parts.1 x e t) holds
holds_more j k (shapes.Or f g) more none x e t holds =
    let parts = or_parts (has_not f) (has_not g) none in
    either_more (sat j f x e t) (sat k f x e t) (sat j g x e t) (sat k g x e t)
    (holds_more j k f more.0 parts.0 x e t) (holds_more j k g more.1 parts.1 x e t) holds
holds_more j k (shapes.Next f) more none x e t holds =
    next_more (nat_lt t e) (sat j f x e (t + 1)) (sat k f x e (t + 1)) (holds_more j k f more none x e (t + 1)) holds
holds_more j k (shapes.Eventually f) more none x e t holds =
    some_more (sat j f x e) (sat k f x e) t e (holds_more j k f more none x e) holds
holds_more j k (shapes.Always f) more none x e t holds =
    all_more (sat j f x e) (sat k f x e) t e (holds_more j k f more none x e) holds
holds_more j k (shapes.Bounded form c f) more none x e t holds =
    bounded_more form c (sat j f x e) (sat k f x e) e t (holds_more j k f more none x e) holds
holds_more j k (shapes.Until form c f g) more none x e t holds =
    let parts = or_parts (has_not f) (has_not g) none in
    until_form_more form c (sat j f x e) (sat k f x e) (sat j g x e) (sat k g x e) e t
    (holds_more j k f more.0 parts.0 x e) (holds_more j k g more.1 parts.1 x e) holds
holds_more j k (shapes.Assign (d, q) f) more none x e t holds =
    bound_more (j.term q x t) (k.term q x t) (λ v. sat j f (with_value x d v) e t) (λ v. sat k f (with_value x d v) e t)
    (more.0 x t) (λ v. holds_more j k f more.1 none (with_value x d v) e t) holds
