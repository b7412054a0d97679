-- A formula at a tick sees so many ticks ahead, and nowhere else.
use Rattle.std.proofs.Common.{◌≡◌, ℕ, ◌+◌, ◌≤◌, min, max, Bool, not, Option, None, Some, refl, ap, arith}
use Rattle.std.proofs.lemmas.Option.{none-some, same_Some}
use Rattle.fixed_point.specs.declared.variants.BoundForm.{BoundForm}
use Rattle.fixed_point.specs.declared.variants.BoundForm.TheVariants as bounds
use Rattle.fixed_point.specs.declared.variants.UntilForm.{UntilForm}
use Rattle.fixed_point.specs.declared.variants.UntilForm.TheVariants as untils
use Rattle.tick_set.proofs.CallerLemmas.{always_for_seen, eventually_within_seen, next_seen, until_within_seen}
use Rattle.formula_shape.specs.Shape as shapes
use Rattle.formula.specs.declared.value.Env.{Env}
use Rattle.formula.specs.Forms.{bounded_at, until_form_at}
use Rattle.formula.specs.Reach.{bounded_reach, farther, further, reach, until_reach}
use Rattle.formula.specs.Tree.{ResolvedTree}
use Rattle.formula.specs.Value.{with_value}
use Rattle.meaning.specs.Agreement.{Agree}
use Rattle.meaning.specs.Satisfaction.{Interpretation, sat}
use Rattle.meaning.proofs.LocalityLemmas.{bound_same, same_either}
use Rattle.exact.proofs.Truths.{both_and}

-- ---- the reach of parts

record Further (c : ℕ) (part : Option ℕ) (n : ℕ) : Type 0 where
  own : ℕ
  is : part ≡ Some own
  sum : c + own ≡ n

further_parts : (c : ℕ) (part : Option ℕ) (n : ℕ) → further c part ≡ Some n → Further c part n
further_parts c (Some k) n is = record { own = k; is = refl; sum = same_Some (c + k) n is }
further_parts c None n is = absurd (none-some n is)

record Farther (left right : Option ℕ) (n : ℕ) : Type 0 where
  first : ℕ
  second : ℕ
  of_left : left ≡ Some first
  of_right : right ≡ Some second
  left_within : first ≤ n
  right_within : second ≤ n

farther_parts : (left right : Option ℕ) (n : ℕ) → farther left right ≡ Some n → Farther left right n
farther_parts (Some j) (Some k) n is =
    let e : max j k ≡ n = same_Some (max j k) n is in
    record { first = j; second = k; of_left = refl; of_right = refl; left_within = omega (arith, e); right_within = omega (arith, e) }
farther_parts (Some j) None n is = absurd (none-some n is)
farther_parts None right n is = absurd (none-some n is)

-- ---- operators

-- from a tick on as far as the reach, both tests agree; then a bounded operator has one value
bounded_seen : (form : BoundForm) (c : ℕ) (part : Option ℕ) (n : ℕ) → bounded_reach form c part ≡ Some n →
    (g g' : ℕ → Bool) (e t hi : ℕ) → min (t + n) e ≤ hi →
    ((k : ℕ) → part ≡ Some k → (u : ℕ) → t ≤ u → u ≤ e → min (u + k) e ≤ hi → g u ≡ g' u) →
    bounded_at form c g e t ≡ bounded_at form c g' e t
bounded_seen bounds.Within c part n is g g' e t hi most same =
    let f = further_parts c part n is in
    eventually_within_seen c g g' e t (λ u from upto. same f.own f.is u from (omega (arith, upto)) (omega (arith, upto, most, f.sum)))
bounded_seen bounds.After c part n is g g' e t hi most same = absurd (none-some n is)
bounded_seen bounds.Always c part n is g g' e t hi most same =
    let f = further_parts c part n is in
    always_for_seen c g g' e t (λ u from upto. same f.own f.is u from (omega (arith, upto)) (omega (arith, upto, most, f.sum)))

until_seen : (form : UntilForm) (c : ℕ) (parts : Option ℕ) (n : ℕ) → until_reach form c parts ≡ Some n →
    (g g' h h' : ℕ → Bool) (e t hi : ℕ) → min (t + n) e ≤ hi →
    ((k : ℕ) → parts ≡ Some k → (u : ℕ) → t ≤ u → u ≤ e → min (u + k) e ≤ hi → g u ≡ g' u) →
    ((k : ℕ) → parts ≡ Some k → (u : ℕ) → t ≤ u → u ≤ e → min (u + k) e ≤ hi → h u ≡ h' u) →
    until_form_at form c g h e t ≡ until_form_at form c g' h' e t
until_seen untils.Plain c parts n is g g' h h' e t hi most guards goals = absurd (none-some n is)
until_seen untils.Within c parts n is g g' h h' e t hi most guards goals =
    let f = further_parts c parts n is in
    until_within_seen c g g' h h' e t
    (λ u from upto. guards f.own f.is u from (omega (arith, upto)) (omega (arith, upto, most, f.sum)))
    (λ u from upto. goals f.own f.is u from (omega (arith, upto)) (omega (arith, upto, most, f.sum)))
until_seen untils.After c parts n is g g' h h' e t hi most guards goals = absurd (none-some n is)

-- ---- formulas

nearer : (t k n e hi : ℕ) → k ≤ n → min (t + n) e ≤ hi → min (t + k) e ≤ hi
nearer t k n e hi within most = omega (arith, within, most)

own_tick : (t n e hi : ℕ) → t ≤ e → min (t + n) e ≤ hi → t ≤ hi
own_tick t n e hi to most = omega (arith, to, most)

seen_from : (j k : Interpretation) (lo hi e : ℕ) (f : ResolvedTree) → Agree j k lo hi f → (n : ℕ) → reach f ≡ Some n → (x : Env) →
    (t : ℕ) → lo ≤ t → t ≤ e → min (t + n) e ≤ hi → sat j f x e t ≡ sat k f x e t
seen_from j k lo hi e (shapes.Truth b) agree n is x t from to most = refl
seen_from j k lo hi e (shapes.Atom a) agree n is x t from to most = agree x t from (own_tick t n e hi to most)
seen_from j k lo hi e (shapes.Not f) agree n is x t from to most = ap not (seen_from j k lo hi e f agree n is x t from to most)
seen_from j k lo hi e (shapes.And f g) agree n is x t from to most =
    let parts = farther_parts (reach f) (reach g) n is in
    both_and (sat j f x e t) (sat k f x e t) (sat j g x e t) (sat k g x e t)
    (seen_from j k lo hi e f agree.0 parts.first parts.of_left x t from to (nearer t parts.first n e hi parts.left_within most))
    (seen_from j k lo hi e g agree.1 parts.second parts.of_right x t from to (nearer t parts.second n e hi parts.right_within most))
seen_from j k lo hi e (shapes.Or f g) agree n is x t from to most =
    let parts = farther_parts (reach f) (reach g) n is in
    same_either (sat j f x e t) (sat k f x e t) (sat j g x e t) (sat k g x e t)
    (seen_from j k lo hi e f agree.0 parts.first parts.of_left x t from to (nearer t parts.first n e hi parts.left_within most))
    (seen_from j k lo hi e g agree.1 parts.second parts.of_right x t from to (nearer t parts.second n e hi parts.right_within most))
seen_from j k lo hi e (shapes.Next f) agree n is x t from to most =
    let part = further_parts 1 (reach f) n is in
    next_seen (sat j f x e) (sat k f x e) e t
    (λ u after upto. seen_from j k lo hi e f agree part.own part.is x u (omega (arith, from, after)) (omega (arith, upto)) (omega (arith, upto, most, part.sum)))
seen_from j k lo hi e (shapes.Eventually f) agree n is x t from to most = absurd (none-some n is)
seen_from j k lo hi e (shapes.Always f) agree n is x t from to most = absurd (none-some n is)
seen_from j k lo hi e (shapes.Bounded form c f) agree n is x t from to most =
    bounded_seen form c (reach f) n is (sat j f x e) (sat k f x e) e t hi most
    (λ m own u after upto within. seen_from j k lo hi e f agree m own x u (omega (arith, from, after)) upto within)
seen_from j k lo hi e (shapes.Until form c f g) agree n is x t from to most =
    until_seen form c (farther (reach f) (reach g)) n is (sat j f x e) (sat k f x e) (sat j g x e) (sat k g x e) e t hi most
    (λ m own u after upto within.
    let parts = farther_parts (reach f) (reach g) m own in
    seen_from j k lo hi e f agree.0 parts.first parts.of_left x u (omega (arith, from, after)) upto (nearer u parts.first m e hi parts.left_within within))
    (λ m own u after upto within.
    let parts = farther_parts (reach f) (reach g) m own in
    seen_from j k lo hi e g agree.1 parts.second parts.of_right x u (omega (arith, from, after)) upto (nearer u parts.second m e hi parts.right_within within))
seen_from j k lo hi e (shapes.Assign (d, q) f) agree n is x t from to most =
    bound_same (j.term q x t) (k.term q x t) (λ v. sat j f (with_value x d v) e t) (λ v. sat k f (with_value x d v) e t)
    (agree.0 x t from (own_tick t n e hi to most)) (λ v. seen_from j k lo hi e f agree.1 n is (with_value x d v) t from to most)

pub seen_so_far : (j k : Interpretation) (f : ResolvedTree) (n : ℕ) → reach f ≡ Some n → (e t : ℕ) → t ≤ e → Agree j k t (min (t + n) e) f →
    (x : Env) → sat j f x e t ≡ sat k f x e t
seen_so_far j k f n is e t to agree x =
    seen_from j k t (min (t + n) e) e f agree n is x t (omega arith) to (omega arith)
