-- Tests that agree on a stretch, and the operators on it. The crates above cite these.
use Rattle.std.proofs.Common.{◌≡◌, ℕ, zero, suc, ◌+◌, ◌-◌, ◌≤◌, min, Bool, true, false, not, ◌&&◌, ◌||◌, leb, ltb, eqb, IsTrue, ◌↔◌, List, [], ◌∷◌, if◌then◌else◌, refl, ap, ◌∙◌, sym, inl, inr, arith}
use Rattle.std.specs.List.{range_with_len, filter, list_any, list_all}
use Rattle.std.proofs.lemmas.Bool.{cases_eq, cases_lt, ne_eqb}
use Rattle.std.proofs.lemmas.Bool.Decides.{nat_tests}
use Rattle.tick_set.specs.TickList.{has}
use Rattle.tick_set.specs.Ticks.{AgreeIn, within, between, listed, some_in, all_in}
use Rattle.tick_set.specs.Operators.{until_in, next_at, until_at, until_within_at, until_after_at, eventually_at, eventually_within_at, eventually_after_at, always_at, always_for_at}
use Rattle.tick_set.proofs.Between.{some_in_found, some_in_at, all_in_at, all_in_from, all_in_same}
use Rattle.tick_set.proofs.RunLemmas.{filter_range_agree}
use Rattle.tick_set.proofs.UntilLemmas.{until_in_found, until_in_from}
use Rattle.exact.proofs.Truths.{same_truth}

-- ---- tests that agree have one answer
pub same_listed : (p q : ℕ → Bool) (lo hi : ℕ) → AgreeIn lo hi p q → listed p lo hi ≡ listed q lo hi
unfolding listed between
same_listed p q lo hi same = filter_range_agree p q (hi + 1 - lo) lo (λ t from to. same t from (omega (arith, to, from)))

some_in_goes_over : (p q : ℕ → Bool) (lo hi : ℕ) → AgreeIn lo hi p q → some_in p lo hi ≡ true → some_in q lo hi ≡ true
some_in_goes_over p q lo hi same e =
    let s = some_in_found p lo hi e in
    let upto : s.tick ≤ hi = omega (arith, s.below) in
    some_in_at q lo hi s.tick s.from upto (sym (same s.tick s.from upto) ∙ s.passes)

pub some_in_same : (p q : ℕ → Bool) (lo hi : ℕ) → AgreeIn lo hi p q → some_in p lo hi ≡ some_in q lo hi
some_in_same p q lo hi same =
    same_truth (some_in p lo hi) (some_in q lo hi) (some_in_goes_over p q lo hi same) (some_in_goes_over q p lo hi (λ u l k. sym (same u l k)))

until_in_goes_over : (g g' h h' : ℕ → Bool) (lo hi t : ℕ) → AgreeIn t hi g g' → AgreeIn lo hi h h' → until_in g h lo hi t ≡ true → until_in g' h' lo hi t ≡ true
until_in_goes_over g g' h h' lo hi t guards goals e =
    let s = until_in_found g h lo hi t e in
    until_in_from g' h' lo hi t (record {
      goal = s.goal;
      from = s.from;
      upto = s.upto;
      holds = sym (goals s.goal s.from s.upto) ∙ s.holds;
      guard = λ v l k. sym (guards v l (omega (arith, k, s.upto))) ∙ s.guard v l k;
    })

-- the goals need agree from lo on, the guards from t on
pub until_in_same : (g g' h h' : ℕ → Bool) (lo hi t : ℕ) → AgreeIn t hi g g' → AgreeIn lo hi h h' → until_in g h lo hi t ≡ until_in g' h' lo hi t
until_in_same g g' h h' lo hi t guards goals =
    same_truth (until_in g h lo hi t) (until_in g' h' lo hi t)
    (until_in_goes_over g g' h h' lo hi t guards goals)
    (until_in_goes_over g' g h' h lo hi t (λ u l k. sym (guards u l k)) (λ u l k. sym (goals u l k)))

-- ---- a bounded operator at t sees no further than it reaches
pub next_seen : (g g' : ℕ → Bool) (e t : ℕ) → AgreeIn t (min (t + 1) e) g g' → next_at g e t ≡ next_at g' e t
next_seen g g' e t same =
    elim (cases_lt t e) [
      | inl below ↦ ap (λ b. ltb t e && b) (same (t + 1) (omega arith) (omega (arith, below)))
      | inr past ↦ grind (arith, nat_tests)
    ]

pub until_within_seen : (c : ℕ) (g g' h h' : ℕ → Bool) (e t : ℕ) → AgreeIn t (min (t + c) e) g g' → AgreeIn t (min (t + c) e) h h'
    → until_within_at c g h e t ≡ until_within_at c g' h' e t
until_within_seen c g g' h h' e t guards goals = until_in_same g g' h h' t (min (t + c) e) t guards goals

pub eventually_within_seen : (c : ℕ) (g g' : ℕ → Bool) (e t : ℕ) → AgreeIn t (min (t + c) e) g g' → eventually_within_at c g e t ≡ eventually_within_at c g' e t
eventually_within_seen c g g' e t same = some_in_same g g' t (min (t + c) e) same

pub always_for_seen : (c : ℕ) (g g' : ℕ → Bool) (e t : ℕ) → AgreeIn t (min (t + c) e) g g' → always_for_at c g e t ≡ always_for_at c g' e t
always_for_seen c g g' e t same = all_in_same g g' t (min (t + c) e) same

-- ---- an operator at t sees the ticks from t to e
narrowed : (lo hi from upto : ℕ) (p q : ℕ → Bool) → AgreeIn lo hi p q → lo ≤ from → upto ≤ hi → AgreeIn from upto p q
narrowed lo hi from upto p q same l k u a b = same u (omega (arith, l, a)) (omega (arith, k, b))

up_to : (n e t : ℕ) (p q : ℕ → Bool) → AgreeIn t e p q → AgreeIn t (min n e) p q
up_to n e t p q same = narrowed t e t (min n e) p q same (omega arith) (omega arith)

pub next_same : (g g' : ℕ → Bool) (e t : ℕ) → AgreeIn t e g g' → next_at g e t ≡ next_at g' e t
next_same g g' e t same = next_seen g g' e t (up_to (t + 1) e t g g' same)

pub until_same : (g g' h h' : ℕ → Bool) (e t : ℕ) → AgreeIn t e g g' → AgreeIn t e h h' → until_at g h e t ≡ until_at g' h' e t
until_same g g' h h' e t guards goals = until_in_same g g' h h' t e t guards goals

pub until_within_same : (c : ℕ) (g g' h h' : ℕ → Bool) (e t : ℕ) → AgreeIn t e g g' → AgreeIn t e h h' → until_within_at c g h e t ≡ until_within_at c g' h' e t
until_within_same c g g' h h' e t guards goals = until_within_seen c g g' h h' e t (up_to (t + c) e t g g' guards) (up_to (t + c) e t h h' goals)

pub until_after_same : (c : ℕ) (g g' h h' : ℕ → Bool) (e t : ℕ) → AgreeIn t e g g' → AgreeIn t e h h' → until_after_at c g h e t ≡ until_after_at c g' h' e t
until_after_same c g g' h h' e t guards goals =
    until_in_same g g' h h' (t + c) e t guards (narrowed t e (t + c) e h h' goals (omega arith) (omega arith))

pub eventually_same : (g g' : ℕ → Bool) (e t : ℕ) → AgreeIn t e g g' → eventually_at g e t ≡ eventually_at g' e t
eventually_same g g' e t same = some_in_same g g' t e same

pub eventually_within_same : (c : ℕ) (g g' : ℕ → Bool) (e t : ℕ) → AgreeIn t e g g' → eventually_within_at c g e t ≡ eventually_within_at c g' e t
eventually_within_same c g g' e t same = eventually_within_seen c g g' e t (up_to (t + c) e t g g' same)

pub eventually_after_same : (c : ℕ) (g g' : ℕ → Bool) (e t : ℕ) → AgreeIn t e g g' → eventually_after_at c g e t ≡ eventually_after_at c g' e t
eventually_after_same c g g' e t same = some_in_same g g' (t + c) e (narrowed t e (t + c) e g g' same (omega arith) (omega arith))

pub always_same : (g g' : ℕ → Bool) (e t : ℕ) → AgreeIn t e g g' → always_at g e t ≡ always_at g' e t
always_same g g' e t same = all_in_same g g' t e same

pub always_for_same : (c : ℕ) (g g' : ℕ → Bool) (e t : ℕ) → AgreeIn t e g g' → always_for_at c g e t ≡ always_for_at c g' e t
always_for_same c g g' e t same = always_for_seen c g g' e t (up_to (t + c) e t g g' same)

-- ---- what the tests over a range say
pub some_in_iff : (p : ℕ → Bool) (lo hi : ℕ) → IsTrue (some_in p lo hi) ↔ ((t : ℕ) × (lo ≤ t) × (t ≤ hi) × (p t ≡ true))
some_in_iff p lo hi = (
  λ e. let s = some_in_found p lo hi e in (s.tick, s.from, omega (arith, s.below), s.passes),
  λ s. some_in_at p lo hi s.0 s.1 s.2 s.3,
)

pub all_in_iff : (p : ℕ → Bool) (lo hi : ℕ) → IsTrue (all_in p lo hi) ↔ ((t : ℕ) → lo ≤ t → t ≤ hi → p t ≡ true)
all_in_iff p lo hi = (all_in_at p lo hi, all_in_from p lo hi)

has_more : (b : Bool) (a t : ℕ) (rest : List ℕ) → has (if b then a ∷ rest else rest) t ≡ ((b && eqb a t) || has rest t)
has_more true a t rest = refl
has_more false a t rest = refl

has_filtered : (p : ℕ → Bool) (n a t : ℕ) → has (filter p (range_with_len a n)) t ≡ ((leb a t && ltb t (a + n)) && p t)
has_filtered p zero a t = grind (arith, nat_tests)
has_filtered p (suc n) a t =
    has_more (p a) a t (filter p (range_with_len (a + 1) n))
    ∙ elim (cases_eq a t) [
      | inl same ↦ rw same (grind (arith, nat_tests, has_filtered p n (t + 1) t))
      | inr other ↦ grind (arith, nat_tests, ne_eqb a t other, has_filtered p n (a + 1) t)
    ]

pub has_listed : (p : ℕ → Bool) (lo hi t : ℕ) → has (listed p lo hi) t ≡ (within lo hi t && p t)
unfolding listed between
has_listed p lo hi t = has_filtered p (hi + 1 - lo) lo t ∙ ap (λ b. b && p t) (grind (arith, nat_tests))

-- ---- derived operators
pub some_is_until : (g : ℕ → Bool) (lo hi t : ℕ) → some_in g lo hi ≡ until_in (λ _. true) g lo hi t
some_is_until g lo hi t =
    same_truth (some_in g lo hi) (until_in (λ _. true) g lo hi t)
    (λ e.
    let s = some_in_found g lo hi e in
    until_in_from (λ _. true) g lo hi t (record { goal = s.tick; from = s.from; upto = omega (arith, s.below); holds = s.passes; guard = λ v l k. refl }))
    (λ e. let s = until_in_found (λ _. true) g lo hi t e in some_in_at g lo hi s.goal s.from s.upto s.holds)

all_is_none : (p : ℕ → Bool) (xs : List ℕ) → list_all p xs ≡ not (list_any (λ u. not (p u)) xs)
all_is_none p [] = refl
all_is_none p (x ∷ xs) = grind (arith, all_is_none p xs)

pub all_is_not_some : (p : ℕ → Bool) (lo hi : ℕ) → all_in p lo hi ≡ not (some_in (λ u. not (p u)) lo hi)
unfolding all_in some_in
all_is_not_some p lo hi = all_is_none p (between lo (hi + 1))
