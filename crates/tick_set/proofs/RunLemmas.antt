-- For this crate and for the crates above: spans that are runs.
use Rattle.std.proofs.Common.{◌≡◌, ℕ, zero, suc, ◌+◌, ◌-◌, ◌<◌, ◌≤◌, Bool, true, false, ◌&&◌, ◌||◌, List, [], ◌∷◌, ◌++◌, refl, ap, ◌∙◌, sym, inl, inr, arith}
use Rattle.std.specs.List.{range_with_len, filter}
use Rattle.std.proofs.lemmas.Bool.{false≢true, or_cases, and_parts, and_from, cases_lt}
use Rattle.std.proofs.lemmas.Bool.Decides.{nat_tests}
use Rattle.tick_set.specs.declared.spans.Span.{Span}
use Rattle.tick_set.specs.Ticks.{within, between, listed}
use Rattle.tick_set.specs.Runs.{spans_have, IsNormalFrom, IsNormal, IsRuns, pairs, with_tick, runs_of}
use Rattle.tick_set.proofs.Between.{within_parts, within_from}
use Rattle.exact.proofs.Truths.{same_truth}

-- no span of a normal list has a tick below its start
pub spans_have-below : (spans : List Span) (from t : ℕ) → IsNormalFrom from spans → t < from → spans_have spans t ≡ false
spans_have-below [] from t h below = refl
spans_have-below (s ∷ rest) from t h below = let order : s.lo ≤ s.hi = s.ordered in grind (arith, nat_tests, spans_have-below rest (s.hi + 2) t h.1)

pub spans_have-append : (xs ys : List Span) (t : ℕ) → spans_have (xs ++ ys) t ≡ (spans_have xs t || spans_have ys t)
spans_have-append [] ys t = refl
spans_have-append (s ∷ xs) ys t = grind (arith, spans_have-append xs ys t)

pub IsNormalFrom-push : (spans : List Span) (from : ℕ) (s : Span) → IsNormalFrom from spans → ((t : ℕ) → spans_have spans t ≡ true → t + 2 ≤ s.lo) → from ≤ s.lo → IsNormalFrom from (spans ++ s ∷ [])
IsNormalFrom-push [] from s h below at_least = (at_least, tt)
IsNormalFrom-push (x ∷ spans) from s h below at_least =
    let order : x.lo ≤ x.hi = x.ordered in
    let last : x.hi + 2 ≤ s.lo = below x.hi (grind (arith, nat_tests)) in
    (h.0, IsNormalFrom-push spans (x.hi + 2) s h.1 (λ t e. below t (grind (arith, e))) last)

-- no tick is above the last tick that there is
pub spans_have-in_range : (spans : List Span) (t : ℕ) → spans_have spans t ≡ true → t ≤ 1000000000
spans_have-in_range [] t h = absurd (false≢true h)
spans_have-in_range (s ∷ rest) t h =
    let bound : s.hi ≤ 1000000000 = s.in_range in
    elim (or_cases (within s.lo s.hi t) (spans_have rest t) h) [
      | inl e ↦ omega (arith, within_parts s.lo s.hi t e)
      | inr e ↦ spans_have-in_range rest t e
    ]

-- two tests that agree on a range keep the same ticks of it
pub filter_range_agree : (p q : ℕ → Bool) (n a : ℕ) → ((t : ℕ) → a ≤ t → t < a + n → p t ≡ q t) → filter p (range_with_len a n) ≡ filter q (range_with_len a n)
filter_range_agree p q zero a h = refl
filter_range_agree p q (suc n) a h = grind (arith, h a (omega arith) (omega arith), filter_range_agree p q n (a + 1) (λ t l k. h t (omega arith) (omega arith)))

pub IsNormalFrom-weaker : (from low : ℕ) (spans : List Span) → low ≤ from → IsNormalFrom from spans → IsNormalFrom low spans
IsNormalFrom-weaker from low [] l h = tt
IsNormalFrom-weaker from low (s ∷ rest) l h = (omega (arith, h.0), h.1)

-- the ticks of the spans end before n
EndsBefore : ℕ → List Span → Type 0
EndsBefore n spans = (t : ℕ) → spans_have spans t ≡ true → t < n

-- a span without its first tick
shorter : (s : Span) → s.lo < s.hi → Span
shorter s h = record { lo = s.lo + 1; hi = s.hi; ordered = omega arith; in_range = s.in_range }

with_tick-apart : (t : ℕ) (rest : List Span) → IsNormalFrom (t + 2) rest → with_tick t (pairs rest) ≡ (t, t) ∷ pairs rest
with_tick-apart t [] h = refl
with_tick-apart t (s ∷ rest) h = grind (arith, nat_tests, h.0)

module _ (a : ℕ) (s : Span) (rest : List Span) where
  has_shorter : (h : s.lo < s.hi) → a ≡ s.lo → (t : ℕ) → a + 1 ≤ t → spans_have (s ∷ rest) t ≡ spans_have (shorter s h ∷ rest) t
  unfolding shorter
  has_shorter h e t l = grind (arith, nat_tests)

  has_longer : (h : s.lo < s.hi) (t : ℕ) → spans_have (shorter s h ∷ rest) t ≡ true → spans_have (s ∷ rest) t ≡ true
  unfolding shorter
  has_longer h t e = grind (arith, nat_tests)

  has_rest : s.hi ≡ s.lo → a ≡ s.lo → (t : ℕ) → a + 1 ≤ t → spans_have (s ∷ rest) t ≡ spans_have rest t
  has_rest h e t l = grind (arith, nat_tests)

  -- the tick a opens the run s, whose rest is a run already or which has no other tick
  opens_longer : (ticks : List ℕ) (h : s.lo < s.hi) → a ≡ s.lo → runs_of ticks ≡ pairs (shorter s h ∷ rest) → with_tick a (runs_of ticks) ≡ pairs (s ∷ rest)
  unfolding shorter
  opens_longer ticks h e r = rw r (grind (arith, nat_tests))

  opens_alone : (ticks : List ℕ) → s.hi ≡ s.lo → a ≡ s.lo → IsNormalFrom (s.hi + 2) rest → runs_of ticks ≡ pairs rest → with_tick a (runs_of ticks) ≡ pairs (s ∷ rest)
  opens_alone ticks h e normal r = grind (arith, r, with_tick-apart a rest (rw (h ∙ sym e) at normal))

-- the runs of the ticks of normal spans are the spans
runs_of_range : (n a : ℕ) (spans : List Span) → IsNormalFrom a spans → EndsBefore (a + n) spans → runs_of (filter (spans_have spans) (range_with_len a n)) ≡ pairs spans
unfolding EndsBefore shorter
runs_of_range zero a [] h e = refl
runs_of_range zero a (s ∷ rest) h e =
    let order : s.lo ≤ s.hi = s.ordered in
    absurd (omega (arith, h.0, e s.lo (grind (arith, nat_tests))))
runs_of_range (suc n) a [] h e = runs_of_range n (a + 1) [] tt (λ t f. absurd (false≢true f))
runs_of_range (suc n) a (s ∷ rest) h e =
    let order : s.lo ≤ s.hi = s.ordered in
    elim (cases_lt a s.lo) [
      | inl below ↦
          let out : spans_have (s ∷ rest) a ≡ false = spans_have-below (s ∷ rest) s.lo a (omega arith, h.1) below in
          rw out (runs_of_range n (a + 1) (s ∷ rest) (omega arith, h.1) (λ t f. omega (arith, e t f)))
      | inr at_least ↦
          let at : a ≡ s.lo = omega (arith, h.0) in
          let here : within s.lo s.hi a ≡ true = within_from s.lo s.hi a at_least (omega arith) in
          let later : List ℕ = filter (spans_have (s ∷ rest)) (range_with_len (a + 1) n) in
          rw here (elim (cases_lt s.lo s.hi) [
            | inl longer ↦ opens_longer a s rest later longer at
                (ap runs_of (filter_range_agree _ _ n (a + 1) (λ t l k. has_shorter a s rest longer at t l))
                ∙ runs_of_range n (a + 1) (shorter s longer ∷ rest) (omega arith, h.1) (λ t f. omega (arith, e t (has_longer a s rest longer t f))))
            | inr alone ↦ opens_alone a s rest later (omega arith) at h.1
                (ap runs_of (filter_range_agree _ _ n (a + 1) (λ t l k. has_rest a s rest (omega arith) at t l))
                ∙ runs_of_range n (a + 1) rest (IsNormalFrom-weaker (s.hi + 2) (a + 1) rest (omega arith) h.1) (λ t f. omega (arith, e t (grind (arith, f)))))
          ])
    ]

-- a span's first tick is a tick of the set
first_tick : (member : ℕ → Bool) (lo hi : ℕ) (spans : List Span) → IsNormal spans → ((t : ℕ) → spans_have spans t ≡ true → (lo ≤ t) × (t ≤ hi)) → IsNormalFrom lo spans
first_tick member lo hi [] h f = tt
first_tick member lo hi (s ∷ rest) h f =
    let order : s.lo ≤ s.hi = s.ordered in
    ((f s.lo (grind (arith, nat_tests))).0, h.1)

-- the spans of a set within lo to hi are the runs of its list of ticks
pub runs_of_listed : (member test : ℕ → Bool) (lo hi : ℕ) (spans : List Span) → IsRuns member spans → ((t : ℕ) → member t ≡ (within lo hi t && test t)) → pairs spans ≡ runs_of (listed test lo hi)
unfolding EndsBefore listed between
runs_of_listed member test lo hi spans r h =
    let bounds : (t : ℕ) → spans_have spans t ≡ true → (lo ≤ t) × (t ≤ hi) = λ t e. within_parts lo hi t (and_parts (within lo hi t) (test t) (sym (h t) ∙ sym (r.ticks t) ∙ e)).0 in
    let same : (t : ℕ) → lo ≤ t → t < lo + (hi + 1 - lo) → test t ≡ spans_have spans t = λ t l k. grind (arith, r.ticks t, h t, within_from lo hi t l (omega arith)) in
    sym (ap runs_of (filter_range_agree test (spans_have spans) (hi + 1 - lo) lo same) ∙ runs_of_range (hi + 1 - lo) lo spans (first_tick member lo hi spans r.normal bounds) (λ t e. omega (arith, (bounds t e).1)))

-- every set's spans are the runs of its list of ticks
pub runs_of_all : (member : ℕ → Bool) (spans : List Span) → IsRuns member spans → pairs spans ≡ runs_of (listed member 0 1000000000)
runs_of_all member spans r =
    runs_of_listed member member 0 1000000000 spans r (λ t. same_truth (member t) (within 0 1000000000 t && member t)
    (λ e. and_from (within 0 1000000000 t) (member t) (within_from 0 1000000000 t (omega arith) (spans_have-in_range spans t (r.ticks t ∙ e))) e)
    (λ e. (and_parts (within 0 1000000000 t) (member t) e).1))

-- sets with the same ticks have the same runs
pub pairs_same : (p q : ℕ → Bool) (xs ys : List Span) → IsRuns p xs → IsRuns q ys → ((t : ℕ) → p t ≡ q t) → pairs xs ≡ pairs ys
pairs_same p q xs ys r s h =
    let r' : IsRuns q xs = record { normal = r.normal; ticks = λ t. r.ticks t ∙ h t } in
    runs_of_all q xs r' ∙ sym (runs_of_all q ys s)
