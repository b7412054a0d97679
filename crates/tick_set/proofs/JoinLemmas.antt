-- For this crate and for the crates above: runs that grow at their end.
use Rattle.std.proofs.Common.{◌≡◌, ℕ, zero, suc, ◌+◌, ◌<◌, ◌≤◌, true, false, ◌||◌, Option, List, [], ◌∷◌, ◌++◌, length, get_or, set, ◌∙◌, sym, refl, subst, inl, inr, arith}
use Rattle.std.specs.Prelude.{IfSome, slice_get}
use Rattle.std.proofs.lemmas.Option.{slice_get-get_or}
use Rattle.std.proofs.lemmas.Bool.{or_cases, or_right, false≢true}
use Rattle.std.proofs.lemmas.Bool.Decides.{nat_tests}
use Rattle.tick_set.specs.Ticks.{within}
use Rattle.tick_set.specs.Runs.{spans_have, IsNormal, IsNormalFrom}
use Rattle.tick_set.specs.declared.spans.Span.{Span}
use Rattle.tick_set.proofs.RunLemmas.{spans_have-append, IsNormalFrom-push}

-- what holds of the last run holds of it at each default
pub joined_at : (runs : List Span) (k : ℕ) (d span : Span) → k + 1 ≡ length runs → IfSome (slice_get runs k) (λ (run : Span). run.hi + 1 ≡ span.lo) →
    (get_or runs k d).hi + 1 ≡ span.lo
joined_at runs k d span last joined =
    subst (λ (o : Option Span). IfSome o (λ run. run.hi + 1 ≡ span.lo)) (slice_get-get_or runs k d (omega (arith, last))) joined

-- the last run gives way to one that begins where it does
normal_longer_from : (runs : List Span) (from k : ℕ) (d longer : Span) → IsNormalFrom from runs → k + 1 ≡ length runs
    → longer.lo ≡ (get_or runs k d).lo → IsNormalFrom from (set runs k longer)
normal_longer_from [] from k d longer normal last same = absurd (omega arith)
normal_longer_from (x ∷ xs) from zero d longer normal last same = (omega (arith, normal.0), none xs (omega arith))
  where
    none : (xs : List Span) → length xs ≡ 0 → IsNormalFrom (longer.hi + 2) xs
    none [] h = tt
    none (y ∷ ys) h = absurd (omega arith)
normal_longer_from (x ∷ xs) from (suc k) d longer normal last same =
    (normal.0, normal_longer_from xs (x.hi + 2) k d longer normal.1 (omega arith) same)

ticks_longer_at : (runs : List Span) (k : ℕ) (d longer : Span) → k + 1 ≡ length runs → longer.lo ≡ (get_or runs k d).lo
    → (get_or runs k d).hi ≤ longer.hi → (u : ℕ) → spans_have (set runs k longer) u ≡ (spans_have runs u || within ((get_or runs k d).hi + 1) longer.hi u)
ticks_longer_at [] k d longer last same l u = absurd (omega arith)
ticks_longer_at (x ∷ xs) zero d longer last same l u = alone xs (omega arith)
  where
    alone : (xs : List Span) → length xs ≡ 0 → spans_have (longer ∷ xs) u ≡ (spans_have (x ∷ xs) u || within (x.hi + 1) longer.hi u)
    alone [] h = let order : x.lo ≤ x.hi = x.ordered in grind (arith, nat_tests)
    alone (y ∷ ys) h = absurd (omega arith)
ticks_longer_at (x ∷ xs) (suc k) d longer last same l u = grind (arith, ticks_longer_at xs k d longer (omega arith) same l u)

-- ---- the ticks before a span that is past those of the runs
pub at_least : (runs : List Span) (from k : ℕ) (d : Span) → IsNormalFrom from runs → k < length runs → from ≤ (get_or runs k d).lo
at_least [] from k d normal within = absurd (omega arith)
at_least (x ∷ xs) from zero d normal within = normal.0
at_least (x ∷ xs) from (suc k) d normal within =
    let order : x.lo ≤ x.hi = x.ordered in
    omega (arith, normal.0, at_least xs (x.hi + 2) k d normal.1 (omega arith))

has_last : (runs : List Span) (k : ℕ) (d : Span) → k < length runs → spans_have runs (get_or runs k d).hi ≡ true
has_last [] k d within = absurd (omega arith)
has_last (x ∷ xs) zero d inside = let order : x.lo ≤ x.hi = x.ordered in grind (arith, nat_tests)
has_last (x ∷ xs) (suc k) d inside = or_right _ _ (has_last xs k d (omega arith))

up_to_last : (runs : List Span) (from k : ℕ) (d : Span) → IsNormalFrom from runs → k + 1 ≡ length runs → (t : ℕ) → spans_have runs t ≡ true → t ≤ (get_or runs k d).hi
up_to_last [] from k d normal last t had = absurd (omega arith)
up_to_last (x ∷ xs) from zero d normal last t had =
    elim (or_cases (within x.lo x.hi t) (spans_have xs t) had) [
      | inl here ↦ grind (arith, nat_tests)
      | inr later ↦ absurd (false≢true (sym (none xs (omega arith)) ∙ later))
    ]
  where
    none : (xs : List Span) → length xs ≡ 0 → spans_have xs t ≡ false
    none [] h = refl
    none (y ∷ ys) h = absurd (omega arith)
up_to_last (x ∷ xs) from (suc k) d normal last t had =
    elim (or_cases (within x.lo x.hi t) (spans_have xs t) had) [
      | inl here ↦
          let past : x.hi + 2 ≤ (get_or xs k d).lo = at_least xs (x.hi + 2) k d normal.1 (omega arith) in
          let order : (get_or xs k d).lo ≤ (get_or xs k d).hi = (get_or xs k d).ordered in
          grind (arith, nat_tests)
      | inr later ↦ up_to_last xs (x.hi + 2) k d normal.1 (omega arith) t later
    ]

module _ (runs : List Span) (span : Span) (normal : IsNormal runs) (past : (t : ℕ) → spans_have runs t ≡ true → t < span.lo) where
  -- there is a tick between, where the last run ends before the tick before the span
  pub apart_from_last : (k : ℕ) (last : Span) → k + 1 ≡ length runs → ((get_or runs k last).hi + 1 ≡ span.lo → ⊥)
      → (t : ℕ) → spans_have runs t ≡ true → t + 2 ≤ span.lo
  apart_from_last k last end apart t had =
      omega (arith, apart, past (get_or runs k last).hi (has_last runs k last (omega arith)), up_to_last runs 0 k last normal end t had)

  pub apart_from_none : length runs ≡ 0 → (t : ℕ) → spans_have runs t ≡ true → t + 2 ≤ span.lo
  apart_from_none none t had = absurd (false≢true (sym (nothing runs none) ∙ had))
    where
      nothing : (runs : List Span) → length runs ≡ 0 → spans_have runs t ≡ false
      nothing [] h = refl
      nothing (y ∷ ys) h = absurd (omega arith)

  pub normal_pushed : ((t : ℕ) → spans_have runs t ≡ true → t + 2 ≤ span.lo) → IsNormal (runs ++ span ∷ [])
  normal_pushed apart = IsNormalFrom-push runs 0 span normal apart (omega arith)

-- the last run, that ends before the span, is lengthened to its end
module _ (runs : List Span) (k : ℕ) (last longer : Span) (end : k + 1 ≡ length runs) (same : longer.lo ≡ (get_or runs k last).lo) where
  pub normal_longer : IsNormal runs → IsNormal (set runs k longer)
  normal_longer normal = normal_longer_from runs 0 k last longer normal end same

  pub ticks_longer : (span : Span) → longer.hi ≡ span.hi → (get_or runs k last).hi + 1 ≡ span.lo
      → (u : ℕ) → spans_have (set runs k longer) u ≡ (spans_have runs u || within span.lo span.hi u)
  ticks_longer span ends touches u =
      let order : span.lo ≤ span.hi = span.ordered in
      ticks_longer_at runs k last longer end same (omega arith) u ∙ (λ i. spans_have runs u || within (touches i) (ends i) u)

pub ticks_pushed : (runs : List Span) (span : Span) (u : ℕ) → spans_have (runs ++ span ∷ []) u ≡ (spans_have runs u || within span.lo span.hi u)
ticks_pushed runs span u = spans_have-append runs (span ∷ []) u ∙ grind arith
