-- Spans from a tick on, found by a binary search, and the first tick that turns.
use Rattle.std.proofs.Common.{◌≡◌, ℕ, zero, suc, ◌+◌, ◌<◌, ◌≤◌, true, false, ◌||◌, List, [], ◌∷◌, ◌++◌, length, get_or, drop, Ok, Err, refl, ap, sym, subst, ◌∙◌, inl, inr, arith}
use Rattle.std.specs.List.Sorted.{IsBinarySearchResult, IsNonDecreasingBy}
use Rattle.std.specs.Ordering.{nat_cmp, ordering_index}
use Rattle.std.proofs.lemmas.Bool.{or_cases}
use Rattle.std.proofs.lemmas.Bool.Decides.{nat_tests}
use Rattle.std.proofs.lemmas.Cmp.{ranked}
use Rattle.tick_set.specs.declared.spans.Span.{Span}
use Rattle.tick_set.specs.Runs.{spans_have, IsNormal, IsNormalFrom}
use Rattle.tick_set.specs.Ticks.{within}
use Rattle.tick_set.proofs.Between.{within_from, within_parts}
use Rattle.tick_set.proofs.RunLemmas.{spans_have-below, IsNormalFrom-weaker}
use Rattle.kept_rows.specs.Turning.{AreSpansFrom}
use Rattle.exact.proofs.Truths.{or_false}

-- the last ticks rise
hi_at_least : (spans : List Span) (from j : ℕ) (d : Span) → IsNormalFrom from spans → j < length spans → from ≤ (get_or spans j d).hi
hi_at_least [] from j d h l = absurd (omega (arith, l))
hi_at_least (s ∷ rest) from zero d h l = let order : s.lo ≤ s.hi = s.ordered in omega (arith, order, h.0)
hi_at_least (s ∷ rest) from (suc j) d h l =
    let order : s.lo ≤ s.hi = s.ordered in
    let later : s.hi + 2 ≤ (get_or rest j d).hi = hi_at_least rest (s.hi + 2) j d h.1 (omega (arith, l)) in
    omega (arith, order, later, h.0)

hi_rises : (spans : List Span) (from i j : ℕ) (d : Span) → IsNormalFrom from spans → i < j → j < length spans → (get_or spans i d).hi < (get_or spans j d).hi
hi_rises [] from i j d h l k = absurd (omega (arith, k))
hi_rises (s ∷ rest) from i zero d h l k = absurd (omega (arith, l))
hi_rises (s ∷ rest) from zero (suc j) d h l k =
    let later : s.hi + 2 ≤ (get_or rest j d).hi = hi_at_least rest (s.hi + 2) j d h.1 (omega (arith, k)) in
    omega (arith, later)
hi_rises (s ∷ rest) from (suc i) (suc j) d h l k = hi_rises rest (s.hi + 2) i j d h.1 (omega (arith, l)) (omega (arith, k))

hi_not_falls : (spans : List Span) (from i j : ℕ) (d : Span) → IsNormalFrom from spans → i ≤ j → j < length spans →
    (get_or spans i d).hi ≤ (get_or spans j d).hi
hi_not_falls [] from i j d h l k = absurd (omega (arith, k))
hi_not_falls (s ∷ rest) from zero zero d h l k = omega arith
hi_not_falls (s ∷ rest) from (suc i) zero d h l k = absurd (omega (arith, l))
hi_not_falls (s ∷ rest) from zero (suc j) d h l k =
    let later : s.hi + 2 ≤ (get_or rest j d).hi = hi_at_least rest (s.hi + 2) j d h.1 (omega (arith, k)) in
    omega (arith, later)
hi_not_falls (s ∷ rest) from (suc i) (suc j) d h l k = hi_not_falls rest (s.hi + 2) i j d h.1 (omega (arith, l)) (omega (arith, k))

-- the spans before the place end before the tick, and the one at the place doesn't
pub record IsPlace (spans : List Span) (t at : ℕ) : Type 0 where
  pub before : (j : ℕ) (d : Span) → j < at → (get_or spans j d).hi < t
  pub here : (d : Span) → at < length spans → t ≤ (get_or spans at d).hi

no_span : Span
no_span = record { lo = 0; hi = 0; ordered = omega arith; in_range = omega arith }

from_place : (spans : List Span) (from t at : ℕ) → IsNormalFrom from spans → IsPlace spans t at → AreSpansFrom t spans (drop at spans)
from_place [] from t zero h place = record { normal = tt; ends = tt; ticks = λ u k. refl }
from_place [] from t (suc at) h place = record { normal = tt; ends = tt; ticks = λ u k. refl }
from_place (s ∷ rest) from t zero h place = record {
  normal = IsNormalFrom-weaker from 0 (s ∷ rest) (omega arith) h;
  ends = place.here s (omega arith);
  ticks = λ u k. refl;
}
from_place (s ∷ rest) from t (suc at) h place =
    let ended : s.hi < t = place.before 0 s (omega arith) in
    let later : AreSpansFrom t rest (drop at rest) = from_place rest (s.hi + 2) t at h.1 (record {
      before = λ j d l. place.before (suc j) d (omega (arith, l));
      here = λ d l. place.here d (omega (arith, l));
    }) in
    record {
      normal = later.normal;
      ends = later.ends;
      ticks = λ u k. grind (arith, nat_tests, ended, k, later.ticks u k);
    }

module _ (spans : List Span) (normal : IsNormal spans) (t : ℕ) where
  comparisons_rise : IsNonDecreasingBy (λ s. ordering_index (nat_cmp s.hi t)) spans
  comparisons_rise = λ i j d l k. grind (arith, nat_tests, hi_not_falls spans 0 i j d normal l k)

  pub from_found : (at : ℕ) → at < length spans → IsBinarySearchResult (λ s. nat_cmp s.hi t) spans (Ok at) → AreSpansFrom t spans (drop at spans)
  from_found at in_range equal =
      let same : (d : Span) → (get_or spans at d).hi ≡ t = λ d. ranked _ t _ (sym (equal d)) in
      from_place spans 0 t at normal (record {
        before = λ j d l. omega (arith, same d, hi_rises spans 0 j at d normal l in_range);
        here = λ d l. omega (arith, same d);
      })

  pub from_parted : (at : ℕ) → at ≤ length spans → IsBinarySearchResult (λ s. nat_cmp s.hi t) spans (Err at) → AreSpansFrom t spans (drop at spans)
  from_parted at in_range parted =
      from_place spans 0 t at normal (record {
        before = λ j d l. ranked _ t _ (sym ((parted comparisons_rise).0 j d (omega (arith, l, in_range)) l));
        here = λ d l. let past : t < (get_or spans at d).hi = ranked _ t _ (sym ((parted comparisons_rise).1 at d (omega arith) l)) in omega (arith, past);
      })

-- up to where the first of the spans from the tick on begins or ends
pub steady_inside : (spans rest later : List Span) (s : Span) (t u : ℕ) → AreSpansFrom t spans rest → rest ≡ s ∷ later → s.lo ≤ t → t ≤ u → u < s.hi + 1 →
    spans_have spans u ≡ spans_have spans t
steady_inside spans rest later s t u h e low k l =
    h.ticks u k ∙ ap (λ xs. spans_have xs u) e ∙ inside ∙ ap (λ xs. spans_have xs t) (sym e) ∙ sym (h.ticks t (omega arith))
  where
    inside : spans_have (s ∷ later) u ≡ spans_have (s ∷ later) t
    inside = grind (arith, nat_tests, low, k, l)

pub steady_before : (spans rest later : List Span) (s : Span) (t u : ℕ) → AreSpansFrom t spans rest → rest ≡ s ∷ later → t ≤ u → u < s.lo →
    spans_have spans u ≡ spans_have spans t
steady_before spans rest later s t u h e k l =
    h.ticks u k ∙ ap (λ xs. spans_have xs u) e ∙ none u l
    ∙ sym (none t (omega (arith, k, l))) ∙ ap (λ xs. spans_have xs t) (sym e) ∙ sym (h.ticks t (omega arith))
  where
    first : IsNormal (s ∷ later)
    first = subst (λ xs. IsNormal xs) e h.normal

    none : (v : ℕ) → v < s.lo → spans_have (s ∷ later) v ≡ false
    none v m = spans_have-below (s ∷ later) s.lo v (omega arith, first.1) m

-- ---- the first and the last tick
ends-upto : (front spans : List Span) (last : Span) (from t : ℕ) → spans ≡ front ++ last ∷ [] → IsNormalFrom from spans → spans_have spans t ≡ true → (from ≤ t) × (t ≤ last.hi)
ends-upto [] spans last from t is normal e =
    let one : spans_have (last ∷ []) t ≡ true = ap (λ xs. spans_have xs t) (sym is) ∙ e in
    let at : IsNormalFrom from (last ∷ []) = subst (λ xs. IsNormalFrom from xs) is normal in
    let parts = within_parts last.lo last.hi t (sym (or_false (within last.lo last.hi t)) ∙ one) in (omega (arith, at.0, parts.0), parts.1)
ends-upto (s ∷ front) spans last from t is normal e =
    let all : (within s.lo s.hi t || spans_have (front ++ last ∷ []) t) ≡ true = ap (λ xs. spans_have xs t) (sym is) ∙ e in
    let at : IsNormalFrom from (s ∷ (front ++ last ∷ [])) = subst (λ xs. IsNormalFrom from xs) is normal in
    let order : s.lo ≤ s.hi = s.ordered in
    elim (or_cases (within s.lo s.hi t) (spans_have (front ++ last ∷ []) t) all) [
      | inl f ↦
          let parts = within_parts s.lo s.hi t f in
          let past : s.hi + 2 ≤ last.hi = last-past front last (s.hi + 2) at.1 in (omega (arith, at.0, parts.0), omega (arith, parts.1, past))
      | inr f ↦ let later = ends-upto front (front ++ last ∷ []) last (s.hi + 2) t refl at.1 f in (omega (arith, order, at.0, later.0), later.1)
    ]
  where
    last-past : (front : List Span) (last : Span) (from : ℕ) → IsNormalFrom from (front ++ last ∷ []) → from ≤ last.hi
    last-past [] last from h = let order : last.lo ≤ last.hi = last.ordered in omega (arith, order, h.0)
    last-past (s ∷ front) last from h =
        let order : s.lo ≤ s.hi = s.ordered in
        let later : s.hi + 2 ≤ last.hi = last-past front last (s.hi + 2) h.1 in
        omega (arith, order, later, h.0)

pub ends-within : (spans later front : List Span) (first last : Span) (t : ℕ) → IsNormal spans → spans ≡ first ∷ later → spans ≡ front ++ last ∷ [] →
    spans_have spans t ≡ true → within first.lo last.hi t ≡ true
ends-within spans later front first last t normal begins ends e =
    let at : IsNormal (first ∷ later) = subst (λ xs. IsNormal xs) begins normal in
    let from : IsNormalFrom first.lo (first ∷ later) = (omega arith, at.1) in
    let parts = ends-upto front spans last first.lo t ends (subst (λ xs. IsNormalFrom first.lo xs) (sym begins) from) e in
    within_from first.lo last.hi t parts.0 parts.1

pub none-without-spans : (spans : List Span) (t : ℕ) → length spans ≡ 0 → spans_have spans t ≡ false
none-without-spans [] t e = refl
none-without-spans (s ∷ spans) t e = absurd (omega (arith, e))
