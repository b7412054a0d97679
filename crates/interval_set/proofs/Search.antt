-- What a binary search by the spans' first ticks finds.
use Rattle.std.proofs.Common.{◌≡◌, ℕ, zero, suc, ◌+◌, ◌-◌, ◌<◌, ◌≤◌, true, false, leb, ltb, List, [], ◌∷◌, length, get_or, Result, Ok, Err, MatchResult, refl, sym, arith}
use Rattle.std.specs.List.Sorted.{IsSearchInRange, IsBinarySearchResult, IsNonDecreasingBy}
use Rattle.std.specs.Ordering.{nat_cmp, ordering_index}
use Rattle.std.proofs.lemmas.Bool.{or_left, or_right}
use Rattle.std.proofs.lemmas.Bool.Decides.{nat_tests}
use Rattle.std.proofs.lemmas.Cmp.{ranked}
use Rattle.tick_set.specs.declared.spans.Span.{Span}
use Rattle.tick_set.specs.Ticks.{within}
use Rattle.tick_set.specs.Runs.{spans_have, IsNormal, IsNormalFrom}
use Rattle.tick_set.proofs.Between.{within_from}
use Rattle.tick_set.proofs.RunLemmas.{spans_have-below}
use Rattle.tick_set.proofs.JoinLemmas.{at_least}

lo_rises : (spans : List Span) (from i j : ℕ) (d : Span) → IsNormalFrom from spans → i ≤ j → j < length spans → (get_or spans i d).lo ≤ (get_or spans j d).lo
lo_rises [] from i j d h l k = absurd (omega arith)
lo_rises (s ∷ rest) from zero zero d h l k = omega arith
lo_rises (s ∷ rest) from zero (suc j) d h l k = let order : s.lo ≤ s.hi = s.ordered in omega (arith, at_least rest (s.hi + 2) j d h.1 (omega arith))
lo_rises (s ∷ rest) from (suc i) zero d h l k = absurd (omega arith)
lo_rises (s ∷ rest) from (suc i) (suc j) d h l k = lo_rises rest (s.hi + 2) i j d h.1 (omega arith) (omega arith)

-- a span that begins at t has it
has_first : (spans : List Span) (i t : ℕ) (d : Span) → i < length spans → (get_or spans i d).lo ≡ t → spans_have spans t ≡ true
has_first [] i t d l e = absurd (omega arith)
has_first (s ∷ rest) zero t d l e = let order : s.lo ≤ s.hi = s.ordered in or_left (within s.lo s.hi t) (spans_have rest t) (within_from s.lo s.hi t (omega arith) (omega arith))
has_first (s ∷ rest) (suc i) t d l e = or_right (within s.lo s.hi t) (spans_have rest t) (has_first rest i t d (omega arith) e)

-- where no span begins by t, it is in none
has_before : (spans : List Span) (from t : ℕ) (d : Span) → IsNormalFrom from spans → ((j : ℕ) → j < length spans → t < (get_or spans j d).lo) → spans_have spans t ≡ false
has_before [] from t d h l = refl
has_before (s ∷ rest) from t d h l = let begins : IsNormalFrom s.lo (s ∷ rest) = (omega arith, h.1) in spans_have-below (s ∷ rest) s.lo t begins (l 0 (omega arith))

-- else it is in the last span that begins before it, or in none
has_gap : (spans : List Span) (from i t : ℕ) (d : Span) → IsNormalFrom from spans → i < length spans → ((j : ℕ) → j < i + 1 → (get_or spans j d).lo < t) → ((j : ℕ) → i + 1 ≤ j → j < length spans → t < (get_or spans j d).lo) → leb t (get_or spans i d).hi ≡ spans_have spans t
has_gap [] from i t d h l before after = absurd (omega arith)
has_gap (s ∷ rest) from zero t d h l before after =
    let none : spans_have rest t ≡ false = has_before rest (s.hi + 2) t d h.1 (λ j k. after (suc j) (omega arith) (omega arith)) in
    grind (arith, nat_tests, before 0 (omega arith), none)
has_gap (s ∷ rest) from (suc i) t d h l before after =
    let later : leb t (get_or rest i d).hi ≡ spans_have rest t = has_gap rest (s.hi + 2) i t d h.1 (omega arith) (λ j k. before (suc j) (omega arith)) (λ j k m. after (suc j) (omega arith) (omega arith)) in
    let past : s.hi < t = omega (arith, at_least rest (s.hi + 2) 0 d h.1 (omega arith), before 1 (omega arith)) in
    grind (arith, nat_tests, later)

no_span : Span
no_span = record { lo = 0; hi = 0; ordered = omega arith; in_range = omega arith }

-- how the spans lie where the search gives a place: at the span that begins at t, or at the first that begins past it
pub record IsGap (spans : List Span) (t at : ℕ) : Type 0 where
  pub in_range : at ≤ length spans
  pub before : (j : ℕ) (d : Span) → j < at → (get_or spans j d).lo < t
  pub after : (j : ℕ) (d : Span) → at ≤ j → j < length spans → t < (get_or spans j d).lo

module _ (spans : List Span) (normal : IsNormal spans) (t : ℕ) where
  comparisons_rise : IsNonDecreasingBy (λ s. ordering_index (nat_cmp s.lo t)) spans
  comparisons_rise = λ i j d l k. grind (arith, nat_tests, lo_rises spans 0 i j d normal l k)

  pub searched : (r : Result ℕ ℕ) → IsSearchInRange r (length spans) → IsBinarySearchResult (λ s. nat_cmp s.lo t) spans r → MatchResult r (λ _. true ≡ spans_have spans t) (IsGap spans t)
  searched (Ok at) in_range equal = sym (has_first spans at t no_span in_range (ranked _ t _ (sym (equal no_span))))
  searched (Err at) in_range parted = record {
    in_range = in_range;
    before = λ j d l. ranked _ t _ (sym ((parted comparisons_rise).0 j d (omega arith) l));
    after = λ j d l k. ranked _ t _ (sym ((parted comparisons_rise).1 j d l k));
  }

  pub in_gap : (at : ℕ) → IsGap spans t at → 0 < at → (d : Span) → leb t (get_or spans (at - 1) d).hi ≡ spans_have spans t
  in_gap at gap l d = has_gap spans 0 (at - 1) t d normal (omega (arith, gap.in_range)) (λ j k. gap.before j d (omega arith)) (λ j k m. gap.after j d (omega arith) m)

  pub in_no_gap : (at : ℕ) → at ≤ 0 → IsGap spans t at → ltb 0 at ≡ spans_have spans t
  in_no_gap at l gap =
      let none : spans_have spans t ≡ false = has_before spans 0 t no_span normal (λ j k. gap.after j no_span (omega arith) k) in
      grind (arith, nat_tests, none)
