-- For this crate and for the crates above: runs that are gathered part by part.
use Rattle.std.proofs.Common.{◌≡◌, ℕ, ◌+◌, ◌<◌, ◌≤◌, Bool, true, ◌&&◌, ◌||◌, Option, option_to_list, List, [], ◌∷◌, ◌++◌, sym, subst, ◌∙◌, inl, inr, arith, append_assoc}
use Rattle.std.specs.Prelude.{nat_le, nat_lt}
use Rattle.std.specs.Option.{ForSome}
use Rattle.std.proofs.lemmas.Bool.{false≢true, or_cases, or_left, or_right, and_parts}
use Rattle.std.proofs.lemmas.Bool.Decides.{nat_tests}
use Rattle.tick_set.specs.Ticks.{within}
use Rattle.tick_set.specs.Runs.{spans_have, IsNormal, IsNormalFrom, IsRuns}
use Rattle.tick_set.specs.declared.spans.Span.{Span}
use Rattle.tick_set.proofs.RunLemmas.{spans_have-append}
use Rattle.atoms.specs.Gathered.{IsGathered}
use Rattle.interval_set.proofs.SpanLemmas.{ticks_from}

-- ---- part by part

pub gathered_none : (test : ℕ → Bool) (from : ℕ) → IsGathered test from from []
gathered_none test from t = grind (arith, nat_tests)

joined_test : (from at lo hi t : ℕ) (x : Bool) → from ≤ at → lo ≤ hi → lo ≡ at →
    ((nat_le from t && nat_lt t at && x) || (within lo hi t && x)) ≡ (nat_le from t && nat_lt t (hi + 1) && x)
joined_test from at lo hi t x begun order begins = grind (arith, nat_tests)

pub gathered_more : (test : ℕ → Bool) (from at lo hi : ℕ) (old found new : List Span) → from ≤ at → lo ≤ hi → lo ≡ at → IsGathered test from at old →
    ((t : ℕ) → spans_have found t ≡ (within lo hi t && test t)) → ((t : ℕ) → spans_have new t ≡ (spans_have old t || spans_have found t)) →
    IsGathered test from (hi + 1) new
gathered_more test from at lo hi old found new begun order begins gathered is more t =
    more t ∙ (λ i. gathered t i || is t i) ∙ joined_test from at lo hi t (test t) begun order begins

-- what is found is past what is gathered
pub gathered_past : (test : ℕ → Bool) (from at lo hi : ℕ) (old found : List Span) → lo ≡ at → IsGathered test from at old →
    ((t : ℕ) → spans_have found t ≡ (within lo hi t && test t)) →
    (t u : ℕ) → spans_have old t ≡ true → spans_have found u ≡ true → t < u
gathered_past test from at lo hi old found begins gathered is t u had finds =
    let inside = and_parts (within lo hi u) (test u) (sym (is u) ∙ finds) in
    let early = sym (gathered t) ∙ had in
    grind (arith, nat_tests, early, inside.0)

pub gathered_all : (test : ℕ → Bool) (lo hi until : ℕ) (runs : List Span) → until ≡ hi + 1 → IsNormal runs → IsGathered test lo until runs →
    IsRuns (λ t. within lo hi t && test t) runs
gathered_all test lo hi until runs all normal gathered = record {
  normal = normal;
  ticks = λ t. gathered t ∙ grind (arith, nat_tests);
}

-- ---- runs one behind the other

first_tick : (span : Span) → spans_have (span ∷ []) span.lo ≡ true
first_tick span = let order : span.lo ≤ span.hi = span.ordered in grind (arith, nat_tests)

-- the ticks of one set are before those of another
abbrev pub AreBefore : List Span → List Span → Type 0
AreBefore xs ys = (t u : ℕ) → spans_have xs t ≡ true → spans_have ys u ≡ true → t < u

pub normal_before : (xs ys : List Span) (from : ℕ) → IsNormalFrom from (xs ++ ys) → AreBefore xs ys
normal_before [] ys from normal t u had finds = absurd (false≢true had)
normal_before (x ∷ xs) ys from normal t u had finds =
    elim (or_cases (within x.lo x.hi t) (spans_have xs t) had) [
      | inl here ↦
          let past = ticks_from (xs ++ ys) (x.hi + 2) u normal.1 (spans_have-append xs ys u ∙ or_right (spans_have xs u) (spans_have ys u) finds) in
          grind (arith, nat_tests, here, past)
      | inr later ↦ normal_before xs ys (x.hi + 2) normal.1 t u later finds
    ]

pub normal_tail : (xs ys : List Span) (from : ℕ) → IsNormalFrom from (xs ++ ys) → IsNormalFrom 0 ys
normal_tail [] [] from normal = tt
normal_tail [] (y ∷ ys) from normal = (omega arith, normal.1)
normal_tail (x ∷ xs) ys from normal = normal_tail xs ys (x.hi + 2) normal.1

pub before_run : (runs : List Span) (run : Option Span) → AreBefore runs (option_to_list run) →
    ForSome run (λ s. (t : ℕ) → spans_have runs t ≡ true → t < s.lo)
before_run runs run before span is t had =
    before t span.lo had (subst (λ (r : Option Span). spans_have (option_to_list r) span.lo ≡ true) (sym is) (first_tick span))

-- the runs of a triple are listed from the left
pub grouped : (xs ys zs : List Span) → (xs ++ ys) ++ zs ≡ xs ++ (ys ++ zs)
grouped xs ys zs = simp append_assoc

module _ (runs xs ys zs : List Span) (before : AreBefore runs (xs ++ (ys ++ zs))) (normal : IsNormal (xs ++ (ys ++ zs))) where
  in_second : (u : ℕ) → spans_have ys u ≡ true → spans_have (ys ++ zs) u ≡ true
  in_second u finds = spans_have-append ys zs u ∙ or_left (spans_have ys u) (spans_have zs u) finds

  in_third : (u : ℕ) → spans_have zs u ≡ true → spans_have (ys ++ zs) u ≡ true
  in_third u finds = spans_have-append ys zs u ∙ or_right (spans_have ys u) (spans_have zs u) finds

  in_later : (u : ℕ) → spans_have (ys ++ zs) u ≡ true → spans_have (xs ++ (ys ++ zs)) u ≡ true
  in_later u finds = spans_have-append xs (ys ++ zs) u ∙ or_right (spans_have xs u) (spans_have (ys ++ zs) u) finds

  pub before_first : AreBefore runs xs
  before_first t u had finds = before t u had (spans_have-append xs (ys ++ zs) u ∙ or_left (spans_have xs u) (spans_have (ys ++ zs) u) finds)

  module _ (one : List Span) (with_first : (t : ℕ) → spans_have one t ≡ (spans_have runs t || spans_have xs t)) where
    pub before_second : AreBefore one ys
    unfolding in_second in_later
    before_second t u had finds =
        elim (or_cases (spans_have runs t) (spans_have xs t) (sym (with_first t) ∙ had)) [
          | inl old ↦ before t u old (in_later u (in_second u finds))
          | inr first ↦ normal_before xs (ys ++ zs) 0 normal t u first (in_second u finds)
        ]

    module _ (two : List Span) (with_second : (t : ℕ) → spans_have two t ≡ (spans_have one t || spans_have ys t)) where
      pub before_third : AreBefore two zs
      unfolding in_third in_later
      before_third t u had finds =
          elim (or_cases (spans_have one t) (spans_have ys t) (sym (with_second t) ∙ had)) [
            | inl old ↦
                elim (or_cases (spans_have runs t) (spans_have xs t) (sym (with_first t) ∙ old)) [
                  | inl oldest ↦ before t u oldest (in_later u (in_third u finds))
                  | inr first ↦ normal_before xs (ys ++ zs) 0 normal t u first (in_third u finds)
                ]
            | inr second ↦ normal_before ys zs 0 (normal_tail xs (ys ++ zs) 0 normal) t u second finds
          ]
