-- Runs that are gathered part by part.
use Rattle.std.proofs.Common.{◌≡◌, ℕ, ◌+◌, ◌<◌, ◌≤◌, Bool, true, ◌&&◌, ◌||◌, nat_le, nat_lt, Option, Some, option_to_list, Result, Ok, Err, List, [], ◌∷◌, sym, ap, subst, ◌∙◌, inl, inr, arith}
use Rattle.std.specs.Prelude.{IfOk}
use Rattle.std.proofs.lemmas.Bool.{cases_lt, cases_Bool}
use Rattle.std.proofs.lemmas.Bool.Decides.{nat_tests}
use Rattle.tick_set.specs.Ticks.{within}
use Rattle.tick_set.specs.Runs.{spans_have, IsNormal, IsRuns}
use Rattle.tick_set.specs.declared.spans.Span.{Span}

-- the runs are those of the ticks from `lo` on and before `at` that pass the test
abbrev pub AreRunsTo : (ℕ → Bool) → ℕ → ℕ → List Span → Type 0
AreRunsTo test lo at runs = (t : ℕ) → spans_have runs t ≡ (nat_le lo t && nat_lt t at && test t)

pub none_yet : (test : ℕ → Bool) (lo : ℕ) → AreRunsTo test lo lo []
none_yet test lo t = grind (arith, nat_tests)

part_test : (lo at end t : ℕ) (is asked : Bool) → lo ≤ at → at ≤ end → (at ≤ t → t ≤ end → is ≡ asked) →
    ((nat_le lo t && nat_lt t at && is) || (within at end t && asked)) ≡ (nat_le lo t && nat_lt t (end + 1) && is)
part_test lo at end t is asked begun order same =
    elim (cases_lt t at) [
      | inl before ↦ grind (arith, nat_tests)
      | inr from ↦ elim (cases_lt end t) [
        | inl past ↦ grind (arith, nat_tests)
        | inr here ↦ let e = same from here in grind (arith, nat_tests)
      ]
    ]

-- one more part, in which the ticks that pass are found
pub more : (test asked : ℕ → Bool) (lo at first end : ℕ) (old found new : List Span) → first ≡ at → lo ≤ at → at ≤ end →
    ((t : ℕ) → first ≤ t → t ≤ end → test t ≡ asked t) → AreRunsTo test lo at old →
    ((t : ℕ) → spans_have found t ≡ (within first end t && asked t)) →
    ((t : ℕ) → spans_have new t ≡ (spans_have old t || spans_have found t)) → AreRunsTo test lo (end + 1) new
more test asked lo at first end old found new begins begun order same had is with t =
    with t ∙ (λ i. had t i || (is t ∙ ap (λ n. within n end t && asked t) begins) i)
    ∙ part_test lo at end t (test t) (asked t) begun order (λ from up_to. same t (omega (arith, begins, from)) up_to)

pub all_parts : (test : ℕ → Bool) (lo hi at : ℕ) (runs : List Span) → at ≡ hi + 1 → IsNormal runs → AreRunsTo test lo at runs →
    IsRuns (λ t. within lo hi t && test t) runs
all_parts test lo hi at runs all normal had = record { normal = normal; ticks = λ t. had t ∙ grind (arith, nat_tests) }

-- what is found in a part is past the runs so far
pub past : (test asked : ℕ → Bool) (lo at first end : ℕ) (runs : List Span) (run : Option Span) → first ≡ at → AreRunsTo test lo at runs →
    ((t : ℕ) → spans_have (option_to_list run) t ≡ (within first end t && asked t)) →
    (x : Span) → run ≡ Some x → (t : ℕ) → spans_have runs t ≡ true → t < x.lo
past test asked lo at first end runs run begins had found x is t there =
    let order : x.lo ≤ x.hi = x.ordered in
    let own : spans_have (x ∷ []) x.lo ≡ true = grind (arith, nat_tests) in
    let in_part : (within first end x.lo && asked x.lo) ≡ true = sym (found x.lo) ∙ ap (λ (r : Option Span). spans_have (option_to_list r) x.lo) is ∙ own in
    let begun : (nat_le lo t && nat_lt t at && test t) ≡ true = sym (had t) ∙ there in
    let from : first ≤ x.lo = grind (arith, nat_tests) in
    let before : t < at = grind (arith, nat_tests) in
    omega (arith, begins, from, before)

-- ---- a part of one test and another

guarded : (lo hi t : ℕ) (x y : Bool) → (lo ≤ t → t ≤ hi → x ≡ y) → (within lo hi t && x) ≡ (within lo hi t && y)
guarded lo hi t x y same =
    elim (cases_Bool (within lo hi t)) [
      | inl inside ↦
          let from : lo ≤ t = grind (arith, nat_tests) in
          let up_to : t ≤ hi = grind (arith, nat_tests) in
          ap (λ b. within lo hi t && b) (same from up_to)
      | inr outside ↦ (λ i. outside i && x) ∙ sym (λ i. outside i && y)
    ]

-- runs by a test that agrees on the window
pub same_runs : (p q : ℕ → Bool) (lo hi : ℕ) (runs : List Span) → ((t : ℕ) → lo ≤ t → t ≤ hi → p t ≡ q t) →
    IsRuns (λ t. within lo hi t && p t) runs → IsRuns (λ t. within lo hi t && q t) runs
same_runs p q lo hi runs same are = record { normal = are.normal; ticks = λ t. are.ticks t ∙ guarded lo hi t (p t) (q t) (same t) }

pub if_runs : {V E : Type 0} (items : V → List Span) (r : Result V E) (found : List Span) (p q : ℕ → Bool) (lo hi : ℕ) → ((t : ℕ) → lo ≤ t → t ≤ hi → p t ≡ q t) →
    IsRuns (λ t. within lo hi t && p t) found → IfOk r (λ v. items v ≡ found) → IfOk r (λ v. IsRuns (λ t. within lo hi t && q t) (items v))
if_runs items (Ok v) found p q lo hi same are is = subst (IsRuns (λ t. within lo hi t && q t)) (sym is) (same_runs p q lo hi found same are)
if_runs items (Err e) found p q lo hi same are is = tt
