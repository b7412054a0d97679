-- The sweep over the first ticks of some stretches and those past their last ones.
use Rattle.std.proofs.Common.{◌≡◌, ℕ, zero, suc, ◌+◌, ◌<◌, ◌≤◌, Bool, true, ◌&&◌, ◌||◌, nat_le, nat_lt, cond, Option, Some, option_to_list, List, [], ◌∷◌, length, map, refl, sym, ap, ◌∙◌, inl, inr, arith}
use Rattle.std.specs.Prelude.{slice_index}
use Rattle.std.proofs.lemmas.Bool.{cases_lt}
use Rattle.std.proofs.lemmas.Bool.Decides.{nat_tests}
use Rattle.std.proofs.lemmas.List.Sums.{sum_by-cons}
use Rattle.tick_set.specs.Ticks.{within}
use Rattle.tick_set.specs.Runs.{spans_have, IsNormal, IsRuns}
use Rattle.tick_set.specs.declared.spans.Span.{Span}
use Rattle.tick_set.specs.declared.spans.Window.{Window}
use Rattle.nearest.specs.Depth.{AreComeBy, count_to, depth_at}

-- ---- counts

pub count_to-cons : (x t : ℕ) (xs : List ℕ) → count_to (x ∷ xs) t ≡ cond (nat_le x t) 1 0 + count_to xs t
count_to-cons x t xs = sum_by-cons (λ u. cond (nat_le u t) 1 0) x xs

-- one stretch adds to the depth while it has begun and not ended
one_deeper : (lo hi t d e b : ℕ) → lo ≤ hi → d + e ≡ b →
    (cond (within lo hi t) 1 0 + d) + (cond (nat_le (hi + 1) t) 1 0 + e) ≡ cond (nat_le lo t) 1 0 + b
one_deeper lo hi t d e b order is = grind (arith, nat_tests)

pub depth_counts : (stretches : List Span) (t : ℕ) →
    depth_at stretches t + count_to (map (λ s. s.hi + 1) stretches) t ≡ count_to (map (λ s. s.lo) stretches) t
depth_counts [] t = refl
depth_counts (s ∷ rest) t =
    (λ i. sum_by-cons (λ x. cond (within x.lo x.hi t) 1 0) s rest i + count_to-cons (s.hi + 1) t (map (λ x. x.hi + 1) rest) i)
    ∙ one_deeper s.lo s.hi t (depth_at rest t) (count_to (map (λ x. x.hi + 1) rest) t) (count_to (map (λ x. x.lo) rest) t) s.ordered (depth_counts rest t)
    ∙ sym (count_to-cons s.lo t (map (λ x. x.lo) rest))

none_come : (ticks : List ℕ) (t : ℕ) → ((k : ℕ) → k < length ticks → t < slice_index ticks k) → count_to ticks t ≡ 0
none_come [] t later = refl
none_come (x ∷ xs) t later =
    let first : t < x = later 0 (omega arith) in
    let rest : count_to xs t ≡ 0 = none_come xs t (λ k below. later (suc k) (omega arith)) in
    count_to-cons x t xs ∙ grind (arith, nat_tests)

-- the ticks that have come are those that are counted
pub come_counted : (ticks : List ℕ) (t count : ℕ) → AreComeBy ticks t count → count_to ticks t ≡ count
come_counted [] t count come = let within = come.within in omega arith
come_counted (x ∷ xs) t zero come = none_come (x ∷ xs) t (λ k below. come.later k (omega arith) below)
come_counted (x ∷ xs) t (suc count) come =
    let first : x ≤ t = come.come 0 (omega arith) in
    let rest : AreComeBy xs t count = record {
      within = (let few = come.within in omega arith);
      come = λ k below. come.come (suc k) (omega arith);
      later = λ k past below. come.later (suc k) (omega arith) (omega arith);
    } in
    let counted : count_to xs t ≡ count = come_counted xs t count rest in
    count_to-cons x t xs ∙ grind (arith, nat_tests)

-- ---- the sweep

-- the runs are those of the ticks from `lo` on and before `at` at which few stretches are under way
abbrev pub IsSwept : (ℕ → Bool) → ℕ → ℕ → List Span → Type 0
IsSwept few lo at runs = (t : ℕ) → spans_have runs t ≡ (nat_le lo t && nat_lt t at && few t)

pub swept_none : (few : ℕ → Bool) (lo : ℕ) → IsSwept few lo lo []
swept_none few lo t = grind (arith, nat_tests)

step_test : (lo at next t : ℕ) (few asked : Bool) → lo ≤ at → at < next → (at ≤ t → t < next → few ≡ asked) →
    ((nat_le lo t && nat_lt t at && few) || (nat_le at t && nat_lt t next && asked)) ≡ (nat_le lo t && nat_lt t next && few)
step_test lo at next t few asked begun more same =
    elim (cases_lt t at) [
      | inl before ↦ grind (arith, nat_tests)
      | inr from ↦ elim (cases_lt t next) [
        | inl here ↦ let is = same from here in grind (arith, nat_tests)
        | inr past ↦ grind (arith, nat_tests)
      ]
    ]

pub swept_more : (few : ℕ → Bool) (asked : Bool) (lo at next : ℕ) (old found new : List Span) → lo ≤ at → at < next →
    ((t : ℕ) → at ≤ t → t < next → few t ≡ asked) → IsSwept few lo at old →
    ((t : ℕ) → spans_have found t ≡ (nat_le at t && nat_lt t next && asked)) →
    ((t : ℕ) → spans_have new t ≡ (spans_have old t || spans_have found t)) → IsSwept few lo next new
swept_more few asked lo at next old found new begun more same swept is with t =
    with t ∙ (λ i. swept t i || is t i) ∙ step_test lo at next t (few t) asked begun more (same t)

pub swept_all : (few : ℕ → Bool) (lo hi at : ℕ) (runs : List Span) → at ≡ hi + 1 → IsNormal runs → IsSwept few lo at runs →
    IsRuns (λ t. within lo hi t && few t) runs
swept_all few lo hi at runs all normal swept = record {
  normal = normal;
  ticks = λ t. swept t ∙ grind (arith, nat_tests);
}

-- no tick comes before the next one
pub come_between : (ticks : List ℕ) (at t next count : ℕ) → AreComeBy ticks at count → at ≤ t → t < next →
    ((k : ℕ) → count ≤ k → k < length ticks → next ≤ slice_index ticks k) → count_to ticks t ≡ count
come_between ticks at t next count come from before later =
    come_counted ticks t count (record {
      within = come.within;
      come = λ k below. let by = come.come k below in omega arith;
      later = λ k past below. let next_by = later k past below in omega arith;
    })

-- what is found is past the runs so far
pub swept_past : (few : ℕ → Bool) (lo at next : ℕ) (asked : Bool) (runs : List Span) (run : Option Span) → IsSwept few lo at runs →
    ((t : ℕ) → spans_have (option_to_list run) t ≡ (nat_le at t && nat_lt t next && asked)) →
    (x : Span) → run ≡ Some x → (t : ℕ) → spans_have runs t ≡ true → t < x.lo
swept_past few lo at next asked runs run swept found x is t had =
    let order : x.lo ≤ x.hi = x.ordered in
    let first : spans_have (x ∷ []) x.lo ≡ true = grind (arith, nat_tests) in
    let there : (nat_le at x.lo && nat_lt x.lo next && asked) ≡ true = sym (found x.lo) ∙ ap (λ (r : Option Span). spans_have (option_to_list r) x.lo) is ∙ first in
    let begun : (nat_le lo t && nat_lt t at && few t) ≡ true = sym (swept t) ∙ had in
    let from : at ≤ x.lo = grind (arith, nat_tests) in
    let before : t < at = grind (arith, nat_tests) in
    omega arith

fewer : (b e d k : ℕ) → d + e ≡ b → nat_lt b (e + k) ≡ nat_lt d k
fewer b e d k is = grind (arith, nat_tests)

-- fewer have begun than have ended and k where fewer than k are under way
pub few_by_counts : (starts ends : List ℕ) (stretches : List Span) (k : ℕ) (w : Window) (runs : List Span) →
    ((t : ℕ) → count_to starts t ≡ count_to (map (λ s. s.lo) stretches) t) → ((t : ℕ) → count_to ends t ≡ count_to (map (λ s. s.hi + 1) stretches) t) →
    IsRuns (λ t. within w.lo w.hi t && nat_lt (count_to starts t) (count_to ends t + k)) runs → IsRuns (λ t. within w.lo w.hi t && nat_lt (depth_at stretches t) k) runs
few_by_counts starts ends stretches k w runs of_starts of_ends swept = record {
  normal = swept.normal;
  ticks = λ t.
      let s = of_starts t in
      let e = of_ends t in
      let d = depth_counts stretches t in
      let few : nat_lt (count_to starts t) (count_to ends t + k) ≡ nat_lt (depth_at stretches t) k = fewer (count_to starts t) (count_to ends t) (depth_at stretches t) k (omega (arith, s, e, d)) in
      swept.ticks t ∙ ap (λ b. within w.lo w.hi t && b) few;
}
