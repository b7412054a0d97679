-- Ticks that are added to runs, past all that are there.
use Rattle.std.proofs.Common.{◌≡◌, ℕ, ◌+◌, ◌<◌, ◌≤◌, Bool, true, ◌&&◌, ◌||◌, nat_le, nat_lt, Option, Some, option_to_list, List, [], ◌∷◌, sym, ap, ◌∙◌, inl, inr, arith}
use Rattle.std.specs.Prelude.{not}
use Rattle.std.proofs.lemmas.Bool.{or_cases}
use Rattle.std.proofs.lemmas.Bool.Decides.{nat_tests}
use Rattle.tick_set.specs.Ticks.{within}
use Rattle.tick_set.specs.Runs.{spans_have}
use Rattle.tick_set.specs.declared.spans.Span.{Span}
use Rattle.blur.specs.Added.{Adds, EndBefore}
use Rattle.exact.proofs.Truths.{or_grouped}

-- each tick of the first comes before each of the second
abbrev pub Precede : (ℕ → Bool) → (ℕ → Bool) → Type 0
Precede p q = (t u : ℕ) → p t ≡ true → q u ≡ true → t < u

-- a run whose ticks come after all of these
pub is_past : (test : ℕ → Bool) (old : List Span) (run : Option Span) → ((t : ℕ) → spans_have (option_to_list run) t ≡ test t)
    → Precede (spans_have old) test → (x : Span) → run ≡ Some x → (t : ℕ) → spans_have old t ≡ true → t < x.lo
is_past test old run has before x is t had =
    let order : x.lo ≤ x.hi = x.ordered in
    let first : spans_have (x ∷ []) x.lo ≡ true = grind (arith, nat_tests) in
    before t x.lo had (sym (has x.lo) ∙ ap (λ (r : Option Span). spans_have (option_to_list r) x.lo) is ∙ first)

from_inside : (lo hi u : ℕ) (more : Bool) → (within lo hi u && more) ≡ true → lo ≤ u
from_inside lo hi u more h = grind (arith, nat_tests)

-- what comes before a span comes before all that is in it
pub before_inside : (lo hi : ℕ) (old : List Span) (more : ℕ → Bool) → EndBefore lo old → Precede (spans_have old) (λ u. within lo hi u && more u)
before_inside lo hi old more before t u had is =
    let begun : t < lo = before t had in
    let from : lo ≤ u = from_inside lo hi u (more u) is in
    omega arith

-- with one more set of ticks that come before
pub precede_more : (old new : List Span) (first second : ℕ → Bool) → Adds first old new → Precede (spans_have old) second → Precede first second
    → Precede (spans_have new) second
precede_more old new first second adds before more t u had is =
    elim (or_cases (spans_have old t) (first t) (sym (adds t) ∙ had)) [
      | inl was ↦ before t u was is
      | inr added ↦ more t u added is
    ]

-- what is added in two steps
pub adds_both : (test first second : ℕ → Bool) (old middle new : List Span) → ((t : ℕ) → (first t || second t) ≡ test t)
    → Adds first old middle → Adds second middle new → Adds test old new
adds_both test first second old middle new same one two t =
    two t ∙ ap (λ b. b || second t) (one t) ∙ or_grouped (spans_have old t) (first t) (second t) ∙ ap (λ b. spans_have old t || b) (same t)

-- the same ticks by another test
pub adds_as : (first second : ℕ → Bool) (old new : List Span) → ((t : ℕ) → first t ≡ second t) → Adds first old new → Adds second old new
adds_as first second old new same adds t = adds t ∙ ap (λ b. spans_have old t || b) (same t)

-- ---- the ticks of a span round another

pub before_other : (lo hi a b : ℕ) → a ≤ b → Precede (λ t. within lo hi t && nat_lt t a) (λ u. within lo hi u && nat_le (b + 1) u)
before_other lo hi a b order t u is after = grind (arith, nat_tests)

pub both_sides : (lo hi a b : ℕ) → a ≤ b → (t : ℕ) → ((within lo hi t && nat_lt t a) || (within lo hi t && nat_le (b + 1) t)) ≡ (within lo hi t && not (within a b t))
both_sides lo hi a b order t = grind (arith, nat_tests)

-- those of both spans
pub before_common : (lo hi a b c d : ℕ) → Precede (λ t. within lo hi t && nat_lt t a) (λ u. within lo hi u && (within a b u && within c d u))
before_common lo hi a b c d t u is after = grind (arith, nat_tests)

pub common_before : (lo hi a b c d : ℕ) → Precede (λ t. within lo hi t && (within a b t && within c d t)) (λ u. within lo hi u && nat_le (b + 1) u)
common_before lo hi a b c d t u is after = grind (arith, nat_tests)

pub all_three : (lo hi a b c d : ℕ) → a ≤ b → (t : ℕ)
    → ((within lo hi t && nat_lt t a) || ((within lo hi t && (within a b t && within c d t)) || (within lo hi t && nat_le (b + 1) t)))
    ≡ (within lo hi t && not (within a b t && not (within c d t)))
all_three lo hi a b c d order t = grind (arith, nat_tests)
