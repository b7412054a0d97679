-- Runs of the ticks of a part that pass a test.
use Rattle.std.proofs.Common.{◌≡◌, ℕ, ◌+◌, ◌≤◌, Bool, true, false, not, ◌&&◌, ◌||◌, Option, None, Some, option_to_list, List, [], ◌∷◌, ◌++◌, refl, sym, ap, subst, ◌∙◌, inl, inr, arith}
use Rattle.std.specs.Prelude.{nat_le, nat_lt, if◌then◌else◌}
use Rattle.distance_crossing.proofs.RunLists.{runs_append, runs_by}
use Rattle.std.proofs.lemmas.Bool.{cases_lt}
use Rattle.std.proofs.lemmas.Bool.Decides.{nat_tests}
use Rattle.tick_set.specs.Ticks.{within}
use Rattle.tick_set.specs.Runs.{spans_have, IsRuns}
use Rattle.tick_set.specs.declared.spans.Span.{Span}

-- tests that agree on the ticks of a span agree within it
pub within_same : (lo hi t : ℕ) (x y : Bool) → (lo ≤ t → t ≤ hi → x ≡ y) → (within lo hi t && x) ≡ (within lo hi t && y)
within_same lo hi t x y same =
    elim (cases_lt t lo) [
      | inl before ↦ grind (arith, nat_tests)
      | inr from ↦ elim (cases_lt hi t) [
        | inl past ↦ grind (arith, nat_tests)
        | inr up_to ↦ ap (λ b. within lo hi t && b) (same from up_to)
      ]
    ]

-- the same runs serve tests that agree in the part
pub runs_within : (lo hi : ℕ) (p q : ℕ → Bool) (xs ys : List Span) → IsRuns (λ t. within lo hi t && p t) xs → xs ≡ ys →
    ((t : ℕ) → lo ≤ t → t ≤ hi → p t ≡ q t) → IsRuns (λ t. within lo hi t && q t) ys
runs_within lo hi p q xs ys runs is same = subst (IsRuns (λ t. within lo hi t && q t)) is (record {
  normal = runs.normal;
  ticks = λ t. runs.ticks t ∙ within_same lo hi t (p t) (q t) (same t);
})

nowhere_within : (lo hi t : ℕ) (x : Bool) → (lo ≤ t → t ≤ hi → x ≡ false) → false ≡ (within lo hi t && x)
nowhere_within lo hi t x none = grind (arith, nat_tests, within_same lo hi t x false none)

-- no run serves a test that no tick passes
pub runs_none : (lo hi : ℕ) (q : ℕ → Bool) (xs : List Span) → xs ≡ [] → ((t : ℕ) → lo ≤ t → t ≤ hi → q t ≡ false) → IsRuns (λ t. within lo hi t && q t) xs
runs_none lo hi q xs is none = subst (IsRuns (λ t. within lo hi t && q t)) (sym is) (record {
  normal = tt;
  ticks = λ t. nowhere_within lo hi t (q t) (none t);
})

-- one run or none
pub runs_of_all : (span : Span) (all : Bool) (run : Option Span) → run ≡ (if all then Some span else None) →
    IsRuns (λ t. within span.lo span.hi t && all) (option_to_list run)
runs_of_all span true run is = rw is (record { normal = (omega arith, tt); ticks = λ t. grind (arith, nat_tests) })
runs_of_all span false run is = rw is (record { normal = tt; ticks = λ t. grind (arith, nat_tests) })

-- ---- the ticks before and after a run

at_end : (xs : List Span) → xs ++ [] ≡ xs
at_end [] = refl
at_end (x ∷ xs) = ap (λ rest. x ∷ rest) (at_end xs)

pub inside_ends : (span inner : Span) (run : Option Span) → run ≡ Some inner →
    ((t : ℕ) → spans_have (option_to_list run) t ≡ true → within span.lo span.hi t ≡ true) → (span.lo ≤ inner.lo) × (inner.hi ≤ span.hi)
inside_ends span inner run is inside =
    let order : inner.lo ≤ inner.hi = inner.ordered in
    let first : spans_have (option_to_list run) inner.lo ≡ true = rw is (grind (arith, nat_tests)) in
    let last : spans_have (option_to_list run) inner.hi ≡ true = rw is (grind (arith, nat_tests)) in
    let begins : within span.lo span.hi inner.lo ≡ true = inside inner.lo first in
    let ends : within span.lo span.hi inner.hi ≡ true = inside inner.hi last in
    (grind (arith, nat_tests, begins), grind (arith, nat_tests, ends))

around : (lo hi a b t : ℕ) → lo ≤ a → a ≤ b → b ≤ hi →
    ((nat_le lo t && nat_lt t a) || (nat_le (b + 1) t && nat_lt t (hi + 1))) ≡ (within lo hi t && not (within a b t))
around lo hi a b t begins order ends = grind (arith, nat_tests)

apart : (lo hi a b t u : ℕ) → a ≤ b → (nat_le lo t && nat_lt t a) ≡ true → (nat_le (b + 1) u && nat_lt u (hi + 1)) ≡ true → t + 2 ≤ u
apart lo hi a b t u order early late = grind (arith, nat_tests, early, late)

pub sides : (span inner : Span) (first second : Option Span) → span.lo ≤ inner.lo → inner.hi ≤ span.hi →
    IsRuns (λ t. nat_le span.lo t && nat_lt t inner.lo) (option_to_list first) →
    IsRuns (λ t. nat_le (inner.hi + 1) t && nat_lt t (span.hi + 1)) (option_to_list second) →
    IsRuns (λ t. within span.lo span.hi t && not (within inner.lo inner.hi t)) ((option_to_list first ++ option_to_list second) ++ [])
sides span inner first second begins ends before after =
    subst (IsRuns (λ t. within span.lo span.hi t && not (within inner.lo inner.hi t))) (sym (at_end (option_to_list first ++ option_to_list second)))
    (runs_by _ _ _
    (runs_append _ _ _ _ before after (λ t u early late. apart span.lo span.hi inner.lo inner.hi t u inner.ordered early late))
    (λ t. around span.lo span.hi inner.lo inner.hi t begins inner.ordered ends))
