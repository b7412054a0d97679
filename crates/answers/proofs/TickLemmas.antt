-- The ticks of a set that lies in a window, and whether there are any.
use Rattle.std.proofs.Common.{◌≡◌, ℕ, ◌+◌, ◌-◌, ◌≤◌, Bool, true, false, ◌&&◌, ◌||◌, List, [], ◌∷◌, ◌++◌, append-nil, refl, sym, ap, ◌∙◌, arith, if◌then◌else◌}
use Rattle.std.specs.Prelude.{◌==◌}
use Rattle.std.specs.List.{filter, range_with_len}
use Rattle.std.proofs.lemmas.Bool.{false≢true, and_left}
use Rattle.std.proofs.lemmas.Bool.Decides.{nat_tests}
use Rattle.std.proofs.lemmas.List.Elements.{filter-append}
use Rattle.tick_set.specs.Runs.{runs_of, with_tick}
use Rattle.tick_set.specs.TickList.{has}
use Rattle.tick_set.specs.Ticks.{between, listed, within}
use Rattle.tick_set.proofs.CallerLemmas.{has_listed}
use Rattle.tick_set.proofs.RunLemmas.{filter_range_agree}
use Rattle.meaning.specs.Answer.{has_ticks}
use Rattle.exact.proofs.Items.{none_in_range, range_append}

-- ---- a set within a window

module _ (p q : ℕ → Bool) (lo hi last : ℕ) (short : hi ≤ last) (order : lo ≤ hi) (same : (t : ℕ) → p t ≡ (within lo hi t && q t)) where
  out : (t : ℕ) → within lo hi t ≡ false → p t ≡ false
  out t outside = same t ∙ and_left (within lo hi t) (q t) outside

  here : (t : ℕ) → within lo hi t ≡ true → p t ≡ q t
  here t there = same t ∙ ap (λ (b : Bool). b && q t) there

  before : filter p (range_with_len 0 lo) ≡ []
  before = none_in_range p lo 0 (λ t l k. out t (grind (arith, nat_tests, k)))

  after : filter p (range_with_len (hi + 1) (last - hi)) ≡ []
  after = none_in_range p (last - hi) (hi + 1) (λ t l k. out t (grind (arith, nat_tests, l)))

  inside : filter p (range_with_len lo (hi + 1 - lo)) ≡ filter q (range_with_len lo (hi + 1 - lo))
  inside = filter_range_agree p q (hi + 1 - lo) lo (λ t l k. here t (grind (arith, nat_tests, l, k, order)))

  parts : range_with_len 0 (last + 1) ≡ range_with_len 0 lo ++ (range_with_len lo (hi + 1 - lo) ++ range_with_len (hi + 1) (last - hi))
  parts =
      ap (range_with_len 0) (let e : last + 1 ≡ lo + (hi + 1 - lo + (last - hi)) = omega (arith, short, order) in e)
      ∙ range_append lo (hi + 1 - lo + (last - hi)) 0
      ∙ ap (λ (b : ℕ). range_with_len 0 lo ++ range_with_len b (hi + 1 - lo + (last - hi))) (let e : 0 + lo ≡ lo = omega arith in e)
      ∙ ap (λ (xs : List ℕ). range_with_len 0 lo ++ xs) (range_append (hi + 1 - lo) (last - hi) lo)
      ∙ ap (λ (b : ℕ). range_with_len 0 lo ++ (range_with_len lo (hi + 1 - lo) ++ range_with_len b (last - hi))) (let e : lo + (hi + 1 - lo) ≡ hi + 1 = omega (arith, order) in e)

  -- what passes within the window is what the window has of it
  pub narrowed : listed p 0 last ≡ listed q lo hi
  unfolding listed between
  narrowed =
      ap (λ (n : ℕ). filter p (range_with_len 0 n)) (let e : last + 1 - 0 ≡ last + 1 = omega arith in e)
      ∙ ap (filter p) parts
      ∙ filter-append p (range_with_len 0 lo) (range_with_len lo (hi + 1 - lo) ++ range_with_len (hi + 1) (last - hi))
      ∙ ap (λ (xs : List ℕ). xs ++ filter p (range_with_len lo (hi + 1 - lo) ++ range_with_len (hi + 1) (last - hi))) before
      ∙ filter-append p (range_with_len lo (hi + 1 - lo)) (range_with_len (hi + 1) (last - hi))
      ∙ ap (λ (xs : List ℕ). filter p (range_with_len lo (hi + 1 - lo)) ++ xs) after
      ∙ append-nil (filter p (range_with_len lo (hi + 1 - lo)))
      ∙ inside

-- ---- whether there is a run

with_tick-some : (t : ℕ) (runs : List (ℕ × ℕ)) → has_ticks (with_tick t runs) ≡ true
with_tick-some t [] = refl
with_tick-some t ((lo, hi) ∷ rest) = by_test (nat_next lo t)
  where
    nat_next : ℕ → ℕ → Bool
    nat_next a b = a == b + 1

    by_test : (joins : Bool) → has_ticks (if joins then (t, hi) ∷ rest else (t, t) ∷ (lo, hi) ∷ rest) ≡ true
    by_test true = refl
    by_test false = refl

no_runs : (ticks : List ℕ) → has_ticks (runs_of ticks) ≡ false → (t : ℕ) → has ticks t ≡ false
no_runs [] none t = refl
no_runs (u ∷ ticks) none t = absurd (false≢true (sym none ∙ with_tick-some u (runs_of ticks)))

some_runs : (ticks : List ℕ) → has_ticks (runs_of ticks) ≡ true → ((t : ℕ) → has ticks t ≡ false) → ⊥
some_runs [] some none = false≢true some
some_runs (u ∷ ticks) some none = false≢true (sym (none u) ∙ first (u == u) (same_number u))
  where
    same_number : (n : ℕ) → (n == n) ≡ true
    same_number n = grind (arith, nat_tests)

    first : (e : Bool) → e ≡ true → (e || has ticks u) ≡ true
    first e is = ap (λ (b : Bool). b || has ticks u) is

-- runs are there where some tick of the window passes
pub no_ticks_from : (q : ℕ → Bool) (lo hi : ℕ) → has_ticks (runs_of (listed q lo hi)) ≡ false → (t : ℕ) → (within lo hi t && q t) ≡ false
no_ticks_from q lo hi none t = sym (has_listed q lo hi t) ∙ no_runs (listed q lo hi) none t

pub some_ticks_from : (q : ℕ → Bool) (lo hi : ℕ) → has_ticks (runs_of (listed q lo hi)) ≡ true → ((t : ℕ) → (within lo hi t && q t) ≡ false) → ⊥
some_ticks_from q lo hi some none = some_runs (listed q lo hi) some (λ t. has_listed q lo hi t ∙ none t)
