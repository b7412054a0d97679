-- For this crate and for the crates above: tests over the ticks between two ticks: what a true answer and a false
-- one say of each tick.
use Rattle.std.proofs.Common.{◌≡◌, ℕ, zero, suc, ◌+◌, ◌-◌, ◌<◌, ◌≤◌, Bool, true, false, refl, sym, ◌∙◌, inl, inr, arith}
use Rattle.std.specs.List.{range_with_len, list_any, list_all}
use Rattle.std.proofs.lemmas.Bool.{false≢true, or_cases, and_parts, or_left, or_right, both_ways, false_from_ne_true}
use Rattle.std.proofs.lemmas.Bool.Decides.{nat_tests}
use Rattle.tick_set.specs.Ticks.{within, between, some_in, all_in}
use Rattle.exact.proofs.Truths.{same_truth}

pub within_parts : (lo hi t : ℕ) → within lo hi t ≡ true → (lo ≤ t) × (t ≤ hi)
within_parts lo hi t h = grind (arith, nat_tests)

pub within_from : (lo hi t : ℕ) → lo ≤ t → t ≤ hi → within lo hi t ≡ true
within_from lo hi t h k = grind (arith, nat_tests)

-- a tick of a to b, without b, that passes the test
pub record Passes (p : ℕ → Bool) (a b : ℕ) : Type 0 where
  pub tick : ℕ
  pub from : a ≤ tick
  pub below : tick < b
  pub passes : p tick ≡ true

any_found : (p : ℕ → Bool) (n a : ℕ) → list_any p (range_with_len a n) ≡ true → Passes p a (a + n)
any_found p zero a h = absurd (false≢true h)
any_found p (suc n) a h =
    elim (or_cases (p a) (list_any p (range_with_len (a + 1) n)) h) [
      | inl e ↦ record { tick = a; from = omega arith; below = omega arith; passes = e }
      | inr e ↦ let s = any_found p n (a + 1) e in record { tick = s.tick; from = omega (arith, s.from); below = omega (arith, s.below); passes = s.passes }
    ]

any_at : (p : ℕ → Bool) (n a u : ℕ) → a ≤ u → u < a + n → p u ≡ true → list_any p (range_with_len a n) ≡ true
any_at p zero a u h k e = absurd (omega arith)
any_at p (suc n) a u h k e = grind (arith, any_at p n (a + 1) u, or_left (p a) (list_any p (range_with_len (a + 1) n)), or_right (p a) (list_any p (range_with_len (a + 1) n)))

all_at : (p : ℕ → Bool) (n a : ℕ) → list_all p (range_with_len a n) ≡ true → (u : ℕ) → a ≤ u → u < a + n → p u ≡ true
all_at p zero a h u l k = absurd (omega arith)
all_at p (suc n) a h u l k = let parts = and_parts (p a) (list_all p (range_with_len (a + 1) n)) h in grind (arith, all_at p n (a + 1) parts.1 u)

all_from : (p : ℕ → Bool) (n a : ℕ) → ((u : ℕ) → a ≤ u → u < a + n → p u ≡ true) → list_all p (range_with_len a n) ≡ true
all_from p zero a h = refl
all_from p (suc n) a h = grind (arith, h a (omega arith) (omega arith), all_from p n (a + 1) (λ u l k. h u (omega arith) (omega arith)))

-- some tick from a up to b passes
pub any_between_found : (p : ℕ → Bool) (a b : ℕ) → list_any p (between a b) ≡ true → Passes p a b
unfolding between
any_between_found p a b h = let s = any_found p (b - a) a h in record { tick = s.tick; from = s.from; below = omega (arith, s.from, s.below); passes = s.passes }

pub any_between_at : (p : ℕ → Bool) (a b u : ℕ) → a ≤ u → u < b → p u ≡ true → list_any p (between a b) ≡ true
unfolding between
any_between_at p a b u h k e = any_at p (b - a) a u h (omega arith) e

-- each tick from a up to b passes
pub all_between_at : (p : ℕ → Bool) (a b : ℕ) → list_all p (between a b) ≡ true → (u : ℕ) → a ≤ u → u < b → p u ≡ true
unfolding between
all_between_at p a b h u l k = all_at p (b - a) a h u l (omega arith)

pub all_between_from : (p : ℕ → Bool) (a b : ℕ) → ((u : ℕ) → a ≤ u → u < b → p u ≡ true) → list_all p (between a b) ≡ true
unfolding between
all_between_from p a b h = all_from p (b - a) a (λ u l k. h u l (omega arith))

pub some_in_found : (p : ℕ → Bool) (lo hi : ℕ) → some_in p lo hi ≡ true → Passes p lo (hi + 1)
unfolding some_in
some_in_found p lo hi h = any_between_found p lo (hi + 1) h

pub some_in_at : (p : ℕ → Bool) (lo hi u : ℕ) → lo ≤ u → u ≤ hi → p u ≡ true → some_in p lo hi ≡ true
unfolding some_in
some_in_at p lo hi u h k e = any_between_at p lo (hi + 1) u h (omega arith) e

pub all_in_at : (p : ℕ → Bool) (lo hi : ℕ) → all_in p lo hi ≡ true → (u : ℕ) → lo ≤ u → u ≤ hi → p u ≡ true
unfolding all_in
all_in_at p lo hi h u l k = all_between_at p lo (hi + 1) h u l (omega arith)

pub all_in_from : (p : ℕ → Bool) (lo hi : ℕ) → ((u : ℕ) → lo ≤ u → u ≤ hi → p u ≡ true) → all_in p lo hi ≡ true
unfolding all_in
all_in_from p lo hi h = all_between_from p lo (hi + 1) (λ u l k. h u l (omega arith))

-- no tick passes, or one does not
pub some_in_none : (p : ℕ → Bool) (lo hi : ℕ) → ((u : ℕ) → lo ≤ u → u ≤ hi → p u ≡ false) → some_in p lo hi ≡ false
some_in_none p lo hi h = false_from_ne_true (some_in p lo hi) (λ e.
    let s = some_in_found p lo hi e in
    both_ways (p s.tick) (h s.tick s.from (omega (arith, s.below))) s.passes)

pub all_in_fails : (p : ℕ → Bool) (lo hi u : ℕ) → lo ≤ u → u ≤ hi → p u ≡ false → all_in p lo hi ≡ false
all_in_fails p lo hi u l k e = false_from_ne_true (all_in p lo hi) (λ h. both_ways (p u) e (all_in_at p lo hi h u l k))

-- tests that agree from lo to hi have one answer
pub all_in_same : (p q : ℕ → Bool) (lo hi : ℕ) → ((u : ℕ) → lo ≤ u → u ≤ hi → p u ≡ q u) → all_in p lo hi ≡ all_in q lo hi
all_in_same p q lo hi h =
    same_truth (all_in p lo hi) (all_in q lo hi)
    (λ e. all_in_from q lo hi (λ u l k. sym (h u l k) ∙ all_in_at p lo hi e u l k))
    (λ e. all_in_from p lo hi (λ u l k. h u l k ∙ all_in_at q lo hi e u l k))
