-- A convex function falls up to a number and rises from there, so it is at most a limit on one stretch.
use Rattle.std.proofs.Common.{◌≡◌, ℕ, zero, suc, ◌+◌, ◌-◌, ◌<◌, ◌≤◌, ℤ, ◌≤ℤ◌, ◌<ℤ◌, int_le, nat_le, ◌&&◌, [], ◌∷◌, inl, inr, ap, subst, add-one, arith}
use Rattle.std.proofs.lemmas.Int.{ints}
use Rattle.std.proofs.lemmas.Bool.{cases_lt}
use Rattle.std.proofs.lemmas.Bool.Decides.{nat_tests}
use Rattle.exact.specs.Rising.{FallsTo, RisesIn}
use Rattle.exact.proofs.Convex.{falls, rises}
use Rattle.exact.proofs.Integers.{int_le_or_lt}
use Rattle.tick_set.specs.Runs.{IsRuns}
use Rattle.tick_set.specs.declared.spans.Span.{Span}
use Rattle.tick_set.specs.declared.spans.Window.{Window}
use Rattle.convex.specs.Bends.{Bends}
use Rattle.convex.specs.Stretch.{AreEnds, is_low}

-- ---- what the loops keep
-- f is at most the limit at `low` and above it at `high`, which is later
pub record LowThenHigh (f : ℕ → ℤ) (limit : ℤ) (from until low high : ℕ) : Type 0 where
  pub ordered : low < high
  pub begins : from ≤ low
  pub ends : high ≤ until
  pub is_low : f low ≤ℤ limit
  pub is_high : limit <ℤ f high

-- f is above the limit at `high` and at most it at `low`, which is later
pub record HighThenLow (f : ℕ → ℤ) (limit : ℤ) (from until high low : ℕ) : Type 0 where
  pub ordered : high < low
  pub begins : from ≤ high
  pub ends : low ≤ until
  pub is_high : limit <ℤ f high
  pub is_low : f low ≤ℤ limit

-- where f is at most the limit lies between `low` and `high`
pub record LowBetween (f : ℕ → ℤ) (limit : ℤ) (last low high : ℕ) : Type 0 where
  pub ordered : low ≤ high
  pub ends : high ≤ last
  pub high_by : (k : ℕ) → k ≤ low → limit <ℤ f k
  pub high_from : (k : ℕ) → high ≤ k → k ≤ last → limit <ℤ f k

-- ---- falling and rising
module _ (f : ℕ → ℤ) (bends : Bends f) where
  -- it rises at a step where it rises at the one before, and falls where it falls at the next
  rises_next : (k : ℕ) → f k ≤ℤ f (k + 1) → f (k + 1) ≤ℤ f (k + 2)
  rises_next k h = omega (arith, ints, bends k)

  fell_before : (k : ℕ) → f (k + 2) ≤ℤ f (k + 1) → f (k + 1) ≤ℤ f k
  fell_before k h = omega (arith, ints, bends k)

  rises_past : (m k : ℕ) → m ≤ k → f m ≤ℤ f (m + 1) → f k ≤ℤ f (k + 1)
  rises_past m zero l h = let P : ℕ → Type 0 = λ n. f n ≤ℤ f (n + 1) in let e : m ≡ zero = omega arith in subst P e h
  rises_past m (suc k) l h =
      let P : ℕ → Type 0 = λ n. f n ≤ℤ f (n + 1) in
      elim (cases_lt m (suc k)) [
        | inl below ↦
            let before = rises_next k (rises_past m k (omega arith) h) in
            let here = ap f (add-one k) in
            let e : k + 2 ≡ suc k + 1 = omega arith in
            let next = ap f e in
            omega (arith, ints)
        | inr past ↦ let e : m ≡ suc k = omega arith in subst P e h
      ]

  fell_by : (m k : ℕ) → k ≤ m → f (m + 1) ≤ℤ f m → f (k + 1) ≤ℤ f k
  fell_by zero k l h = let P : ℕ → Type 0 = λ n. f (n + 1) ≤ℤ f n in let e : zero ≡ k = omega arith in subst P e h
  fell_by (suc m) k l h =
      let P : ℕ → Type 0 = λ n. f (n + 1) ≤ℤ f n in
      elim (cases_lt k (suc m)) [
        | inl below ↦
            let here = ap f (add-one m) in
            let e : m + 2 ≡ suc m + 1 = omega arith in
            let next = ap f e in
            fell_by m k (omega arith) (fell_before m (omega (arith, ints)))
        | inr past ↦ let e : suc m ≡ k = omega arith in subst P e h
      ]

  pub rises_from : (m n : ℕ) → f m ≤ℤ f (m + 1) → RisesIn f m n
  rises_from m n h k l b = rises_past m k l h

  pub falls_to : (m : ℕ) → f (m + 1) ≤ℤ f m → FallsTo f (m + 1)
  falls_to m h k l = fell_by m k (omega arith) h

  -- between two numbers at which it is at most a limit it is so too
  pub low_between : (limit : ℤ) (i j k : ℕ) → i ≤ j → j ≤ k → f i ≤ℤ limit → f k ≤ℤ limit → f j ≤ℤ limit
  low_between limit i j k l m low_i low_k =
      elim (int_le_or_lt (f j) (f (j + 1))) [
        | inl rise ↦ let after = rises f j k (rises_from j k rise) j k (omega arith) m (omega arith) in omega (arith, ints)
        | inr fall ↦ let before = falls f (j + 1) (falls_to j (omega (arith, ints))) i j l (omega arith) in omega (arith, ints)
      ]

  -- ---- the search for a number at which it is at most the limit
  pub between_rising : (limit : ℤ) (last low high middle : ℕ) → LowBetween f limit last low high → low ≤ middle → middle ≤ high
      → limit <ℤ f middle → f middle ≤ℤ f (middle + 1) → LowBetween f limit last low middle
  between_rising limit last low high middle h l m far rise = record {
    ordered = l;
    ends = omega (arith, h.ends);
    high_by = h.high_by;
    high_from = λ k n b. let after = rises f middle last (rises_from middle last rise) middle k (omega arith) n b in omega (arith, ints);
  }

  pub between_falling : (limit : ℤ) (last low high middle : ℕ) → LowBetween f limit last low high → low ≤ middle → middle ≤ high
      → limit <ℤ f middle → f (middle + 1) <ℤ f middle → LowBetween f limit last middle high
  between_falling limit last low high middle h l m far fall = record {
    ordered = m;
    ends = h.ends;
    high_by = λ k n. let before = falls f (middle + 1) (falls_to middle (omega (arith, ints))) k middle n (omega arith) in omega (arith, ints);
    high_from = h.high_from;
  }

  -- ---- the stretch
  module _ (limit : ℤ) (last first end : ℕ) (ends : AreEnds f limit last first end) where
    high_below : (k : ℕ) → k < first → limit <ℤ f k
    high_below k l =
        elim (int_le_or_lt (f k) limit) [
          | inl low ↦
              let high = ends.high_before (first - 1) (omega arith) in
              let here = low_between limit k (first - 1) first (omega arith) (omega arith) low ends.low_first in
              absurd (omega (arith, ints))
          | inr high ↦ high
        ]

    high_above : (k : ℕ) → end < k → k ≤ last → limit <ℤ f k
    high_above k l b =
        elim (int_le_or_lt (f k) limit) [
          | inl low ↦
              let high = ends.high_after (omega arith) in
              let here = low_between limit end (end + 1) k (omega arith) (omega arith) ends.low_end low in
              absurd (omega (arith, ints))
          | inr high ↦ high
        ]

    low_exactly : (k : ℕ) → k ≤ last → int_le (f k) limit ≡ (nat_le first k && nat_le k end)
    low_exactly k b =
        elim (cases_lt k first) [
          | inl before ↦ let high = high_below k before in grind (arith, ints, nat_tests)
          | inr from ↦ elim (cases_lt end k) [
            | inl after ↦ let high = high_above k after b in grind (arith, ints, nat_tests)
            | inr upto ↦ let low = low_between limit first k end from upto ends.low_first ends.low_end in grind (arith, ints, nat_tests)
          ]
        ]

  -- the same by the tick, as one span
  pub low_ticks : (limit : ℤ) (w : Window) (s : Span) (first end : ℕ) → AreEnds f limit (w.hi - w.lo) first end → s.lo ≡ w.lo + first → s.hi ≡ w.lo + end
      → IsRuns (is_low f limit w) (s ∷ [])
  low_ticks limit w s first end ends lo hi = record {
    normal = (omega arith, tt);
    ticks = λ t. grind (arith, nat_tests, low_exactly limit (w.hi - w.lo) first end ends (t - w.lo), ends.ordered, ends.bound, w.ordered);
  }
