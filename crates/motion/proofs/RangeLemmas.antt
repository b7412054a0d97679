-- The range of a value over some legs, one leg after another.
use Rattle.std.proofs.Common.{◌≡◌, ℕ, ℤ, pos, ◌+◌, ◌-◌, ◌<◌, ◌≤◌, ◌+ℤ◌, ◌≤ℤ◌, ◌<ℤ◌, neg_ℤ, false, ◌⊎◌, inl, inr, sym, ap, ◌∙◌, arith}
use Rattle.std.specs.Int.{int_min, int_max}
use Rattle.std.proofs.lemmas.Int.{ints}
use Rattle.std.proofs.lemmas.Bool.{cases_lt}
use Rattle.std.proofs.lemmas.Bool.Decides.{nat_tests}
use Rattle.exact.proofs.Convex.{rises}
use Rattle.exact.proofs.Integers.{int_le_or_lt}
use Rattle.motion.specs.Dynamic.{Dynamic, slope_at, turns_at, value_at}
use Rattle.motion.specs.Function.{rise}
use Rattle.motion.specs.Pieces.{IsLinear}
use Rattle.motion.specs.Range.{IsRange}
use Rattle.motion.proofs.LegLemmas.{rise_next}
use Rattle.motion.proofs.PieceLemmas.{linear}

value_next : (v : Dynamic) (t : ℕ) → v.updatetime ≤ t → value_at v (t + 1) ≡ value_at v t +ℤ slope_at v t
value_next v t written =
    let passed : t + 1 - v.updatetime ≡ t - v.updatetime + 1 = omega arith in
    let risen : rise v.function (t + 1 - v.updatetime) ≡ rise v.function (t - v.updatetime) +ℤ slope_at v t
    = ap (rise v.function) passed ∙ rise_next v.function (t - v.updatetime) in
    ap (λ r. v.value +ℤ r) risen ∙ omega (arith, ints)

pub range_none : (v : Dynamic) (lo : ℕ) (value : ℤ) → value ≡ value_at v lo → IsRange v lo lo value value
range_none v lo value is =
    let at : (t : ℕ) → lo ≤ t → t ≤ lo → value_at v t ≡ value = λ t from up_to. let same : t ≡ lo = omega arith in ap (value_at v) same ∙ sym is in
    record {
      at_least = λ t from up_to. let e = at t from up_to in omega (arith, ints);
      at_most = λ t from up_to. let e = at t from up_to in omega (arith, ints);
      least_reached = (lo, omega arith, omega arith, sym is);
      greatest_reached = (lo, omega arith, omega arith, sym is);
    }

-- from `at` to `next` no leg ends between the two
module _ (v : Dynamic) (at next : ℕ) (written : v.updatetime ≤ at) (past : at < next) (none : (t : ℕ) → at < t → t < next → turns_at v t ≡ false) where
  one_slope : IsLinear v at (next - 1)
  one_slope = linear v at (next - 1) written (λ t from up_to. none t from (omega arith))

  step : (t : ℕ) → at ≤ t → t < next → value_at v (t + 1) ≡ value_at v t +ℤ slope_at v at
  step t from before = value_next v t (omega arith) ∙ ap (λ s. value_at v t +ℤ s) (one_slope.slope t from (omega arith))

  rising : pos 0 ≤ℤ slope_at v at → (i j : ℕ) → at ≤ i → i ≤ j → j ≤ next → value_at v i ≤ℤ value_at v j
  rising up i j = rises (value_at v) at next (λ t from before. let e = step t from before in omega (arith, ints)) i j

  falling : slope_at v at <ℤ pos 0 → (i j : ℕ) → at ≤ i → i ≤ j → j ≤ next → value_at v j ≤ℤ value_at v i
  falling down i j from order up_to =
      let opposite = rises (λ t. neg_ℤ (value_at v t)) at next (λ t l n. let e = step t l n in omega (arith, ints)) i j from order up_to in
      omega (arith, ints)

  -- a value between is between those at the ends
  between : (t : ℕ) → at ≤ t → t ≤ next
      → ((value_at v at ≤ℤ value_at v t) × (value_at v t ≤ℤ value_at v next)) ⊎ ((value_at v next ≤ℤ value_at v t) × (value_at v t ≤ℤ value_at v at))
  between t from up_to =
      elim (int_le_or_lt (pos 0) (slope_at v at)) [
        | inl up ↦ inl (rising up at t (omega arith) from up_to, rising up t next from up_to (omega arith))
        | inr down ↦ inr (falling down t next from up_to (omega arith), falling down at t (omega arith) from up_to)
      ]

  module _ (lo : ℕ) (least greatest value : ℤ) (begun : lo ≤ at) (so_far : IsRange v lo at least greatest) (is : value ≡ value_at v next) where
    least_so_far : least ≤ℤ value_at v at
    least_so_far = so_far.at_least at begun (omega arith)

    greatest_so_far : value_at v at ≤ℤ greatest
    greatest_so_far = so_far.at_most at begun (omega arith)

    low : (t : ℕ) → lo ≤ t → t ≤ next → int_min least value ≤ℤ value_at v t
    low t from up_to =
        elim (cases_lt t at) [
          | inl before ↦ let low = so_far.at_least t from (omega arith) in grind (arith, ints, nat_tests)
          | inr later ↦ elim (between t later up_to) [
            | inl up ↦ grind (arith, ints, nat_tests, up.0, least_so_far)
            | inr down ↦ grind (arith, ints, nat_tests, down.0, is)
          ]
        ]

    high : (t : ℕ) → lo ≤ t → t ≤ next → value_at v t ≤ℤ int_max greatest value
    high t from up_to =
        elim (cases_lt t at) [
          | inl before ↦ let high = so_far.at_most t from (omega arith) in grind (arith, ints, nat_tests)
          | inr later ↦ elim (between t later up_to) [
            | inl up ↦ grind (arith, ints, nat_tests, up.1, is)
            | inr down ↦ grind (arith, ints, nat_tests, down.1, greatest_so_far)
          ]
        ]

    low_reached : (t : ℕ) × (lo ≤ t) × (t ≤ next) × (value_at v t ≡ int_min least value)
    low_reached =
        let old = so_far.least_reached in
        elim (int_le_or_lt least value) [
          | inl keep ↦ (old.0, old.1, omega (arith, old.2), old.3 ∙ grind (arith, ints, nat_tests))
          | inr new ↦ (next, omega arith, omega arith, sym is ∙ grind (arith, ints, nat_tests))
        ]

    high_reached : (t : ℕ) × (lo ≤ t) × (t ≤ next) × (value_at v t ≡ int_max greatest value)
    high_reached =
        let old = so_far.greatest_reached in
        elim (int_le_or_lt value greatest) [
          | inl keep ↦ (old.0, old.1, omega (arith, old.2), old.3 ∙ grind (arith, ints, nat_tests))
          | inr new ↦ (next, omega arith, omega arith, sym is ∙ grind (arith, ints, nat_tests))
        ]

    pub range_more : IsRange v lo next (int_min least value) (int_max greatest value)
    range_more = record { at_least = low; at_most = high; least_reached = low_reached; greatest_reached = high_reached }
