-- Where a function that falls and then rises is at most a limit.
use Rattle.std.proofs.Common.{◌≡◌, ℕ, zero, suc, ◌+◌, ◌-◌, ◌≤◌, ℤ, pos, ◌≤ℤ◌, ◌<ℤ◌, int_le, false, ◌&&◌, nat_le, inl, inr, [], ◌∷◌, refl, sym, ◌∙◌, subst, add-one, arith}
use Rattle.std.proofs.lemmas.Int.{ints}
use Rattle.std.proofs.lemmas.Bool.{cases_lt}
use Rattle.std.proofs.lemmas.Bool.Decides.{nat_tests}
use Rattle.exact.specs.Rising.{FallsTo, RisesIn}
use Rattle.exact.proofs.Convex.{falls, least, rises}
use Rattle.exact.proofs.Truths.{and_false}
use Rattle.exact.proofs.Integers.{above_fails_test}
use Rattle.convex.specs.Parabola.{parabola}
use Rattle.convex.specs.Stretch.{is_low}
use Rattle.tick_set.specs.Runs.{IsRuns}
use Rattle.tick_set.specs.Ticks.{within}
use Rattle.tick_set.specs.declared.spans.Span.{Span}
use Rattle.tick_set.specs.declared.spans.Window.{Window}
use Rattle.nearest.specs.Order.{IsFirstLow, IsLastLow, rise_after}
use Rattle.nearest.proofs.OrderLemmas.{either_order}
use Rattle.nearest.proofs.PartLemmas.{guarded}
use Rattle.nearest.proofs.SquareLemmas.{falls_by, rises_on}

-- f falls up to a number of 0 to `last`, and rises from there
pub record Turns (f : ℕ → ℤ) (last : ℕ) : Type 0 where
  pub lowest : ℕ
  pub bound : lowest ≤ last
  pub falls : FallsTo f lowest
  pub rises : RisesIn f lowest last

module _ (f : ℕ → ℤ) (limit : ℤ) (lowest last : ℕ) (fall : FallsTo f lowest) (rise : RisesIn f lowest last) (inside : lowest ≤ last) where
  low_exactly : (first end : ℕ) → IsFirstLow f limit lowest first → IsLastLow f limit lowest last end →
      (k : ℕ) → k ≤ last → int_le (f k) limit ≡ (nat_le first k && nat_le k end)
  low_exactly first end begins ends k below =
      let bound = begins.bound in
      let from_lowest = ends.begins in
      let low_first = begins.low in
      let low_end = ends.low in
      elim (cases_lt k first) [
        | inl before ↦
            let high = begins.high_before (first - 1) (omega (arith, before)) in
            let down = falls f lowest fall k (first - 1) (omega (arith, before)) (omega (arith, bound)) in
            grind (arith, ints, nat_tests, high, down, before)
        | inr from ↦ elim (cases_lt end k) [
          | inl after ↦
              let high = ends.high_after (omega (arith, after, below)) in
              let up = rises f lowest last rise (end + 1) k (omega (arith, from_lowest)) (omega (arith, after)) below in
              grind (arith, ints, nat_tests, high, up, after)
          | inr upto ↦ elim (cases_lt k lowest) [
            | inl left ↦
                let down = falls f lowest fall first k from (omega (arith, left)) in
                grind (arith, ints, nat_tests, down, low_first, from, upto)
            | inr right ↦
                let up = rises f lowest last rise k end right upto ends.bound in
                grind (arith, ints, nat_tests, up, low_end, from, upto)
          ]
        ]
      ]

  -- the same by the tick, as one span
  pub low_run : (w : Window) (s : Span) (first end : ℕ) → w.hi - w.lo ≡ last → IsFirstLow f limit lowest first → IsLastLow f limit lowest last end →
      s.lo ≡ w.lo + first → s.hi ≡ w.lo + end → IsRuns (is_low f limit w) (s ∷ [])
  low_run w s first end length begins ends lo hi =
      let bound = ends.bound in
      let first_bound = begins.bound in
      let last_begins = ends.begins in
      let order : w.lo ≤ w.hi = w.ordered in
      record {
        normal = (omega (arith, lo, hi, first_bound, last_begins), tt);
        ticks = λ t.
            let exact : t - w.lo ≤ last → int_le (f (t - w.lo)) limit ≡ (nat_le first (t - w.lo) && nat_le (t - w.lo) end) = low_exactly first end begins ends (t - w.lo) in
            grind (arith, nat_tests, exact, bound, order, lo, hi, length);
      }

  pub low_nowhere : (w : Window) → w.hi - w.lo ≡ last → limit <ℤ f lowest → IsRuns (is_low f limit w) []
  low_nowhere w length high = record {
    normal = tt;
    ticks = λ t.
        sym (guarded w.lo w.hi t (int_le (f (t - w.lo)) limit) false
        (λ from up_to.
        let bottom = least f lowest last fall rise (t - w.lo) (omega (arith, from, up_to, length)) in
        above_fails_test (f (t - w.lo)) limit (omega (arith, ints, bottom, high)))
        ∙ and_false (within w.lo w.hi t));
  }

-- ---- where the difference is at most the limit at one end

extended : (f : ℕ → ℤ) (v last : ℕ) → RisesIn f v last → f last ≤ℤ f (last + 1) → RisesIn f v (last + 1)
extended f v last rise step k from below =
    elim (cases_lt k last) [
      | inl before ↦ rise k from before
      | inr past ↦
          let same : last ≡ k = omega (arith, past, below) in
          subst (λ (n : ℕ). f n ≤ℤ f (n + 1)) same step
    ]

-- every parabola that opens upwards falls up to some number and rises from there
pub turns : (a : ℕ) (b c : ℤ) (last : ℕ) → Turns (parabola a b c) last
turns a b c zero = record {
  lowest = 0;
  bound = omega arith;
  falls = λ k below. absurd (omega (arith, below));
  rises = λ k from below. absurd (omega (arith, below));
}
turns a b c (suc n) =
    let next = add-one n in
    elim (either_order (rise_after a b n) (pos 0)) [
      | inl fall ↦ subst (Turns (parabola a b c)) next (record {
        lowest = n + 1;
        bound = omega arith;
        falls = falls_by a b c n fall;
        rises = λ k from below. absurd (omega (arith, from, below));
      })
      | inr rise ↦
          let before = turns a b c n in
          let step = rises_on a b c n (n + 1) rise n (omega arith) (omega arith) in
          subst (Turns (parabola a b c)) next (record {
            lowest = before.lowest;
            bound = omega (arith, before.bound);
            falls = before.falls;
            rises = extended (parabola a b c) before.lowest n before.rises step;
          })
    ]

module _ (f : ℕ → ℤ) (limit : ℤ) (w : Window) (turn : Turns f (w.hi - w.lo)) where
  last_past : (end : ℕ) → IsLastLow f limit 0 (w.hi - w.lo) end → IsLastLow f limit turn.lowest (w.hi - w.lo) end
  last_past end ends = record {
    begins =
        elim (cases_lt end turn.lowest) [
          | inl before ↦
              let inside = turn.bound in
              let high = ends.high_after (omega (arith, before, inside)) in
              let low = ends.low in
              let fall = turn.falls end before in
              absurd (omega (arith, ints, high, low, fall))
          | inr past ↦ past
        ];
    bound = ends.bound;
    low = ends.low;
    high_after = ends.high_after;
  }

  first_by : (first : ℕ) → IsFirstLow f limit (w.hi - w.lo) first → IsFirstLow f limit turn.lowest first
  first_by first begins = record {
    bound =
        elim (cases_lt turn.lowest first) [
          | inl after ↦
              let next : first - 1 + 1 ≡ first = omega (arith, after) in
              let inside = begins.bound in
              let high = begins.high_before (first - 1) next in
              let low = begins.low in
              let rise = turn.rises (first - 1) (omega (arith, after)) (omega (arith, after, inside)) in
              let up = subst (λ (n : ℕ). f (first - 1) ≤ℤ f n) next rise in
              absurd (omega (arith, ints, high, low, up))
          | inr upto ↦ upto
        ];
    low = begins.low;
    high_before = begins.high_before;
  }

  at_first : f 0 ≤ℤ limit → IsFirstLow f limit turn.lowest 0
  at_first low = record {
    bound = omega arith;
    low = low;
    high_before = λ k is. absurd (omega (arith, is));
  }

  pub run_from_first : (s : Span) (end : ℕ) → f 0 ≤ℤ limit → IsLastLow f limit 0 (w.hi - w.lo) end → s.lo ≡ w.lo → s.hi ≡ w.lo + end → IsRuns (is_low f limit w) (s ∷ [])
  run_from_first s end low ends lo hi =
      low_run f limit turn.lowest (w.hi - w.lo) turn.falls turn.rises turn.bound w s 0 end refl (at_first low) (last_past end ends) (omega (arith, lo)) hi

  pub run_to_last : (s : Span) (first : ℕ) → f (w.hi - w.lo) ≤ℤ limit → IsFirstLow f limit (w.hi - w.lo) first → s.lo ≡ w.lo + first → s.hi ≡ w.hi → IsRuns (is_low f limit w) (s ∷ [])
  run_to_last s first low begins lo hi =
      let order : w.lo ≤ w.hi = w.ordered in
      low_run f limit turn.lowest (w.hi - w.lo) turn.falls turn.rises turn.bound w s first (w.hi - w.lo) refl (first_by first begins)
      (record {
        begins = turn.bound;
        bound = omega arith;
        low = low;
        high_after = λ more. absurd (omega (arith, more));
      })
      lo (omega (arith, hi, order))

  pub run_throughout : (s : Span) → f 0 ≤ℤ limit → f (w.hi - w.lo) ≤ℤ limit → s.lo ≡ w.lo → s.hi ≡ w.hi → IsRuns (is_low f limit w) (s ∷ [])
  run_throughout s first last lo hi = run_to_last s 0 last (record {
    bound = omega arith;
    low = first;
    high_before = λ k is. absurd (omega (arith, is));
  }) (omega (arith, lo)) hi

-- ---- where it rises from a value above the limit

pub nowhere_rising : (a : ℕ) (b c limit : ℤ) (w : Window) → pos 0 ≤ℤ b → limit <ℤ parabola a b c 0 → IsRuns (is_low (parabola a b c) limit w) []
nowhere_rising a b c limit w rises high =
    low_nowhere (parabola a b c) limit 0 (w.hi - w.lo) (λ k below. absurd (omega (arith, below))) (rises_on a b c 0 (w.hi - w.lo) (omega (arith, ints, rises)))
    (omega arith) w refl high
