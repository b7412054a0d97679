-- The order of two squares, and the ticks at which one is below another.
use Rattle.std.proofs.Common.{◌≡◌, ℕ, ◌+◌, ◌-◌, ◌≤◌, ℤ, pos, negsuc, ◌-ℤ◌, ◌≤ℤ◌, ◌<ℤ◌, int_le, Bool, true, false, not, ◌&&◌, ◌||◌, nat_le, nat_lt, ◌⊎◌, inl, inr, Option, None, Some, option_to_list, List, [], ◌∷◌, ◌++◌, refl, sym, ap, ◌∙◌, arith}
use Rattle.std.specs.Ordering.{int_eq}
use Rattle.std.specs.Prelude.{int_lt, if◌then◌else◌}
use Rattle.std.proofs.lemmas.Int.{ints}
use Rattle.std.proofs.lemmas.Bool.{cases_Bool}
use Rattle.std.proofs.lemmas.Bool.Decides.{nat_tests, Decides-int_eq}
use Rattle.std.proofs.lemmas.List.Sums.{sum_by-append}
use Rattle.convex.specs.Stretch.{is_low}
use Rattle.tick_set.specs.Runs.{IsRuns, spans_have}
use Rattle.tick_set.specs.Ticks.{within}
use Rattle.tick_set.specs.declared.spans.Span.{Span}
use Rattle.tick_set.specs.declared.spans.Window.{Window}
use Rattle.nearest.specs.Depth.{depth_at, one_if}
use Rattle.nearest.specs.Order.{is_below}
use Rattle.exact.proofs.Truths.{not_not}
use Rattle.exact.proofs.Integers.{above_fails_test, at_most_passes, below_passes_less}

-- ---- two squares

pub either_order : (d e : ℤ) → (d <ℤ e) ⊎ (e ≤ℤ d)
either_order d e =
    elim (cases_Bool (int_lt d e)) [
      | inl less ↦ inl (grind (arith, ints, nat_tests))
      | inr more ↦ inr (grind (arith, ints, nat_tests))
    ]

-- less, as much, or more
three_orders : (d e : ℤ) → (d <ℤ e) ⊎ ((d ≡ e) ⊎ (e <ℤ d))
three_orders d e =
    elim (either_order d e) [
      | inl less ↦ inl less
      | inr at_least ↦ elim (either_order e d) [
        | inl more ↦ inr (inr more)
        | inr at_most ↦ inr (inl (omega (arith, ints)))
      ]
    ]

not_less_test : (d e : ℤ) → e ≤ℤ d → int_lt d e ≡ false
not_less_test d e more = grind (arith, ints, nat_tests)

unequal_test : (d e : ℤ) → e <ℤ d → int_eq d e ≡ false
unequal_test d e more =
    elim (cases_Bool (int_eq d e)) [
      | inl equal ↦ let same : d ≡ e = (Decides-int_eq d e).0 equal in absurd (omega (arith, ints))
      | inr differs ↦ differs
    ]

below_where_less : (ties : Bool) (d e : ℤ) → d <ℤ e → is_below ties d e ≡ true
below_where_less ties d e less = ap (λ b. b || (int_eq d e && ties)) (below_passes_less d e less)

not_below_where_more : (ties : Bool) (d e : ℤ) → e <ℤ d → is_below ties d e ≡ false
not_below_where_more ties d e more =
    let at_least : e ≤ℤ d = omega (arith, ints) in
    λ i. not_less_test d e at_least i || (unequal_test d e more i && ties)

below_in_a_tie : (ties : Bool) (d e : ℤ) → d ≡ e → is_below ties d e ≡ ties
below_in_a_tie ties d e same =
    let at_least : e ≤ℤ d = omega (arith, ints) in
    λ i. not_less_test d e at_least i || ((Decides-int_eq d e).1 same i && ties)

limit_in_a_tie : (ties : Bool) (d e limit : ℤ) → d ≡ e → limit ≡ (if ties then pos 0 else negsuc 0) → int_le (d -ℤ e) limit ≡ ties
limit_in_a_tie true d e limit same is = at_most_passes (d -ℤ e) limit (omega (arith, ints))
limit_in_a_tie false d e limit same is = above_fails_test (d -ℤ e) limit (omega (arith, ints))

limit_bounds : (ties : Bool) (limit : ℤ) → limit ≡ (if ties then pos 0 else negsuc 0) → (negsuc 0 ≤ℤ limit) × (limit ≤ℤ pos 0)
limit_bounds true limit is = (omega (arith, ints), omega (arith, ints))
limit_bounds false limit is = (omega (arith, ints), omega (arith, ints))

-- a difference is at most the limit where the first is below the second
limit_of_order : (ties : Bool) (d e limit : ℤ) → limit ≡ (if ties then pos 0 else negsuc 0) → int_le (d -ℤ e) limit ≡ is_below ties d e
limit_of_order ties d e limit is =
    let bounds = limit_bounds ties limit is in
    elim (three_orders d e) [
      | inl less ↦ at_most_passes (d -ℤ e) limit (omega (arith, ints, bounds.0)) ∙ sym (below_where_less ties d e less)
      | inr others ↦ elim others [
        | inl same ↦ limit_in_a_tie ties d e limit same is ∙ sym (below_in_a_tie ties d e same)
        | inr more ↦ above_fails_test (d -ℤ e) limit (omega (arith, ints, bounds.1)) ∙ sym (not_below_where_more ties d e more)
      ]
    ]

-- the second isn't below the first exactly where the first is below the second, with the ties to the other one
pub order_turned : (ties : Bool) (d e : ℤ) → not (is_below (not ties) e d) ≡ is_below ties d e
order_turned ties d e =
    elim (three_orders d e) [
      | inl less ↦ ap not (not_below_where_more (not ties) e d less) ∙ sym (below_where_less ties d e less)
      | inr others ↦ elim others [
        | inl same ↦ ap not (below_in_a_tie (not ties) e d (sym same)) ∙ not_not ties ∙ sym (below_in_a_tie ties d e same)
        | inr more ↦ ap not (below_where_less (not ties) e d more) ∙ sym (not_below_where_more ties d e more)
      ]
    ]

-- ---- ticks

pub low_is_below : (f a b : ℕ → ℤ) (limit : ℤ) (ties : Bool) (w : Window) (spans : List Span) → ((k : ℕ) → f k ≡ a k -ℤ b k) →
    limit ≡ (if ties then pos 0 else negsuc 0) → IsRuns (is_low f limit w) spans →
    IsRuns (λ t. within w.lo w.hi t && is_below ties (a (t - w.lo)) (b (t - w.lo))) spans
low_is_below f a b limit ties w spans differ is runs = record {
  normal = runs.normal;
  ticks = λ t.
      runs.ticks t
      ∙ ap (λ d. within w.lo w.hi t && int_le d limit) (differ (t - w.lo))
      ∙ ap (λ low. within w.lo w.hi t && low) (limit_of_order ties (a (t - w.lo)) (b (t - w.lo)) limit is);
}

pub all_but_those : (inside those others : Bool) → not those ≡ others → (inside && not (inside && those)) ≡ (inside && others)
all_but_those true those others is = is
all_but_those false those others is = refl

-- ---- depths

pub depth_run : (run : Option Span) (t : ℕ) → depth_at (option_to_list run) t ≡ one_if (spans_have (option_to_list run) t)
depth_run None t = refl
depth_run (Some s) t = grind (arith, nat_tests)

pub depth-append : (xs ys : List Span) (t : ℕ) → depth_at (xs ++ ys) t ≡ depth_at xs t + depth_at ys t
depth-append xs ys t = sum_by-append (λ (s : Span). if within s.lo s.hi t then 1 else 0) xs ys

-- a run whose ticks are in a window begins and ends there
pub ends_inside : (lo hi : ℕ) (run : Span) → ((t : ℕ) → spans_have (run ∷ []) t ≡ true → within lo hi t ≡ true) → (lo ≤ run.lo) × (run.hi ≤ hi)
ends_inside lo hi run inside =
    let order : run.lo ≤ run.hi = run.ordered in
    let first : within lo hi run.lo ≡ true = inside run.lo (grind (arith, nat_tests)) in
    let last : within lo hi run.hi ≡ true = inside run.hi (grind (arith, nat_tests)) in
    (grind (arith, nat_tests), grind (arith, nat_tests))

-- both sides of a run inside a window
pub two_sides : (lo hi from until t : ℕ) → lo ≤ from → from ≤ until → until ≤ hi →
    one_if (nat_le lo t && nat_lt t from) + one_if (nat_le (until + 1) t && nat_lt t (hi + 1)) ≡ one_if (within lo hi t && not (within from until t || false))
two_sides lo hi from until t begins order ends = grind (arith, nat_tests)

-- what stays below is before throughout, by bounds of both
pub below_by_bounds : (ties : Bool) (d e most least : ℤ) → d ≤ℤ most → least ≤ℤ e → most <ℤ least → is_below ties d e ≡ true
below_by_bounds ties d e most least up from apart = below_where_less ties d e (omega (arith, ints, up, from, apart))

-- and in a tie, where ties are asked for
pub below_by_tied_bounds : (d e most least : ℤ) → d ≤ℤ most → least ≤ℤ e → most ≤ℤ least → is_below true d e ≡ true
below_by_tied_bounds d e most least up from apart =
    elim (three_orders d e) [
      | inl less ↦ below_where_less true d e less
      | inr others ↦ elim others [
        | inl same ↦ below_in_a_tie true d e same
        | inr more ↦ absurd (omega (arith, ints, up, from, apart, more))
      ]
    ]

-- the first isn't below the second where the second is below the first, with the ties to the other one
pub not_below : (ties : Bool) (d e : ℤ) → is_below (not ties) e d ≡ true → is_below ties d e ≡ false
not_below ties d e is = sym (order_turned ties d e) ∙ ap not is
