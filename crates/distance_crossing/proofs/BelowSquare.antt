-- The ticks at which a squared distance is below a limit, among those at which it is at most that: all but those of their ends that are at it, or none.
use Rattle.std.proofs.Common.{◌≡◌, ℕ, ◌+◌, ◌-◌, ◌<◌, ◌≤◌, Bool, true, false, ◌&&◌, ◌||◌, Option, Some, option_to_list, ℤ, pos, ◌-ℤ◌, ◌≤ℤ◌, int_le, nat_le, nat_lt, inl, inr, refl, ap, subst, sym, ◌∙◌, arith}
use Rattle.std.specs.Int.{from_bool}
use Rattle.std.specs.Ordering.{int_eq}
use Rattle.std.proofs.lemmas.Bool.{cases_lt, cases_Bool, and_parts, false_from_ne_true, false≢true}
use Rattle.std.proofs.lemmas.Bool.Decides.{nat_tests}
use Rattle.std.proofs.lemmas.Int.{ints}
use Rattle.linear_crossing.specs.Relative.{Relative, squared_distance_at}
use Rattle.tick_set.specs.Runs.{IsRuns, spans_have}
use Rattle.tick_set.specs.Ticks.{within}
use Rattle.tick_set.proofs.Between.{within_parts, within_from}
use Rattle.tick_set.specs.declared.spans.Span.{Span}
use Rattle.tick_set.specs.declared.spans.Window.{Window}
use Rattle.distance_crossing.proofs.Chords.{keeps_distance}
use Rattle.distance_crossing.proofs.RunLists.{runs_by}
use Rattle.distance_crossing.specs.NearTicks.{is_near_at}

-- ---- values
none_below : (v s : ℤ) (k first : ℕ) → v ≡ s → int_le v (s -ℤ pos 1) ≡ (nat_le first k && nat_lt k first)
none_below v s k first e = grind (arith, ints, nat_tests)

equal : (v s : ℤ) → int_eq v s ≡ true → v ≡ s
equal v s e = grind (arith, ints, nat_tests)

is_equal : (v s : ℤ) → v ≡ s → int_eq v s ≡ true
is_equal v s e = grind (arith, ints, nat_tests)

at_limit : (v s : ℤ) → int_eq v s ≡ true → int_le v (s -ℤ pos 1) ≡ false
at_limit v s e = grind (arith, ints, nat_tests)

below_limit : (v s : ℤ) → v ≤ℤ s → int_eq v s ≡ false → int_le v (s -ℤ pos 1) ≡ true
below_limit v s l e = grind (arith, ints, nat_tests)

not_near : (here : Bool) (v s : ℤ) → (here && int_le v s) ≡ false → (here && int_le v (s -ℤ pos 1)) ≡ false
not_near here v s e = grind (arith, ints, nat_tests)

-- ---- numbers
before_rest : (x a b : Bool) (k first end : ℕ) → k ≤ first → a ≡ true → x ≡ false → x ≡ (nat_le (first + from_bool a) k && nat_lt k (end + 1 - from_bool b))
before_rest x a b k first end l e f = grind (arith, nat_tests)

past_rest : (x a b : Bool) (k first end : ℕ) → end ≤ k → b ≡ true → x ≡ false → x ≡ (nat_le (first + from_bool a) k && nat_lt k (end + 1 - from_bool b))
past_rest x a b k first end l e f = grind (arith, nat_tests)

in_rest : (x a b : Bool) (k first end : ℕ) → (a ≡ true → first < k) → (b ≡ true → k < end) → first ≤ k → k ≤ end → x ≡ true
    → x ≡ (nat_le (first + from_bool a) k && nat_lt k (end + 1 - from_bool b))
in_rest x true true k first end g h l n e = let after = g refl in let before = h refl in grind (arith, nat_tests)
in_rest x true false k first end g h l n e = let after = g refl in grind (arith, nat_tests)
in_rest x false true k first end g h l n e = let before = h refl in grind (arith, nat_tests)
in_rest x false false k first end g h l n e = grind (arith, nat_tests)

-- ---- the numbers from `first` to `end`, at which the value is at most s
module _ (m : Relative) (s : ℤ) (first end : ℕ) (most : (k : ℕ) → first ≤ k → k ≤ end → squared_distance_at m k ≤ℤ s) where
  at_all : (k : ℕ) → first < k → k < end → int_eq (squared_distance_at m k) s ≡ true → (t : ℕ) → squared_distance_at m t ≡ s
  at_all k l n e t =
      let here : squared_distance_at m k ≡ s = equal (squared_distance_at m k) s e in
      keeps_distance m s first k end t l n (most first (omega arith) (omega arith)) (most end (omega arith) (omega arith)) (omega (arith, ints)) ∙ here

  -- z is s as it is passed on
  pub below_none : (z : ℤ) → z ≡ s → (nat_lt (first + 1) end && int_eq (squared_distance_at m (first + 1)) z) ≡ true
      → (k : ℕ) → first ≤ k → k ≤ end → int_le (squared_distance_at m k) (s -ℤ pos 1) ≡ (nat_le first k && nat_lt k first)
  below_none z e h k l n =
      let more : first + 1 < end = grind (arith, nat_tests) in
      let here : int_eq (squared_distance_at m (first + 1)) s ≡ true = ap (int_eq (squared_distance_at m (first + 1))) (sym e) ∙ (and_parts (nat_lt (first + 1) end) _ h).1 in
      none_below (squared_distance_at m k) s k first (at_all (first + 1) (omega arith) more here k)

  module _ (z : ℤ) (same : z ≡ s) (a b : Bool) (at_first : a ≡ int_eq (squared_distance_at m first) z) (at_end : b ≡ int_eq (squared_distance_at m end) z)
      (not_all : (a && b && (nat_lt (first + 1) end && int_eq (squared_distance_at m (first + 1)) z)) ≡ false) where
    is_at : (c : Bool) (t k : ℕ) → c ≡ int_eq (squared_distance_at m t) z → t ≡ k → c ≡ int_eq (squared_distance_at m k) s
    is_at c t k h e = h ∙ (λ i. int_eq (squared_distance_at m (e i)) (same i))

    between_ends : (k : ℕ) → first < k → k < end → int_eq (squared_distance_at m k) s ≡ false
    between_ends k l n =
        false_from_ne_true (int_eq (squared_distance_at m k) s)
        (λ e.
        let is_there : (t : ℕ) → int_eq (squared_distance_at m t) z ≡ true = λ t. is_equal (squared_distance_at m t) z (at_all k l n e t ∙ sym same) in
        let more : nat_lt (first + 1) end ≡ true = grind (arith, nat_tests) in
        false≢true (sym not_all ∙ (λ i. (at_first ∙ is_there first) i && (at_end ∙ is_there end) i && (more i && is_there (first + 1) i))))

    at_ends : (k : ℕ) → first ≤ k → k ≤ end → int_eq (squared_distance_at m k) s ≡ true
        → int_le (squared_distance_at m k) (s -ℤ pos 1) ≡ (nat_le (first + from_bool a) k && nat_lt k (end + 1 - from_bool b))
    at_ends k l n e =
        let out = at_limit (squared_distance_at m k) s e in
        elim (cases_lt first k) [
          | inl after ↦ elim (cases_lt k end) [
            | inl before ↦ absurd (false≢true (sym (between_ends k after before) ∙ e))
            | inr last ↦ past_rest _ a b k first end last (is_at b end k at_end (omega arith) ∙ e) out
          ]
          | inr start ↦ before_rest _ a b k first end start (is_at a first k at_first (omega arith) ∙ e) out
        ]

    off_ends : (k : ℕ) → first ≤ k → k ≤ end → int_eq (squared_distance_at m k) s ≡ false
        → int_le (squared_distance_at m k) (s -ℤ pos 1) ≡ (nat_le (first + from_bool a) k && nat_lt k (end + 1 - from_bool b))
    off_ends k l n e =
        in_rest _ a b k first end
        (λ g. elim (cases_lt first k) [ inl after ↦ after | inr start ↦ absurd (false≢true (sym e ∙ sym (is_at a first k at_first (omega arith)) ∙ g)) ])
        (λ g. elim (cases_lt k end) [ inl before ↦ before | inr last ↦ absurd (false≢true (sym e ∙ sym (is_at b end k at_end (omega arith)) ∙ g)) ])
        l n (below_limit (squared_distance_at m k) s (most k l n) e)

    pub below_some : (x y : ℕ) → x ≡ from_bool a → y ≡ from_bool b
        → (k : ℕ) → first ≤ k → k ≤ end → int_le (squared_distance_at m k) (s -ℤ pos 1) ≡ (nat_le (first + x) k && nat_lt k (end + 1 - y))
    below_some x y d e k l n =
        elim (cases_Bool (int_eq (squared_distance_at m k) s)) [
          | inl f ↦ at_ends k l n f
          | inr f ↦ off_ends k l n f
        ]
        ∙ (λ i. nat_le (first + sym d i) k && nat_lt k (end + 1 - sym e i))

-- ---- the same by the tick
module _ (m : Relative) (w : Window) (s : ℤ) (at_most : Option Span) (span : Span)
    (h : IsRuns (is_near_at m s w) (option_to_list at_most)) (is : at_most ≡ Some span) where
  in_span : (t : ℕ) → within span.lo span.hi t ≡ is_near_at m s w t
  in_span t =
      let P : Option Span → Type 0 = λ o. spans_have (option_to_list o) t ≡ is_near_at m s w t in
      let had : (within span.lo span.hi t || false) ≡ is_near_at m s w t = subst P is (h.ticks t) in
      grind (arith, had)

  ends_inside : (within w.lo w.hi span.lo ≡ true) × (within w.lo w.hi span.hi ≡ true)
  ends_inside =
      let order : span.lo ≤ span.hi = span.ordered in
      let is_first : within span.lo span.hi span.lo ≡ true = grind (arith, nat_tests) in
      let is_last : within span.lo span.hi span.hi ≡ true = grind (arith, nat_tests) in (
        (and_parts (within w.lo w.hi span.lo) _ (sym (in_span span.lo) ∙ is_first)).0,
        (and_parts (within w.lo w.hi span.hi) _ (sym (in_span span.hi) ∙ is_last)).0,
      )

  pub span_from : w.lo ≤ span.lo
  span_from = (within_parts w.lo w.hi span.lo ends_inside.0).0

  pub span_upto : span.hi ≤ w.hi
  span_upto = (within_parts w.lo w.hi span.hi ends_inside.1).1

  pub at_most_in_span : (k : ℕ) → span.lo - w.lo ≤ k → k ≤ span.hi - w.lo → squared_distance_at m k ≤ℤ s
  at_most_in_span k l n =
      let from = span_from in
      let order : span.lo ≤ span.hi = span.ordered in
      let here : within span.lo span.hi (w.lo + k) ≡ true = within_from span.lo span.hi (w.lo + k) (omega arith) (omega arith) in
      let near = (and_parts (within w.lo w.hi (w.lo + k)) _ (sym (in_span (w.lo + k)) ∙ here)).1 in
      let back : w.lo + k - w.lo ≡ k = omega arith in
      let value : int_le (squared_distance_at m k) s ≡ true = ap (λ u. int_le (squared_distance_at m u) s) (sym back) ∙ near in
      grind (arith, ints, nat_tests)

  module _ (from until : ℕ) (after : span.lo - w.lo ≤ from) (before : until ≤ span.hi - w.lo + 1)
      (below : (k : ℕ) → span.lo - w.lo ≤ k → k ≤ span.hi - w.lo → int_le (squared_distance_at m k) (s -ℤ pos 1) ≡ (nat_le from k && nat_lt k until)) where
    in_stretch : (t : ℕ) → within span.lo span.hi t ≡ true → (nat_le (w.lo + from) t && nat_lt t (w.lo + until)) ≡ is_near_at m (s -ℤ pos 1) w t
    in_stretch t e =
        let low = span_from in
        let bounds = within_parts span.lo span.hi t e in
        let here : within w.lo w.hi t ≡ true = within_from w.lo w.hi t (omega (arith, bounds.0)) (omega (arith, bounds.1, span_upto)) in
        let value = below (t - w.lo) (omega (arith, bounds.0)) (omega (arith, bounds.1)) in
        grind (arith, nat_tests, value, here, bounds.0)

    out_of_stretch : (t : ℕ) → within span.lo span.hi t ≡ false → (nat_le (w.lo + from) t && nat_lt t (w.lo + until)) ≡ is_near_at m (s -ℤ pos 1) w t
    out_of_stretch t e =
        let low = span_from in
        let order : span.lo ≤ span.hi = span.ordered in
        let out : (nat_le (w.lo + from) t && nat_lt t (w.lo + until)) ≡ false = grind (arith, nat_tests) in
        out ∙ sym (not_near (within w.lo w.hi t) (squared_distance_at m (t - w.lo)) s (sym (in_span t) ∙ e))

    pub below_runs : (result : Option Span) → IsRuns (λ t. nat_le (w.lo + from) t && nat_lt t (w.lo + until)) (option_to_list result)
        → IsRuns (is_near_at m (s -ℤ pos 1) w) (option_to_list result)
    below_runs result k =
        runs_by _ _ _ k (λ t. elim (cases_Bool (within span.lo span.hi t)) [
          | inl e ↦ in_stretch t e
          | inr e ↦ out_of_stretch t e
        ])
