-- The operators on sets that lie in a window.
use Rattle.std.proofs.Common.{◌≡◌, ℕ, ◌+◌, ◌-◌, ◌<◌, ◌≤◌, min, Bool, true, false, ◌&&◌, leb, List, [], ◌∷◌, ◌++◌, length, refl, sym, ap, ◌∙◌, inl, inr, arith}
use Rattle.std.proofs.lemmas.Bool.{false≢true, cases_lt, or_cases, or_left, or_right, and_parts, and_from, and_right, leb-true, le-leb, false_from_ne_true}
use Rattle.std.proofs.lemmas.Bool.Decides.{nat_tests}
use Rattle.std.proofs.lemmas.List.{nil_from_length}
use Rattle.tick_set.specs.declared.spans.Span.{Span}
use Rattle.tick_set.specs.Ticks.{within, all_in, LiesIn}
use Rattle.tick_set.specs.Operators.{until_in, until_at, until_within_at, until_after_at, eventually_within_at, eventually_after_at, always_for_at}
use Rattle.tick_set.specs.Runs.{spans_have, IsNormal, IsNormalFrom}
use Rattle.tick_set.proofs.Between.{within_parts, within_from, some_in_found, some_in_at, some_in_none, all_in_at, all_in_from}
use Rattle.tick_set.proofs.RunLemmas.{spans_have-append}
use Rattle.tick_set.proofs.UntilLemmas.{until_in_found, until_in_from}
use Rattle.until_merge.proofs.UntilLemmas.{front_lo}
use Rattle.exact.proofs.Truths.{same_truth}

-- last is the greatest tick that passes
pub record IsLastTick (h : ℕ → Bool) (last : ℕ) : Type 0 where
  pub has : h last ≡ true
  pub greatest : (u : ℕ) → h u ≡ true → u ≤ last

module _ (g h : ℕ → Bool) (lo hi : ℕ) (g_in : LiesIn lo hi g) (h_in : LiesIn lo hi h) where
  -- a goal after the window there is none, and before it nothing leads to one
  pub until_within_window : (c t : ℕ) → until_in g h t (t + c) t ≡ (within lo hi t && until_within_at c g h hi t)
  until_within_window c t =
      same_truth (until_in g h t (t + c) t) (within lo hi t && until_within_at c g h hi t)
      (λ e.
      let l = until_in_found g h t (t + c) t e in
      let goal = within_parts lo hi l.goal (h_in l.goal l.holds) in
      let inside : within lo hi t ≡ true =
      elim (cases_lt t l.goal) [
        | inl before ↦ g_in t (l.guard t (omega arith) before)
        | inr at ↦ within_from lo hi t (omega (arith, l.from, goal.0)) (omega (arith, l.from, goal.1))
      ] in
      and_from (within lo hi t) _ inside
      (until_in_from g h t (min (t + c) hi) t (record { goal = l.goal; from = l.from; upto = omega (arith, l.upto, goal.1); holds = l.holds; guard = l.guard })))
      (λ e.
      let l = until_in_found g h t (min (t + c) hi) t (and_parts (within lo hi t) (until_within_at c g h hi t) e).1 in
      until_in_from g h t (t + c) t (record { goal = l.goal; from = l.from; upto = omega (arith, l.upto); holds = l.holds; guard = l.guard }))

  pub until_in_window : (c t : ℕ) → hi ≤ c → until_in g h t (t + c) t ≡ (within lo hi t && until_at g h hi t)
  until_in_window c t l = until_within_window c t ∙ ap (λ e. within lo hi t && until_in g h t e t) {x = min (t + c) hi} {y = hi} (omega arith)

  -- c ticks of guard and then a tick that leads to a goal, where c is at least 1
  pub held_and_until : (c last t : ℕ) → 0 < c → hi < last →
      ((leb t last && all_in g t (min (t + (c - 1)) last)) && (leb lo t && until_in g h (t + c) (t + c + (last - 1)) (t + c))) ≡ (within lo hi t && until_after_at c g h hi t)
  held_and_until c last t positive below =
      same_truth ((leb t last && all_in g t (min (t + (c - 1)) last)) && (leb lo t && until_in g h (t + c) (t + c + (last - 1)) (t + c))) (within lo hi t && until_after_at c g h hi t)
      (λ e.
      let both = and_parts (leb t last && all_in g t (min (t + (c - 1)) last)) (leb lo t && until_in g h (t + c) (t + c + (last - 1)) (t + c)) e in
      let held = and_parts (leb t last) (all_in g t (min (t + (c - 1)) last)) both.0 in
      let leads = and_parts (leb lo t) (until_in g h (t + c) (t + c + (last - 1)) (t + c)) both.1 in
      let l = until_in_found g h (t + c) (t + c + (last - 1)) (t + c) leads.1 in
      let goal = within_parts lo hi l.goal (h_in l.goal l.holds) in
      let guard : (v : ℕ) → t ≤ v → v < l.goal → g v ≡ true = λ v m n.
      elim (cases_lt v (t + c)) [
        | inl early ↦ all_in_at g t (min (t + (c - 1)) last) held.1 v m (omega (arith, goal.1))
        | inr late ↦ l.guard v late n
      ] in
      and_from (within lo hi t) _ (g_in t (guard t (omega arith) (omega (arith, l.from))))
      (until_in_from g h (t + c) hi t (record { goal = l.goal; from = l.from; upto = goal.1; holds = l.holds; guard = guard })))
      (λ e.
      let parts = and_parts (within lo hi t) (until_after_at c g h hi t) e in
      let inside = within_parts lo hi t parts.0 in
      let l = until_in_found g h (t + c) hi t parts.1 in
      let held : all_in g t (min (t + (c - 1)) last) ≡ true = all_in_from g t (min (t + (c - 1)) last) (λ u m n. l.guard u m (omega (arith, l.from))) in
      let leads : until_in g h (t + c) (t + c + (last - 1)) (t + c) ≡ true =
      until_in_from g h (t + c) (t + c + (last - 1)) (t + c) (record { goal = l.goal; from = l.from; upto = omega (arith, l.upto); holds = l.holds; guard = λ v m n. l.guard v (omega arith) n }) in
      and_from _ _ (and_from (leb t last) _ (le-leb t last (omega (arith, inside.1))) held) (and_from (leb lo t) _ (le-leb lo t inside.0) leads))

module _ (h : ℕ → Bool) (lo hi : ℕ) (h_in : LiesIn lo hi h) where
  -- every tick of the window guards
  pub until_by_window : (g : ℕ → Bool) → ((v : ℕ) → g v ≡ within lo hi v) → (c t : ℕ) → until_in g h t (t + c) t ≡ (within lo hi t && eventually_within_at c h hi t)
  until_by_window g g_is c t =
      until_within_window g h lo hi (λ v e. sym (g_is v) ∙ e) h_in c t
      ∙ same_truth (within lo hi t && until_within_at c g h hi t) (within lo hi t && eventually_within_at c h hi t)
      (λ e.
      let parts = and_parts (within lo hi t) (until_within_at c g h hi t) e in
      let l = until_in_found g h t (min (t + c) hi) t parts.1 in
      and_from (within lo hi t) _ parts.0 (some_in_at h t (min (t + c) hi) l.goal l.from l.upto l.holds))
      (λ e.
      let parts = and_parts (within lo hi t) (eventually_within_at c h hi t) e in
      let inside = within_parts lo hi t parts.0 in
      let s = some_in_found h t (min (t + c) hi) parts.1 in
      and_from (within lo hi t) _ parts.0
      (until_in_from g h t (min (t + c) hi) t (record { goal = s.tick; from = s.from; upto = omega (arith, s.below); holds = s.passes; guard = λ v m n. g_is v ∙ within_from lo hi v (omega arith) (omega (arith, s.below)) })))

  -- what is held lies in the window
  pub held_within : (c t : ℕ) → (leb t hi && all_in h t (min (t + c) hi)) ≡ (within lo hi t && always_for_at c h hi t)
  held_within c t =
      same_truth (leb t hi && all_in h t (min (t + c) hi)) (within lo hi t && always_for_at c h hi t)
      (λ e.
      let parts = and_parts (leb t hi) (all_in h t (min (t + c) hi)) e in
      let first : h t ≡ true = all_in_at h t (min (t + c) hi) parts.1 t (omega arith) (omega (arith, leb-true t hi parts.0)) in
      and_from (within lo hi t) _ (h_in t first) parts.1)
      (λ e.
      let parts = and_parts (within lo hi t) (always_for_at c h hi t) e in
      and_from (leb t hi) _ (le-leb t hi (within_parts lo hi t parts.0).1) parts.1)

  -- only the last tick counts
  module _ (last : ℕ) (is_last : IsLastTick h last) (c : ℕ) where
    pub after_from_last : c ≤ last → (t : ℕ) → within lo (last - c) t ≡ (within lo hi t && eventually_after_at c h hi t)
    after_from_last far t =
        let in_window = within_parts lo hi last (h_in last is_last.has) in
        same_truth (within lo (last - c) t) (within lo hi t && eventually_after_at c h hi t)
        (λ e.
        let parts = within_parts lo (last - c) t e in
        and_from (within lo hi t) _ (within_from lo hi t parts.0 (omega (arith, parts.1, in_window.1))) (some_in_at h (t + c) hi last (omega (arith, parts.1)) in_window.1 is_last.has))
        (λ e.
        let parts = and_parts (within lo hi t) (eventually_after_at c h hi t) e in
        let s = some_in_found h (t + c) hi parts.1 in
        within_from lo (last - c) t (within_parts lo hi t parts.0).0 (omega (arith, s.from, is_last.greatest s.tick s.passes)))

    pub none_after : last < lo + c → (t : ℕ) → false ≡ (within lo hi t && eventually_after_at c h hi t)
    none_after short t = sym (false_from_ne_true (within lo hi t && eventually_after_at c h hi t) (λ e.
        let parts = and_parts (within lo hi t) (eventually_after_at c h hi t) e in
        let s = some_in_found h (t + c) hi parts.1 in
        omega (arith, s.from, is_last.greatest s.tick s.passes, (within_parts lo hi t parts.0).0)))

-- the last tick of the last span
last_has : (front : List Span) (s : Span) → spans_have (front ++ s ∷ []) s.hi ≡ true
last_has front s = let order : s.lo ≤ s.hi = s.ordered in spans_have-append front (s ∷ []) s.hi ∙ or_right (spans_have front s.hi) _ (or_left (within s.lo s.hi s.hi) false (within_from s.lo s.hi s.hi order (omega arith)))

last_greatest_from : (front : List Span) (s : Span) (from u : ℕ) → IsNormalFrom from (front ++ s ∷ []) → spans_have (front ++ s ∷ []) u ≡ true → u ≤ s.hi
last_greatest_from [] s from u h e = elim (or_cases (within s.lo s.hi u) false e) [ inl here ↦ (within_parts s.lo s.hi u here).1 | inr none ↦ absurd (false≢true none) ]
last_greatest_from (x ∷ front) s from u h e =
    elim (or_cases (within x.lo x.hi u) (spans_have (front ++ s ∷ []) u) e) [
      | inl here ↦ let order : s.lo ≤ s.hi = s.ordered in omega (arith, (within_parts x.lo x.hi u here).1, front_lo front s [] (x.hi + 2) h.1)
      | inr past ↦ last_greatest_from front s (x.hi + 2) u h.1 past
    ]

pub last_tick : (spans runs front : List Span) (s : Span) → runs ≡ spans → IsNormal runs → runs ≡ front ++ s ∷ [] → IsLastTick (spans_have spans) s.hi
last_tick spans runs front s same normal e =
    let whole : spans ≡ front ++ s ∷ [] = sym same ∙ e in
    record {
      has = rw whole (last_has front s);
      greatest = λ u h. last_greatest_from front s 0 u (rw e at normal) (rw whole at h);
    }

-- one span as a set
pub one_span : (s : Span) (lo hi : ℕ) → s.lo ≡ lo → s.hi ≡ hi → (v : ℕ) → spans_have (s ∷ []) v ≡ within lo hi v
one_span s lo hi at_lo at_hi v = rw (at_lo, at_hi) (grind (arith, nat_tests))

pub no_spans_after : (spans runs : List Span) (c lo hi : ℕ) → runs ≡ spans → length runs ≡ 0 → (t : ℕ) → false ≡ (within lo hi t && eventually_after_at c (spans_have spans) hi t)
no_spans_after spans runs c lo hi same none t = sym (rw (sym same ∙ nil_from_length runs none) (and_right (within lo hi t) _ (some_in_none (spans_have []) (t + c) hi (λ u l k. refl))))

pub both_same : (x y x' y' : Bool) → x ≡ x' → y ≡ y' → (x && y) ≡ (x' && y')
both_same x y x' y' e f = rw (e, f) refl
