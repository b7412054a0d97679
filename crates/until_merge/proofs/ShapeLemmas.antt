-- Spans moved and made shorter.
use Rattle.std.proofs.Common.{◌≡◌, ℕ, ◌+◌, ◌-◌, ◌<◌, ◌≤◌, min, max, Bool, true, false, ◌&&◌, ◌||◌, eqb, leb, if◌then◌else◌, List, [], ◌∷◌, ◌++◌, length, refl, sym, ap, ◌∙◌, inl, inr, arith}
use Rattle.std.proofs.lemmas.Bool.{both_ways, cases_eq, cases_lt, or_cases, and_parts, and_from, leb-true, le-leb, lt-leb, and_right, or_left, false_from_ne_true}
use Rattle.std.proofs.lemmas.Bool.Decides.{nat_tests}
use Rattle.std.proofs.lemmas.List.{nil_from_length}
use Rattle.tick_set.specs.declared.spans.Span.{Span}
use Rattle.tick_set.specs.Ticks.{within, all_in}
use Rattle.tick_set.specs.Runs.{spans_have, IsNormal, IsNormalFrom}
use Rattle.tick_set.proofs.Between.{within_parts, within_from, all_in_at, all_in_from, all_in_fails, all_in_same}
use Rattle.tick_set.proofs.RunLemmas.{spans_have-below, spans_have-append, IsNormalFrom-push, IsNormalFrom-weaker}

-- the spans that are done are in made, and the rest is left
pub record MovedSoFar (c lo : ℕ) (spans made rest : List Span) : Type 0 where
  pub normal : IsNormal made
  pub later : IsNormal rest
  pub apart : (u v : ℕ) → spans_have made u ≡ true → spans_have rest v ≡ true → u + c + 2 ≤ v
  pub moved : (t : ℕ) → (leb lo t && spans_have spans (t + c)) ≡ (spans_have made t || (leb lo t && spans_have rest (t + c)))

module _ (c lo : ℕ) (spans made rest : List Span) (s : Span) (later : List Span) (so_far : MovedSoFar c lo spans made rest) (first : rest ≡ s ∷ later) where
  rest_normal : IsNormalFrom (s.hi + 2) later
  rest_normal = (rw first at so_far.later).1

  later_normal : IsNormal later
  later_normal = IsNormalFrom-weaker (s.hi + 2) 0 later (omega arith) rest_normal

  in_rest : (v : ℕ) → spans_have rest v ≡ (within s.lo s.hi v || spans_have later v)
  in_rest v = rw first refl

  -- the span goes where it ends before lo
  pub moved_drops : s.hi < lo + c → MovedSoFar c lo spans made later
  moved_drops l = record {
    normal = so_far.normal;
    later = later_normal;
    apart = λ u v h k. so_far.apart u v h (grind (arith, in_rest v));
    moved = λ t. so_far.moved t ∙ grind (arith, nat_tests, in_rest (t + c));
  }

  apart_later : (u v : ℕ) → u + c ≤ s.hi → spans_have later v ≡ true → u + c + 2 ≤ v
  apart_later u v h k =
      elim (cases_lt v (s.hi + 2)) [
        | inl below ↦ absurd (both_ways _ (spans_have-below later (s.hi + 2) v rest_normal below) k)
        | inr past ↦ omega arith
      ]

  first_in_rest : spans_have rest s.lo ≡ true
  first_in_rest = let order : s.lo ≤ s.hi = s.ordered in grind (arith, in_rest s.lo, within_from s.lo s.hi s.lo)

  -- else it is moved
  module _ (r : Span) (lo_is : r.lo ≡ max (s.lo - c) lo) (hi_is : r.hi ≡ s.hi - c) (far : c ≤ s.hi) where
    within_moved : (t : ℕ) → within r.lo r.hi t ≡ (leb lo t && within s.lo s.hi (t + c))
    within_moved t = rw (lo_is, hi_is) (grind (arith, nat_tests))

    pub moved_keeps : MovedSoFar c lo spans (made ++ r ∷ []) later
    moved_keeps = record {
      normal = IsNormalFrom-push made 0 r so_far.normal (λ u h. omega (arith, so_far.apart u s.lo h first_in_rest)) (omega arith);
      later = later_normal;
      apart = λ u v h k.
          elim (or_cases (spans_have made u) (within r.lo r.hi u) (grind (arith, h, spans_have-append made (r ∷ []) u))) [
            | inl before ↦ so_far.apart u v before (grind (arith, in_rest v))
            | inr here ↦ apart_later u v (omega (arith, (within_parts r.lo r.hi u here).1)) k
          ];
      moved = λ t. so_far.moved t ∙ grind (arith, in_rest (t + c), spans_have-append made (r ∷ []) t, within_moved t);
    }

-- t is no later than last, and the spans have all ticks from it on up to c later, but none after last
abbrev pub is_held : List Span → ℕ → ℕ → ℕ → Bool
is_held spans c last t = leb t last && all_in (spans_have spans) t (min (t + c) last)

pub record HeldSoFar (c last : ℕ) (spans made rest : List Span) : Type 0 where
  pub normal : IsNormal made
  pub later : IsNormal rest
  pub ends : (t : ℕ) → spans_have rest t ≡ true → t ≤ last
  pub apart : (u v : ℕ) → spans_have made u ≡ true → spans_have rest v ≡ true → u + 2 ≤ v
  pub held : (t : ℕ) → is_held spans c last t ≡ (spans_have made t || is_held rest c last t)

-- t itself is in the spans
held_has : (spans : List Span) (c last t : ℕ) → is_held spans c last t ≡ true → spans_have spans t ≡ true
held_has spans c last t h =
    let parts = and_parts (leb t last) (all_in (spans_have spans) t (min (t + c) last)) h in
    all_in_at (spans_have spans) t (min (t + c) last) parts.1 t (omega arith) (omega (arith, leb-true t last parts.0))

module _ (c last : ℕ) (s : Span) (later : List Span) (normal : IsNormal (s ∷ later)) (end : s.hi ≤ last) (t : ℕ) where
  -- before the first span and in it, what comes later is not held
  later_not_held : t ≤ s.hi → is_held later c last t ≡ false
  later_not_held l = false_from_ne_true (is_held later c last t) (λ h.
      both_ways (spans_have later t) (spans_have-below later (s.hi + 2) t normal.1 (omega arith)) (held_has later c last t h))

  held_before : t < s.lo → is_held (s ∷ later) c last t ≡ false
  held_before l = false_from_ne_true (is_held (s ∷ later) c last t) (λ h.
      let begins : IsNormalFrom s.lo (s ∷ later) = (omega arith, normal.1) in
      both_ways (spans_have (s ∷ later) t) (spans_have-below (s ∷ later) s.lo t begins l) (held_has (s ∷ later) c last t h))

  -- past it, the first span does not count
  held_after : s.hi < t → is_held (s ∷ later) c last t ≡ is_held later c last t
  held_after l = ap (λ x. leb t last && x) (all_in_same (spans_have (s ∷ later)) (spans_have later) t (min (t + c) last) (λ u k m. grind (arith, nat_tests)))

  -- in it, the span has to reach far enough
  held_inside : s.lo ≤ t → t ≤ s.hi → is_held (s ∷ later) c last t ≡ leb (min (t + c) last) s.hi
  held_inside l k =
      elim (cases_lt s.hi (min (t + c) last)) [
        | inl short ↦
            let gap : spans_have (s ∷ later) (s.hi + 1) ≡ false = grind (arith, nat_tests, spans_have-below later (s.hi + 2) (s.hi + 1) normal.1) in
            and_right (leb t last) _ (all_in_fails (spans_have (s ∷ later)) t (min (t + c) last) (s.hi + 1) (omega arith) (omega arith) gap) ∙ sym (lt-leb _ _ short)
        | inr far ↦
            let inside : (u : ℕ) → t ≤ u → u ≤ min (t + c) last → spans_have (s ∷ later) u ≡ true = λ u m n. or_left (within s.lo s.hi u) (spans_have later u) (within_from s.lo s.hi u (omega arith) (omega arith)) in
            and_from (leb t last) _ (le-leb t last (omega arith)) (all_in_from (spans_have (s ∷ later)) t (min (t + c) last) inside) ∙ sym (le-leb _ _ far)
      ]

  -- so what is held of the spans is a piece of the first, and what is held of the others
  held_piece : (hi : ℕ) → hi ≤ s.hi → (s.lo ≤ t → t ≤ s.hi → leb (min (t + c) last) s.hi ≡ leb t hi) → is_held (s ∷ later) c last t ≡ (within s.lo hi t || is_held later c last t)
  held_piece hi l reach =
      elim (cases_lt t s.lo) [
        | inl before ↦ held_before before ∙ rw (later_not_held (omega (arith, s.ordered))) (grind (arith, nat_tests))
        | inr from ↦ elim (cases_lt s.hi t) [
          | inl after ↦ held_after after ∙ grind (arith, nat_tests)
          | inr upto ↦ held_inside from upto ∙ rw (later_not_held upto) (grind (arith, nat_tests, reach from upto))
        ]
      ]

  held_none : s.hi < last → s.hi < s.lo + c → is_held (s ∷ later) c last t ≡ is_held later c last t
  held_none l k =
      elim (cases_lt t s.lo) [
        | inl before ↦ held_before before ∙ sym (later_not_held (omega (arith, s.ordered)))
        | inr from ↦ elim (cases_lt s.hi t) [
          | inl after ↦ held_after after
          | inr upto ↦ held_inside from upto ∙ lt-leb _ _ (omega arith) ∙ sym (later_not_held upto)
        ]
      ]

module _ (c last : ℕ) (spans made rest : List Span) (s : Span) (later : List Span) (so_far : HeldSoFar c last spans made rest) (first : rest ≡ s ∷ later) where
  held_normal : IsNormal (s ∷ later)
  held_normal = rw first at so_far.later

  held_in_rest : (v : ℕ) → spans_have rest v ≡ (within s.lo s.hi v || spans_have later v)
  held_in_rest v = rw first refl

  held_first_in_rest : spans_have rest s.lo ≡ true
  held_first_in_rest = let order : s.lo ≤ s.hi = s.ordered in grind (arith, held_in_rest s.lo, within_from s.lo s.hi s.lo)

  held_end : s.hi ≤ last
  held_end = let order : s.lo ≤ s.hi = s.ordered in so_far.ends s.hi (grind (arith, held_in_rest s.hi, within_from s.lo s.hi s.hi))

  below_last : (s.hi ≡ last → ⊥) → s.hi < last
  below_last ne = omega (arith, ne, held_end)

  held_drops : (s.hi ≡ last → ⊥) → s.hi < s.lo + c → HeldSoFar c last spans made later
  held_drops ne k = record {
    normal = so_far.normal;
    later = IsNormalFrom-weaker (s.hi + 2) 0 later (omega arith) held_normal.1;
    ends = λ t h. so_far.ends t (grind (arith, held_in_rest t));
    apart = λ u v h m. so_far.apart u v h (grind (arith, held_in_rest v));
    held = λ t. so_far.held t ∙ ap (λ x. spans_have made t || x) (rw first (held_none c last s later held_normal held_end t (below_last ne) k));
  }

  held_keeps : (r : Span) → r.lo ≡ s.lo → r.hi ≤ s.hi → ((t : ℕ) → s.lo ≤ t → t ≤ s.hi → leb (min (t + c) last) s.hi ≡ leb t r.hi) → HeldSoFar c last spans (made ++ r ∷ []) later
  held_keeps r lo l reach =
      let piece : (t : ℕ) → is_held rest c last t ≡ (within r.lo r.hi t || is_held later c last t) = λ t. rw (first, lo) (held_piece c last s later held_normal held_end t r.hi l (reach t)) in
      record {
        normal = IsNormalFrom-push made 0 r so_far.normal (λ u h. omega (arith, so_far.apart u s.lo h held_first_in_rest)) (omega arith);
        later = IsNormalFrom-weaker (s.hi + 2) 0 later (omega arith) held_normal.1;
        ends = λ t h. so_far.ends t (grind (arith, held_in_rest t));
        apart = λ u v h m.
            elim (or_cases (spans_have made u) (within r.lo r.hi u) (grind (arith, h, spans_have-append made (r ∷ []) u))) [
              | inl before ↦ so_far.apart u v before (grind (arith, held_in_rest v))
              | inr here ↦ elim (cases_lt v (s.hi + 2)) [
                | inl below ↦ absurd (both_ways _ (spans_have-below later (s.hi + 2) v held_normal.1 below) m)
                | inr past ↦ omega (arith, (within_parts r.lo r.hi u here).1)
              ]
            ];
        held = λ t. so_far.held t ∙ grind (arith, piece t, spans_have-append made (r ∷ []) t);
      }

  held_cuts : (r : Span) → r.lo ≡ s.lo → r.hi ≡ s.hi - c → c ≤ s.hi - s.lo → (s.hi ≡ last → ⊥) → HeldSoFar c last spans (made ++ r ∷ []) later
  held_cuts r lo hi far ne =
      let below = below_last ne in
      held_keeps r lo (omega arith) (λ t l k. rw hi (grind (arith, nat_tests)))

  -- the step of the walk, where the run loses its last `cut` ticks
  pub held_more : (r : Span) (cut : ℕ) → cut ≡ (if eqb s.hi last then 0 else c) → r.lo ≡ s.lo → r.hi ≡ s.hi - cut → cut ≤ s.hi - s.lo → HeldSoFar c last spans (made ++ r ∷ []) later
  held_more r cut cut_is lo hi far =
      elim (cases_eq s.hi last) [
        | inl whole ↦ held_keeps r lo (omega arith) (λ t l k. grind (arith, nat_tests, cut_is, hi))
        | inr ends ↦ let cut_c : cut ≡ c = grind (arith, nat_tests, cut_is) in held_cuts r lo (rw (← cut_c) hi) (omega arith) ends
      ]

  pub held_no_more : (cut : ℕ) → cut ≡ (if eqb s.hi last then 0 else c) → s.hi - s.lo < cut → HeldSoFar c last spans made later
  held_no_more cut cut_is short =
      elim (cases_eq s.hi last) [
        | inl whole ↦ absurd (let none : cut ≡ 0 = grind (arith, nat_tests, cut_is) in omega arith)
        | inr ends ↦ let cut_c : cut ≡ c = grind (arith, nat_tests, cut_is) in held_drops ends (omega arith)
      ]

held_nothing : (c last t : ℕ) → is_held [] c last t ≡ false
held_nothing c last t = false_from_ne_true (is_held [] c last t) (λ h. both_ways false refl (held_has [] c last t h))

pub held_all : (c last : ℕ) (spans made rest : List Span) → HeldSoFar c last spans made rest → length rest ≡ 0 → (t : ℕ) → spans_have made t ≡ is_held spans c last t
held_all c last spans made rest so_far e t =
    let none : is_held rest c last t ≡ false = rw (nil_from_length rest e) (held_nothing c last t) in
    grind (arith, so_far.held t, none)
