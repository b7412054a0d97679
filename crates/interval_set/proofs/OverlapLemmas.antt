-- What two lists of spans share, and what a list and a window share.
use Rattle.std.proofs.Common.{◌≡◌, ℕ, ◌+◌, ◌<◌, ◌≤◌, min, max, true, false, ◌&&◌, ◌||◌, leb, ltb, List, [], ◌∷◌, ◌++◌, refl, sym, ◌∙◌, inl, inr, ◌⊎◌, arith}
use Rattle.std.proofs.lemmas.Bool.{false≢true, or_cases, or_left, or_right}
use Rattle.std.proofs.lemmas.Bool.Decides.{nat_tests}
use Rattle.tick_set.specs.declared.spans.Span.{Span}
use Rattle.tick_set.specs.Ticks.{within}
use Rattle.tick_set.specs.Runs.{spans_have, IsNormal, IsNormalFrom}
use Rattle.tick_set.proofs.Between.{within_from, within_parts}
use Rattle.tick_set.proofs.RunLemmas.{spans_have-below, spans_have-append, IsNormalFrom-weaker}
use Rattle.interval_set.specs.Cursor.{EndsFrom}
use Rattle.interval_set.proofs.SpanLemmas.{ends_later, normal_more, ticks_from}

-- what the spans that are done share is in made, and the rests are left
pub record MetSoFar (first second made rest_first rest_second : List Span) : Type 0 where
  pub normal : IsNormal made
  pub first_rest : IsNormal rest_first
  pub second_rest : IsNormal rest_second
  pub apart : (u v : ℕ) → spans_have made u ≡ true → spans_have rest_first v ≡ true → spans_have rest_second v ≡ true → u + 2 ≤ v
  pub met : (u : ℕ) → (spans_have first u && spans_have second u) ≡ (spans_have made u || (spans_have rest_first u && spans_have rest_second u))

pub met_none : (first second : List Span) → IsNormal first → IsNormal second → MetSoFar first second [] first second
met_none first second f g = record { normal = tt; first_rest = f; second_rest = g; apart = λ u v e h k. absurd (false≢true e); met = λ u. refl }

pub met_all : (first second made rest_first rest_second : List Span) → MetSoFar first second made rest_first rest_second → (rest_first ≡ []) ⊎ (rest_second ≡ [])
    → (u : ℕ) → spans_have made u ≡ (spans_have first u && spans_have second u)
met_all first second made rest_first rest_second so_far end u =
    elim end [
      | inl e ↦ sym (so_far.met u ∙ rw e (grind arith))
      | inr e ↦ sym (so_far.met u ∙ rw e (grind arith))
    ]

module _ (first second made rest_first rest_second : List Span) (s t : Span) (later_first later_second : List Span) (lo until : ℕ) (so_far : MetSoFar first second made rest_first rest_second)
    (first_begins : rest_first ≡ s ∷ later_first) (second_begins : rest_second ≡ t ∷ later_second) (lo_is : lo ≡ max s.lo t.lo) (until_is : until ≡ min s.hi t.hi + 1) where
  first_later : IsNormalFrom (s.hi + 2) later_first
  first_later = (rw first_begins at so_far.first_rest).1

  second_later : IsNormalFrom (t.hi + 2) later_second
  second_later = (rw second_begins at so_far.second_rest).1

  in_first : (u : ℕ) → spans_have rest_first u ≡ (within s.lo s.hi u || spans_have later_first u)
  in_first u = rw first_begins refl

  in_second : (u : ℕ) → spans_have rest_second u ≡ (within t.lo t.hi u || spans_have later_second u)
  in_second u = rw second_begins refl

  piece : (u : ℕ) → (leb lo u && ltb u until) ≡ (within s.lo s.hi u && within t.lo t.hi u)
  piece u = rw (lo_is, until_is) (grind (arith, nat_tests))

  pub met_apart : lo < until → (u : ℕ) → spans_have made u ≡ true → u + 2 ≤ lo
  met_apart l u had =
      so_far.apart u lo had
      (in_first lo ∙ or_left _ (spans_have later_first lo) (within_from s.lo s.hi lo (omega arith) (omega arith)))
      (in_second lo ∙ or_left _ (spans_have later_second lo) (within_from t.lo t.hi lo (omega arith) (omega arith)))

  module _ (made' : List Span) (normal : IsNormal made') (ticks : (u : ℕ) → spans_have made' u ≡ (spans_have made u || (leb lo u && ltb u until))) where
    -- the first list's span ends first, so it shares nothing with what comes later
    pub met_first : s.hi < t.hi → MetSoFar first second made' later_first rest_second
    met_first l = record {
      normal = normal;
      first_rest = IsNormalFrom-weaker (s.hi + 2) 0 later_first (omega arith) first_later;
      second_rest = so_far.second_rest;
      apart = λ u v h k m.
          elim (or_cases (spans_have made u) (leb lo u && ltb u until) (sym (ticks u) ∙ h)) [
            | inl before ↦ so_far.apart u v before (in_first v ∙ or_right (within s.lo s.hi v) _ k) m
            | inr here ↦ let past : s.hi + 2 ≤ v = ticks_from later_first (s.hi + 2) v first_later k in grind (arith, nat_tests)
          ];
      met = λ u.
          let alone : (within s.lo s.hi u && spans_have later_second u) ≡ false = grind (arith, nat_tests, spans_have-below later_second (t.hi + 2) u second_later) in
          grind (arith, so_far.met u, ticks u, piece u, in_first u, in_second u, alone);
    }

    pub met_second : t.hi ≤ s.hi → MetSoFar first second made' rest_first later_second
    met_second l = record {
      normal = normal;
      first_rest = so_far.first_rest;
      second_rest = IsNormalFrom-weaker (t.hi + 2) 0 later_second (omega arith) second_later;
      apart = λ u v h k m.
          elim (or_cases (spans_have made u) (leb lo u && ltb u until) (sym (ticks u) ∙ h)) [
            | inl before ↦ so_far.apart u v before k (in_second v ∙ or_right (within t.lo t.hi v) _ m)
            | inr here ↦ let past : t.hi + 2 ≤ v = ticks_from later_second (t.hi + 2) v second_later m in grind (arith, nat_tests)
          ];
      met = λ u.
          let alone : (within t.lo t.hi u && spans_have later_first u) ≡ false = grind (arith, nat_tests, spans_have-below later_first (s.hi + 2) u first_later) in
          grind (arith, so_far.met u, ticks u, piece u, in_first u, in_second u, alone);
    }

-- the spans that are done are cut to the window in made, and the rest is left
pub record ClippedSoFar (lo hi : ℕ) (spans made rest : List Span) : Type 0 where
  pub normal : IsNormal made
  pub rest_normal : IsNormal rest
  pub ends : EndsFrom lo rest
  pub apart : (u v : ℕ) → spans_have made u ≡ true → spans_have rest v ≡ true → u + 2 ≤ v
  pub clipped : (u : ℕ) → (within lo hi u && spans_have spans u) ≡ (spans_have made u || (within lo hi u && spans_have rest u))

pub clipped_none : (lo hi : ℕ) (spans rest : List Span) → IsNormal rest → EndsFrom lo rest → ((u : ℕ) → lo ≤ u → spans_have rest u ≡ spans_have spans u) → ClippedSoFar lo hi spans [] rest
clipped_none lo hi spans rest normal ends same = record {
  normal = tt;
  rest_normal = normal;
  ends = ends;
  apart = λ u v e h. absurd (false≢true e);
  clipped = λ u. grind (arith, nat_tests, same u);
}

pub clipped_all : (lo hi : ℕ) (spans made rest : List Span) → ClippedSoFar lo hi spans made rest → ((u : ℕ) → u ≤ hi → spans_have rest u ≡ false) → (u : ℕ) → spans_have made u ≡ (within lo hi u && spans_have spans u)
clipped_all lo hi spans made rest so_far none u = grind (arith, nat_tests, so_far.clipped u, none u)

module _ (lo hi : ℕ) (spans made rest : List Span) (s : Span) (later : List Span) (so_far : ClippedSoFar lo hi spans made rest) (begins : rest ≡ s ∷ later) where
  ends_in : lo ≤ s.hi
  ends_in = rw begins at so_far.ends

  pub clipped_more : (r : Span) → r.lo ≡ max s.lo lo → r.hi ≡ min s.hi hi → ClippedSoFar lo hi spans (made ++ r ∷ []) later
  clipped_more r lo_is hi_is =
      let order : s.lo ≤ s.hi = s.ordered in
      let past : IsNormalFrom (s.hi + 2) later = (rw begins at so_far.rest_normal).1 in
      let in_rest : (u : ℕ) → spans_have rest u ≡ (within s.lo s.hi u || spans_have later u) = λ u. rw begins refl in
      let has_start : spans_have rest s.lo ≡ true = in_rest s.lo ∙ or_left _ (spans_have later s.lo) (within_from s.lo s.hi s.lo (omega arith) order) in
      let more : (u : ℕ) → spans_have (made ++ r ∷ []) u ≡ (spans_have made u || within r.lo r.hi u) = λ u. spans_have-append made (r ∷ []) u ∙ grind arith in
      let piece : (u : ℕ) → within r.lo r.hi u ≡ (within lo hi u && within s.lo s.hi u) = λ u. rw (lo_is, hi_is) (grind (arith, nat_tests)) in
      record {
        normal = normal_more made r so_far.normal (λ u h. omega (arith, so_far.apart u s.lo h has_start));
        rest_normal = IsNormalFrom-weaker (s.hi + 2) 0 later (omega arith) past;
        ends = ends_later later lo (s.hi + 2) (omega (arith, ends_in)) past;
        apart = λ u v h k.
            elim (or_cases (spans_have made u) (within r.lo r.hi u) (sym (more u) ∙ h)) [
              | inl before ↦ so_far.apart u v before (in_rest v ∙ or_right (within s.lo s.hi v) _ k)
              | inr here ↦ omega (arith, hi_is, (within_parts r.lo r.hi u here).1, ticks_from later (s.hi + 2) v past k)
            ];
        clipped = λ u. grind (arith, so_far.clipped u, more u, piece u, in_rest u);
      }

-- ---- whether two lists of spans share a tick
-- what they share is in what is left of them
pub record SharedSoFar (first second rest_first rest_second : List Span) : Type 0 where
  pub first_rest : IsNormal rest_first
  pub second_rest : IsNormal rest_second
  pub shared : (u : ℕ) → (spans_have first u && spans_have second u) ≡ (spans_have rest_first u && spans_have rest_second u)

-- a span that ends before the first of a list shares nothing with it
ends_before : (s t : Span) (later : List Span) → IsNormal (t ∷ later) → s.hi < t.lo → (u : ℕ) → (within s.lo s.hi u && spans_have (t ∷ later) u) ≡ false
ends_before s t later h l u =
    let begins : IsNormalFrom t.lo (t ∷ later) = (omega arith, h.1) in
    grind (arith, nat_tests, spans_have-below (t ∷ later) t.lo u begins)

module _ (first second rest_first rest_second : List Span) (s t : Span) (later_first later_second : List Span) (so_far : SharedSoFar first second rest_first rest_second)
    (first_begins : rest_first ≡ s ∷ later_first) (second_begins : rest_second ≡ t ∷ later_second) where
  here : IsNormal (s ∷ later_first)
  here = rw first_begins at so_far.first_rest

  there : IsNormal (t ∷ later_second)
  there = rw second_begins at so_far.second_rest

  pub shared_now : s.lo ≤ t.hi → t.lo ≤ s.hi → (u : ℕ) × ((spans_have first u && spans_have second u) ≡ true)
  shared_now h k =
      let s_ordered : s.lo ≤ s.hi = s.ordered in
      let t_ordered : t.lo ≤ t.hi = t.ordered in
      let in_s : within s.lo s.hi (max s.lo t.lo) ≡ true = within_from s.lo s.hi (max s.lo t.lo) (omega arith) (omega arith) in
      let in_t : within t.lo t.hi (max s.lo t.lo) ≡ true = within_from t.lo t.hi (max s.lo t.lo) (omega arith) (omega arith) in
      (max s.lo t.lo, so_far.shared (max s.lo t.lo) ∙ rw (first_begins, second_begins) (grind (arith, in_s, in_t)))

  pub shared_past_first : s.hi < t.lo → SharedSoFar first second later_first rest_second
  shared_past_first l = record {
    first_rest = IsNormalFrom-weaker (s.hi + 2) 0 later_first (omega arith) here.1;
    second_rest = so_far.second_rest;
    shared = λ u. so_far.shared u ∙ rw (first_begins, second_begins) (grind (arith, ends_before s t later_second there l u));
  }

  pub shared_past_second : t.hi < s.lo → SharedSoFar first second rest_first later_second
  shared_past_second l = record {
    first_rest = so_far.first_rest;
    second_rest = IsNormalFrom-weaker (t.hi + 2) 0 later_second (omega arith) there.1;
    shared = λ u. so_far.shared u ∙ rw (first_begins, second_begins) (grind (arith, ends_before t s later_first here l u));
  }

-- of two spans that don't meet, the one that ends first lies before the other
pub ends_first : (s t : Span) → t.hi < s.lo → s.hi ≤ t.hi → s.hi < t.lo
ends_first s t h l = let order : s.lo ≤ s.hi = s.ordered in omega arith

pub ends_second : (s t : Span) → s.hi < t.lo → t.hi < s.hi → t.hi < s.lo
ends_second s t h l = let order : t.lo ≤ t.hi = t.ordered in omega arith
