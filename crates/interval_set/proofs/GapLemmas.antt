-- What is left where spans are taken out.
use Rattle.std.proofs.Common.{◌≡◌, ℕ, ◌+◌, ◌-◌, ◌<◌, ◌≤◌, max, true, false, not, ◌&&◌, ◌||◌, leb, ltb, List, [], ◌∷◌, ◌++◌, refl, sym, ◌∙◌, inl, inr, arith}
use Rattle.std.proofs.lemmas.Bool.{false≢true, or_cases, or_left, or_right}
use Rattle.std.proofs.lemmas.Bool.Decides.{nat_tests}
use Rattle.tick_set.specs.declared.spans.Span.{Span}
use Rattle.tick_set.specs.Ticks.{within}
use Rattle.tick_set.specs.Runs.{spans_have, IsNormal, IsNormalFrom}
use Rattle.tick_set.proofs.Between.{within_from}
use Rattle.tick_set.proofs.RunLemmas.{spans_have-below, spans_have-append, IsNormalFrom-weaker}
use Rattle.interval_set.proofs.SpanLemmas.{normal_more, ticks_from}

-- the gaps from lo on that begin before `from` are in made, and the rest is left
pub record GapsSoFar (lo hi : ℕ) (spans made rest : List Span) (from : ℕ) : Type 0 where
  pub normal : IsNormal made
  pub rest_normal : IsNormalFrom (from + 1) rest
  pub apart : (u : ℕ) → spans_have made u ≡ true → u + 2 ≤ from
  pub gaps : (u : ℕ) → (within lo hi u && not (spans_have spans u)) ≡ (spans_have made u || (within from hi u && not (spans_have rest u)))

pub gaps_none : (lo hi : ℕ) (spans whole rest : List Span) (from : ℕ) → lo ≤ from → IsNormalFrom (from + 1) rest → ((u : ℕ) → lo ≤ u → spans_have whole u ≡ spans_have spans u)
    → ((u : ℕ) → lo ≤ u → spans_have whole u ≡ (ltb u from || spans_have rest u)) → GapsSoFar lo hi spans [] rest from
gaps_none lo hi spans whole rest from l normal same ticks = record {
  normal = tt;
  rest_normal = normal;
  apart = λ u e. absurd (false≢true e);
  gaps = λ u. grind (arith, nat_tests, same u, ticks u);
}

module _ (lo hi : ℕ) (spans made rest : List Span) (from : ℕ) (so_far : GapsSoFar lo hi spans made rest from) where
  pub gaps_more : (s : Span) (later : List Span) (r : Span) → rest ≡ s ∷ later → s.lo ≤ hi → r.lo ≡ from → r.hi ≡ s.lo - 1 → GapsSoFar lo hi spans (made ++ r ∷ []) later (s.hi + 1)
  gaps_more s later r begins l lo_is hi_is =
      let order : s.lo ≤ s.hi = s.ordered in
      let normal : (from + 1 ≤ s.lo) × IsNormalFrom (s.hi + 2) later = rw begins at so_far.rest_normal in
      let after : from + 1 ≤ s.lo = normal.0 in
      let in_rest : (u : ℕ) → spans_have rest u ≡ (within s.lo s.hi u || spans_have later u) = λ u. rw begins refl in
      let piece : (u : ℕ) → within r.lo r.hi u ≡ (leb from u && ltb u s.lo) = λ u. rw (lo_is, hi_is) (grind (arith, nat_tests)) in
      let more : (u : ℕ) → spans_have (made ++ r ∷ []) u ≡ (spans_have made u || (leb from u && ltb u s.lo)) = λ u. spans_have-append made (r ∷ []) u ∙ grind (arith, piece u) in
      record {
        normal = normal_more made r so_far.normal (λ u h. rw lo_is (so_far.apart u h));
        rest_normal = IsNormalFrom-weaker (s.hi + 2) (s.hi + 1 + 1) later (omega arith) normal.1;
        apart = λ u h. grind (arith, nat_tests, more u, so_far.apart u);
        gaps = λ u. grind (arith, nat_tests, so_far.gaps u, more u, in_rest u, spans_have-below later (s.hi + 2) u normal.1);
      }

  -- the last gap, after which no span begins by hi
  pub gaps_all : (made' : List Span) → ((u : ℕ) → u ≤ hi → spans_have rest u ≡ false) → ((u : ℕ) → spans_have made' u ≡ (spans_have made u || (leb from u && ltb u (hi + 1))))
      → (u : ℕ) → spans_have made' u ≡ (within lo hi u && not (spans_have spans u))
  gaps_all made' none ticks u = grind (arith, nat_tests, so_far.gaps u, ticks u, none u)

-- what is left before `from` is in made, and the rests are to come
pub record LeftSoFar (first second made rest_first rest_second : List Span) (from : ℕ) : Type 0 where
  pub normal : IsNormal made
  pub first_rest : IsNormal rest_first
  pub second_rest : IsNormalFrom from rest_second
  pub apart : (u v : ℕ) → spans_have made u ≡ true → spans_have rest_first v ≡ true → from ≤ v → u + 2 ≤ v
  pub left : (u : ℕ) → (spans_have first u && not (spans_have second u)) ≡ (spans_have made u || (spans_have rest_first u && leb from u && not (spans_have rest_second u)))

pub left_none : (first second : List Span) → IsNormal first → IsNormal second → LeftSoFar first second [] first second 0
left_none first second f g = record {
  normal = tt;
  first_rest = f;
  second_rest = g;
  apart = λ u v e h l. absurd (false≢true e);
  left = λ u. grind (arith, nat_tests);
}

pub left_all : (first second made rest_first rest_second : List Span) (from : ℕ) → LeftSoFar first second made rest_first rest_second from → rest_first ≡ []
    → (u : ℕ) → spans_have made u ≡ (spans_have first u && not (spans_have second u))
left_all first second made rest_first rest_second from so_far end u = grind (arith, rw end at (so_far.left u))

module _ (first second made rest_first rest_second : List Span) (from : ℕ) (s : Span) (later : List Span) (lo until : ℕ)
    (so_far : LeftSoFar first second made rest_first rest_second from) (begins : rest_first ≡ s ∷ later) (lo_is : lo ≡ max s.lo from) (upto : until ≤ s.hi + 1) where
  in_first : (u : ℕ) → spans_have rest_first u ≡ (within s.lo s.hi u || spans_have later u)
  in_first u = rw begins refl

  first_later : IsNormalFrom (s.hi + 2) later
  first_later = (rw begins at so_far.first_rest).1

  pub left_apart : lo < until → (u : ℕ) → spans_have made u ≡ true → u + 2 ≤ lo
  left_apart l u had =
      so_far.apart u lo had
      (in_first lo ∙ or_left _ (spans_have later lo) (within_from s.lo s.hi lo (omega arith) (omega arith)))
      (omega arith)

  module _ (made' : List Span) (normal : IsNormal made') (ticks : (u : ℕ) → spans_have made' u ≡ (spans_have made u || (leb lo u && ltb u until))) where
    -- a span of the second begins before the first's span ends
    pub left_cut : (t : Span) (later_second : List Span) → rest_second ≡ t ∷ later_second → until ≡ t.lo → t.lo ≤ s.hi → LeftSoFar first second made' rest_first later_second (t.hi + 1)
    left_cut t later_second cuts until_is l =
        let order : t.lo ≤ t.hi = t.ordered in
        let second_normal : (from ≤ t.lo) × IsNormalFrom (t.hi + 2) later_second = rw cuts at so_far.second_rest in
        let reached : from ≤ t.lo = second_normal.0 in
        let in_second : (u : ℕ) → spans_have rest_second u ≡ (within t.lo t.hi u || spans_have later_second u) = λ u. rw cuts refl in
        record {
          normal = normal;
          first_rest = so_far.first_rest;
          second_rest = IsNormalFrom-weaker (t.hi + 2) (t.hi + 1) later_second (omega arith) second_normal.1;
          apart = λ u v h k m.
              elim (or_cases (spans_have made u) (leb lo u && ltb u until) (sym (ticks u) ∙ h)) [
                | inl before ↦ so_far.apart u v before k (omega arith)
                | inr here ↦ grind (arith, nat_tests)
              ];
          left = λ u. grind (arith, nat_tests, so_far.left u, ticks u, in_first u, in_second u, spans_have-below later_second (t.hi + 2) u second_normal.1, spans_have-below later (s.hi + 2) u first_later);
        }

    -- no span of the second begins before the first's span ends
    pub left_whole : until ≡ s.hi + 1 → ((u : ℕ) → u ≤ s.hi → spans_have rest_second u ≡ false) → LeftSoFar first second made' later rest_second from
    left_whole until_is none = record {
      normal = normal;
      first_rest = IsNormalFrom-weaker (s.hi + 2) 0 later (omega arith) first_later;
      second_rest = so_far.second_rest;
      apart = λ u v h k m.
          elim (or_cases (spans_have made u) (leb lo u && ltb u until) (sym (ticks u) ∙ h)) [
            | inl before ↦ so_far.apart u v before (in_first v ∙ or_right (within s.lo s.hi v) _ k) m
            | inr here ↦ let past : s.hi + 2 ≤ v = ticks_from later (s.hi + 2) v first_later k in grind (arith, nat_tests)
          ];
      left = λ u. grind (arith, nat_tests, so_far.left u, ticks u, in_first u, none u);
    }
