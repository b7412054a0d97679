-- Two lists of spans merged into one.
use Rattle.std.proofs.Common.{◌≡◌, ℕ, suc, ◌+◌, ◌<◌, ◌≤◌, true, false, ◌||◌, List, [], ◌∷◌, ◌++◌, length, get_or, refl, ap, sym, ◌∙◌, inl, inr, arith}
use Rattle.std.specs.List.{list_any}
use Rattle.std.specs.List.Sorted.{IsNonDecreasingBy, IsPermutation}
use Rattle.std.proofs.lemmas.List.Sorted.{list_any-IsPermutation}
use Rattle.interval_set.specs.Cursor.{BeginFrom}
use Rattle.std.proofs.lemmas.Bool.{false≢true, both_ways, or_cases, cases_lt}
use Rattle.std.proofs.lemmas.Bool.Decides.{nat_tests}
use Rattle.tick_set.specs.declared.spans.Span.{Span}
use Rattle.tick_set.specs.Ticks.{within}
use Rattle.tick_set.specs.Runs.{spans_have, IsNormal, IsNormalFrom}
use Rattle.tick_set.proofs.RunLemmas.{spans_have-below, spans_have-append, IsNormalFrom-push, IsNormalFrom-weaker}
use Rattle.tick_set.proofs.JoinLemmas.{ticks_pushed}

-- the spans that are done are in made, run may still grow, and the rests begin no earlier than it
pub record MergedSoFar (first second made : List Span) (run : Span) (rest_first rest_second : List Span) : Type 0 where
  pub normal : IsNormal made
  pub apart : (u : ℕ) → spans_have made u ≡ true → u + 2 ≤ run.lo
  pub first_rest : IsNormalFrom run.lo rest_first
  pub second_rest : IsNormalFrom run.lo rest_second
  pub merged : (u : ℕ) → (spans_have first u || spans_have second u) ≡ (spans_have made u || within run.lo run.hi u || spans_have rest_first u || spans_have rest_second u)

pub merged_none : (first second later_first later_second : List Span) (run : Span) → IsNormalFrom run.lo later_first → IsNormalFrom run.lo later_second
    → ((u : ℕ) → (spans_have first u || spans_have second u) ≡ (within run.lo run.hi u || spans_have later_first u || spans_have later_second u))
    → MergedSoFar first second [] run later_first later_second
merged_none first second later_first later_second run f g taken = record {
  normal = tt;
  apart = λ u e. absurd (false≢true e);
  first_rest = f;
  second_rest = g;
  merged = λ u. grind (arith, taken u);
}

module _ (first second made : List Span) (run : Span) (rest_first rest_second : List Span) (so_far : MergedSoFar first second made run rest_first rest_second) where
  -- the next span begins no earlier than the run
  pub next_after : (s : Span) → (spans_have rest_first s.lo || spans_have rest_second s.lo) ≡ true → run.lo ≤ s.lo
  next_after s had =
      elim (cases_lt s.lo run.lo) [
        | inl below ↦ elim (or_cases (spans_have rest_first s.lo) (spans_have rest_second s.lo) had) [
          | inl f ↦ absurd (both_ways _ (spans_have-below rest_first run.lo s.lo so_far.first_rest below) f)
          | inr g ↦ absurd (both_ways _ (spans_have-below rest_second run.lo s.lo so_far.second_rest below) g)
        ]
        | inr from ↦ from
      ]

  pub merged_more : (s : Span) (later_first later_second made' : List Span) (run' : Span)
      → IsNormalFrom s.lo later_first → IsNormalFrom s.lo later_second
      → ((u : ℕ) → (spans_have rest_first u || spans_have rest_second u) ≡ (within s.lo s.hi u || spans_have later_first u || spans_have later_second u))
      → IsNormal made' → ((u : ℕ) → spans_have made' u ≡ true → u + 2 ≤ run'.lo) → run'.lo ≤ s.lo
      → ((u : ℕ) → (spans_have made' u || within run'.lo run'.hi u) ≡ (spans_have made u || within run.lo run.hi u || within s.lo s.hi u))
      → MergedSoFar first second made' run' later_first later_second
  merged_more s later_first later_second made' run' f g taken normal apart lo grown = record {
    normal = normal;
    apart = apart;
    first_rest = IsNormalFrom-weaker s.lo run'.lo later_first lo f;
    second_rest = IsNormalFrom-weaker s.lo run'.lo later_second lo g;
    merged = λ u. so_far.merged u ∙ grind (arith, taken u, grown u);
  }

  -- at the end the run is done too
  pub merged_normal : IsNormal (made ++ run ∷ [])
  merged_normal = IsNormalFrom-push made 0 run so_far.normal so_far.apart (omega arith)

  pub merged_ticks : rest_first ≡ [] → rest_second ≡ [] → (u : ℕ) → spans_have (made ++ run ∷ []) u ≡ (spans_have first u || spans_have second u)
  merged_ticks e f u = grind (arith, spans_have-append made (run ∷ []) u, rw (e, f) at (so_far.merged u))

pub grown_apart : (made : List Span) (run s : Span) → ((u : ℕ) → spans_have made u ≡ true → u + 2 ≤ run.lo) → run.hi + 1 < s.lo → (u : ℕ) → spans_have (made ++ run ∷ []) u ≡ true → u + 2 ≤ s.lo
grown_apart made run s apart past u had =
    let order : run.lo ≤ run.hi = run.ordered in
    grind (arith, nat_tests, apart u, ticks_pushed made run u)

-- the span that begins first, taken out of its list
pub earliest_taken : (rest later : List Span) (s : Span) → IsNormal rest → rest ≡ s ∷ later → IsNormalFrom s.lo later
earliest_taken rest later s h e = let order : s.lo ≤ s.hi = s.ordered in IsNormalFrom-weaker (s.hi + 2) s.lo later (omega arith) (rw e at h).1

pub earliest_kept : (rest later : List Span) (s : Span) (lo : ℕ) → IsNormal rest → rest ≡ s ∷ later → lo ≤ s.lo → IsNormalFrom lo rest
earliest_kept rest later s lo h e l = rw e (l, (rw e at h).1)

pub none_kept : (rest : List Span) (from : ℕ) → length rest ≡ 0 → IsNormalFrom from rest
none_kept [] from none = tt
none_kept (s ∷ later) from none = absurd (omega arith)

pub grown_both : (made : List Span) (run s : Span) (u : ℕ) → (spans_have (made ++ run ∷ []) u || within s.lo s.hi u) ≡ (spans_have made u || within run.lo run.hi u || within s.lo s.hi u)
grown_both made run s u = grind (arith, ticks_pushed made run u)

-- ---- spans in the order of their first ticks
none_have : (rest : List Span) (u : ℕ) → length rest ≡ 0 → spans_have rest u ≡ false
none_have [] u e = refl
none_have (s ∷ later) u e = absurd (omega arith)

-- the spans that are done are in made, run may still grow, and the rest begins no earlier than it
pub record JoinedSoFar (spans made : List Span) (run : Span) (rest : List Span) : Type 0 where
  pub normal : IsNormal made
  pub apart : (u : ℕ) → spans_have made u ≡ true → u + 2 ≤ run.lo
  pub begins : BeginFrom run.lo rest
  pub ticks : (u : ℕ) → spans_have spans u ≡ (spans_have made u || within run.lo run.hi u || spans_have rest u)

begin_later : (from at : ℕ) (spans : List Span) → from ≤ at → BeginFrom at spans → BeginFrom from spans
begin_later from at [] l h = tt
begin_later from at (s ∷ rest) l h = (omega (arith, h.0), h.1)

pub joined_none : (spans later : List Span) (s : Span) → spans ≡ s ∷ later → BeginFrom 0 spans → JoinedSoFar spans [] s later
joined_none spans later s e h = record {
  normal = tt;
  apart = λ u k. absurd (false≢true k);
  begins = (rw e at h).1;
  ticks = λ u. rw e (grind arith);
}

module _ (spans made : List Span) (run : Span) (rest : List Span) (so_far : JoinedSoFar spans made run rest) where
  pub joined_ascends : (s : Span) (later : List Span) → rest ≡ s ∷ later → run.lo ≤ s.lo
  joined_ascends s later e = (rw e at so_far.begins).0

  pub joined_more : (s : Span) (later made' : List Span) (run' : Span) → rest ≡ s ∷ later
      → IsNormal made' → ((u : ℕ) → spans_have made' u ≡ true → u + 2 ≤ run'.lo) → run'.lo ≤ s.lo
      → ((u : ℕ) → (spans_have made' u || within run'.lo run'.hi u) ≡ (spans_have made u || within run.lo run.hi u || within s.lo s.hi u))
      → JoinedSoFar spans made' run' later
  joined_more s later made' run' e normal apart lo grown = record {
    normal = normal;
    apart = apart;
    begins = begin_later run'.lo s.lo later lo (rw e at so_far.begins).1;
    ticks = λ u. let all = rw e at (so_far.ticks u) in grind (arith, all, grown u);
  }

  pub joined_normal : IsNormal (made ++ run ∷ [])
  joined_normal = IsNormalFrom-push made 0 run so_far.normal so_far.apart (omega arith)

  pub joined_ticks : length rest ≡ 0 → (u : ℕ) → spans_have (made ++ run ∷ []) u ≡ spans_have spans u
  joined_ticks e u = grind (arith, spans_have-append made (run ∷ []) u, so_far.ticks u, none_have rest u e)

-- the order that sorting by the first ticks makes
pub begin_sorted : (from : ℕ) (spans : List Span) → IsNonDecreasingBy (λ s. s.lo) spans → ((d : Span) → 0 < length spans → from ≤ (get_or spans 0 d).lo) → BeginFrom from spans
begin_sorted from [] h first = tt
begin_sorted from (s ∷ rest) h first =
    (first s (omega arith), begin_sorted s.lo rest (λ i j d l k. h (suc i) (suc j) d (omega arith) (omega arith)) (λ d l. h 0 1 d (omega arith) (omega arith)))

-- a test of spans is the test of the spans in another order
pub have_any : (spans : List Span) (t : ℕ) → spans_have spans t ≡ list_any (λ s. within s.lo s.hi t) spans
have_any [] t = refl
have_any (s ∷ rest) t = ap (λ b. within s.lo s.hi t || b) (have_any rest t)

pub have_sorted : (spans sorted : List Span) → IsPermutation spans sorted → (t : ℕ) → spans_have sorted t ≡ spans_have spans t
have_sorted spans sorted p t =
    have_any sorted t ∙ sym (list_any-IsPermutation (λ s. within s.lo s.hi t) spans sorted p) ∙ sym (have_any spans t)
