-- The spans of the words of a text, one after another.
use Rattle.std.proofs.Common.{◌≡◌, ◌∙◌, ℕ, ◌+◌, ◌<◌, ◌≤◌, true, false, nat_le, List, [], ◌∷◌, ◌++◌, Option, Some, None, option_map, refl, ap, sym, inl, inr, arith}
use Rattle.std.proofs.lemmas.Bool.{or_cases}
use Rattle.std.proofs.lemmas.Bool.Decides.{nat_tests}
use Rattle.exact.specs.Options.{◌>>=◌}
use Rattle.tick_set.specs.declared.spans.Span.{Span}
use Rattle.tick_set.specs.Runs.{pairs, spans_have}
use Rattle.tick_set.proofs.RunLemmas.{spans_have-append}
use Rattle.replica.specs.Text.{cut_at_mark, span_of, spans_from, words}
use Rattle.replica.proofs.WordLemmas.{words_are, words_left}

no_span : (least : ℕ) (word : List ℕ) (later : List (List ℕ)) → span_of word ≡ None → spans_from least (word ∷ later) ≡ None
no_span least word later h = rw h refl

early_span : (least lo hi : ℕ) (word : List ℕ) (later : List (List ℕ)) → span_of word ≡ Some (lo, hi) → nat_le least lo ≡ false → spans_from least (word ∷ later) ≡ None
early_span least lo hi word later h early = rw (h, early) refl

as_map : (lo hi : ℕ) (o : Option (List (ℕ × ℕ))) → (o >>= (λ spans. Some ((lo, hi) ∷ spans))) ≡ option_map (λ spans. (lo, hi) ∷ spans) o
as_map lo hi None = refl
as_map lo hi (Some spans) = refl

pub next_span : (least lo hi : ℕ) (word : List ℕ) (later : List (List ℕ)) → span_of word ≡ Some (lo, hi) → nat_le least lo ≡ true
    → spans_from least (word ∷ later) ≡ option_map (λ spans. (lo, hi) ∷ spans) (spans_from (hi + 2) later)
next_span least lo hi word later h fits = rw (h, fits) (as_map lo hi (spans_from (hi + 2) later))

pairs_more : (spans : List Span) (s : Span) (later : List (ℕ × ℕ)) → pairs spans ++ ((s.lo, s.hi) ∷ later) ≡ pairs (spans ++ s ∷ []) ++ later
pairs_more [] s later = refl
pairs_more (x ∷ spans) s later = ap (λ rest. (x.lo, x.hi) ∷ rest) (pairs_more spans s later)

map_more : (spans : List Span) (s : Span) (o : Option (List (ℕ × ℕ)))
    → option_map (λ later. pairs spans ++ later) (option_map (λ later. (s.lo, s.hi) ∷ later) o) ≡ option_map (λ later. pairs (spans ++ s ∷ []) ++ later) o
map_more spans s None = refl
map_more spans s (Some later) = ap Some (pairs_more spans s later)

-- the spans of all words, by those so far and by those of what is left
abbrev pub AreSoFar : Option (List (ℕ × ℕ)) → List Span → ℕ → List (List ℕ) → Type 0
AreSoFar all spans least left = all ≡ option_map (λ later. pairs spans ++ later) (spans_from least left)

pub stops_without : (all : Option (List (ℕ × ℕ))) (spans : List Span) (least : ℕ) (left word : List ℕ) (later : Option (List ℕ)) → AreSoFar all spans least (words left)
    → (word, later) ≡ cut_at_mark 32 left → span_of word ≡ None → None ≡ all
stops_without all spans least left word later so_far h none =
    sym (so_far ∙ ap (λ ws. option_map (λ later. pairs spans ++ later) (spans_from least ws)) (words_are left word later h)
    ∙ ap (λ o. option_map (λ later. pairs spans ++ later) o) (no_span least word (words_left later) none))

pub stops_early : (all : Option (List (ℕ × ℕ))) (spans : List Span) (least : ℕ) (left word : List ℕ) (later : Option (List ℕ)) (s : Span) → AreSoFar all spans least (words left)
    → (word, later) ≡ cut_at_mark 32 left → Some (s.lo, s.hi) ≡ span_of word → s.lo < least → None ≡ all
stops_early all spans least left word later s so_far h found early =
    sym (so_far ∙ ap (λ ws. option_map (λ later. pairs spans ++ later) (spans_from least ws)) (words_are left word later h)
    ∙ ap (λ o. option_map (λ later. pairs spans ++ later) o) (early_span least s.lo s.hi word (words_left later) (sym found) (grind (arith, nat_tests))))

pub goes_on : (all : Option (List (ℕ × ℕ))) (spans : List Span) (least : ℕ) (left word : List ℕ) (later : Option (List ℕ)) (s : Span) → AreSoFar all spans least (words left)
    → (word, later) ≡ cut_at_mark 32 left → Some (s.lo, s.hi) ≡ span_of word → least ≤ s.lo → AreSoFar all (spans ++ s ∷ []) (s.hi + 2) (words_left later)
goes_on all spans least left word later s so_far h found fits =
    so_far ∙ ap (λ ws. option_map (λ later. pairs spans ++ later) (spans_from least ws)) (words_are left word later h)
    ∙ ap (λ o. option_map (λ later. pairs spans ++ later) o) (next_span least s.lo s.hi word (words_left later) (sym found) (grind (arith, nat_tests)))
    ∙ map_more spans s (spans_from (s.hi + 2) (words_left later))

-- one span more, which begins where one may
pub below_more : (spans : List Span) (s : Span) (least t : ℕ) → ((u : ℕ) → spans_have spans u ≡ true → u + 2 ≤ least) → least ≤ s.lo → spans_have (spans ++ s ∷ []) t ≡ true → t + 2 ≤ s.hi + 2
below_more spans s least t below fits h =
    let order : s.lo ≤ s.hi = s.ordered in
    elim (or_cases (spans_have spans t) (spans_have (s ∷ []) t) (sym (spans_have-append spans (s ∷ []) t) ∙ h)) [
      | inl e ↦ omega (arith, below t e)
      | inr e ↦ grind (arith, nat_tests)
    ]
