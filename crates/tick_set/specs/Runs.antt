-- Spans of ticks as the maximal runs of a set.
use Rattle.std.specs.Prelude.{◌≡◌, ℕ, ◌+◌, ◌≤◌, ◌==◌, ⊤, Bool, false, ◌||◌, List, [], ◌∷◌, map, if◌then◌else◌}
use Rattle.tick_set.specs.declared.spans.Span.{Span}
use Rattle.tick_set.specs.Ticks.{within}

-- whether t is in one of the spans
abbrev pub spans_have : List Span → ℕ → Bool
spans_have [] t = false
spans_have (s ∷ rest) t = within s.lo s.hi t || spans_have rest t

-- the spans ascend from the tick `from` on, with at least one tick between two
abbrev pub IsNormalFrom : ℕ → List Span → Type 0
IsNormalFrom from [] = ⊤
IsNormalFrom from (s ∷ rest) = (from ≤ s.lo) × IsNormalFrom (s.hi + 2) rest

-- each next `lo` is at least the previous `hi + 2`
abbrev pub IsNormal : List Span → Type 0
IsNormal spans = IsNormalFrom 0 spans

-- the spans are the maximal runs of the set
pub record IsRuns (member : ℕ → Bool) (spans : List Span) : Type 0 where
  pub normal : IsNormal spans
  pub ticks : (t : ℕ) → spans_have spans t ≡ member t

-- the first and last ticks of each span
abbrev pub pairs : List Span → List (ℕ × ℕ)
pairs = map (λ s. (s.lo, s.hi))

-- the runs after the tick t in front of all of them: it joins a run that begins at t + 1
abbrev pub with_tick : ℕ → List (ℕ × ℕ) → List (ℕ × ℕ)
with_tick t [] = (t, t) ∷ []
with_tick t ((lo, hi) ∷ rest) = if lo == t + 1 then (t, hi) ∷ rest else (t, t) ∷ (lo, hi) ∷ rest

-- the maximal runs of consecutive ticks of an ascending list, each as its first and last tick
abbrev pub runs_of : List ℕ → List (ℕ × ℕ)
runs_of [] = []
runs_of (t ∷ rest) = with_tick t (runs_of rest)
