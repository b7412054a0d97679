-- Spans from a tick on.
use Rattle.std.specs.Prelude.{◌≡◌, ◌<◌, ◌≤◌, ℕ, true, ⊤, List, [], ◌∷◌, ◌++◌}
use Rattle.tick_set.specs.declared.spans.Span.{Span}
use Rattle.tick_set.specs.Runs.{spans_have}

-- the first span does not end before the tick
abbrev pub EndsFrom : ℕ → List Span → Type 0
EndsFrom at [] = ⊤
EndsFrom at (s ∷ rest) = at ≤ s.hi

-- rest is the spans without those that end before the tick
pub record DropsEnded (at : ℕ) (spans rest : List Span) : Type 0 where
  pub dropped : List Span
  pub whole : spans ≡ dropped ++ rest
  pub ended : (u : ℕ) → spans_have dropped u ≡ true → u < at
  pub ends : EndsFrom at rest

-- the first span begins no earlier than the tick, and each other no earlier than the one before it
abbrev pub BeginFrom : ℕ → List Span → Type 0
BeginFrom at [] = ⊤
BeginFrom at (s ∷ rest) = (at ≤ s.lo) × BeginFrom s.lo rest
