-- Ticks as their maximal runs, each by its first and its last tick.
use Rattle.std.specs.Prelude.{◌≡◌, ℕ, ◌+◌, ◌≤◌, ⊤, max, Bool, true, false, List, [], ◌∷◌}
use Rattle.std.specs.List.{list_any}
use Rattle.tick_set.specs.Runs.{runs_of, spans_have}
use Rattle.tick_set.specs.SetOperation.{kept}
use Rattle.tick_set.specs.Ticks.{listed, within}
use Rattle.tick_set.specs.declared.operation.SetOperation.{SetOperation}
use Rattle.tick_set.specs.declared.spans.Span.{Span}
use Rattle.tick_set.specs.declared.spans.TheConstants.{LAST_TICK}

-- whether t is one of the ticks
abbrev pub have : List (ℕ × ℕ) → ℕ → Bool
have spans t = list_any (λ s. within s.0 s.1 t) spans

-- no tick is after this one
abbrev pub last_of : List (ℕ × ℕ) → ℕ
last_of [] = 0
last_of (s ∷ spans) = max s.1 (last_of spans)

-- the ticks of both that the operation keeps
abbrev pub combined : SetOperation → List (ℕ × ℕ) → List (ℕ × ℕ) → List (ℕ × ℕ)
combined operation old told =
    runs_of (listed (λ t. kept operation (have old t) (have told t)) 0 (max (last_of old) (last_of told)))

-- the spans ascend from a tick on, with at least one tick between two, and end with the last tick at most
abbrev pub AreRuns : ℕ → List (ℕ × ℕ) → Type 0
AreRuns least [] = ⊤
AreRuns least (s ∷ spans) = (least ≤ s.0) × (s.0 ≤ s.1) × (s.1 ≤ LAST_TICK) × AreRuns (s.1 + 2) spans

-- the operation keeps all ticks of these spans, of which none is told, and a tick lies between them and those told
abbrev pub StayBefore : SetOperation → List Span → List Span → Type 0
StayBefore operation front told =
    (t : ℕ) → spans_have front t ≡ true → (kept operation true false ≡ true) × ((u : ℕ) → spans_have told u ≡ true → t + 2 ≤ u)
