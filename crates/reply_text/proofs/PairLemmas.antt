-- Runs as pairs of their first and last ticks.
use Rattle.std.proofs.Common.{◌≡◌, ℕ, Bool, ◌||◌, List, [], ◌∷◌, refl, ap}
use Rattle.std.specs.List.{list_any}
use Rattle.tick_set.specs.declared.spans.Span.{Span}
use Rattle.tick_set.specs.Runs.{pairs}

pub any_pairs : (test : ℕ × ℕ → Bool) (runs : List Span) → list_any test (pairs runs) ≡ list_any (λ run. test (run.lo, run.hi)) runs
any_pairs test [] = refl
any_pairs test (run ∷ runs) = ap (λ rest. test (run.lo, run.hi) || rest) (any_pairs test runs)
