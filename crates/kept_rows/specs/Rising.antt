-- Ascending numbers.
use Rattle.std.specs.Prelude.{ℕ, ◌+◌, ◌<◌, ◌≤◌, ⊤, List, [], ◌∷◌}

-- the numbers ascend, from `from` on and below `to`
abbrev pub AscendsWithin : ℕ → ℕ → List ℕ → Type 0
AscendsWithin from to [] = ⊤
AscendsWithin from to (x ∷ xs) = (from ≤ x) × (x < to) × AscendsWithin (x + 1) to xs
