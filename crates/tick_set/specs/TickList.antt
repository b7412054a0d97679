-- A list of ticks as a set.
use Rattle.std.specs.Prelude.{ℕ, ◌+◌, ◌≤◌, ◌==◌, ⊤, Bool, List, [], ◌∷◌}
use Rattle.std.specs.List.{list_any}
use Rattle.tick_set.specs.declared.spans.TheConstants.{LAST_TICK}

-- whether t is one of the ticks
abbrev pub has : List ℕ → ℕ → Bool
has ticks t = list_any (λ u. u == t) ticks

-- the ticks ascend from the tick `from` on, and none is above the last tick that there is
abbrev pub IsAscendingFrom : ℕ → List ℕ → Type 0
IsAscendingFrom from [] = ⊤
IsAscendingFrom from (t ∷ rest) = (from ≤ t) × (t ≤ LAST_TICK) × IsAscendingFrom (t + 1) rest

abbrev pub IsAscending : List ℕ → Type 0
IsAscending ticks = IsAscendingFrom 0 ticks
