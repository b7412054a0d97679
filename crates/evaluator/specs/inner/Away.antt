-- Absences as far as some rows have ticks.
use Rattle.std.specs.Prelude.{◌≡◌, ℕ, Bool, true, not, ◌&&◌}
use Rattle.tick_set.specs.Ticks.{within}
use Rattle.relation.specs.Frames.{IsIn}
use Rattle.relation.specs.Rows.{Table, table_has}

-- At each tick of the rows the second relation tells whether the object of a variable is away.
abbrev pub AreAwayFor : {S : Type 0} → (S → ℕ → Bool) → (ℕ → ℕ → Bool) → ℕ → ℕ → ℕ → Table S → Table S → Type 0
AreAwayFor member there lo hi var rows away = (b : ℕ → ℕ) → IsIn rows.domains b → (t : ℕ) → table_has member rows b t ≡ true
    → table_has member away b t ≡ (within lo hi t && not (there (b var) t))
