-- Ticks that are added to runs.
use Rattle.std.specs.Prelude.{◌≡◌, ℕ, ◌<◌, Bool, true, ◌||◌, List}
use Rattle.tick_set.specs.Runs.{spans_have}
use Rattle.tick_set.specs.declared.spans.Span.{Span}

-- all ticks of the runs come before this one
abbrev pub EndBefore : ℕ → List Span → Type 0
EndBefore at runs = (t : ℕ) → spans_have runs t ≡ true → t < at

-- the new runs have the ticks of the old ones and those that pass the test
abbrev pub Adds : (ℕ → Bool) → List Span → List Span → Type 0
Adds test old new = (t : ℕ) → spans_have new t ≡ (spans_have old t || test t)
