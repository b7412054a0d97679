-- Runs that are gathered from the first tick to the last.
use Rattle.std.specs.Prelude.{◌≡◌, ℕ, Bool, ◌&&◌, nat_le, nat_lt, List}
use Rattle.tick_set.specs.Runs.{spans_have}
use Rattle.tick_set.specs.declared.spans.Span.{Span}

-- the runs have the ticks from `from` up to `until`, without `until`, that pass the test
abbrev pub IsGathered : (ℕ → Bool) → ℕ → ℕ → List Span → Type 0
IsGathered test from until runs = (t : ℕ) → spans_have runs t ≡ (nat_le from t && nat_lt t until && test t)
