-- Runs of ticks that are found in a part.
use Rattle.std.specs.Prelude.{ℕ, Bool}
use Rattle.tick_set.specs.Runs.{IsRuns}
use Rattle.distance_crossing.specs.Triples.{triple_spans}
use Rattle.distance_crossing.specs.declared.comparison.Triple.{Triple}

-- the maximal runs of the ticks that pass the test
abbrev pub AreRunsWhere : (ℕ → Bool) → Triple → Type 0
AreRunsWhere test found = IsRuns test (triple_spans found)
