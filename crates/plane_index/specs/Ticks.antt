-- The ticks of a row.
use Rattle.std.specs.Prelude.{◌≡◌, ◌==◌, false, Option, None, Some, List, [], length}
use Rattle.tick_set.specs.declared.spans.Span.{Span}
use Rattle.plane_index.specs.declared.ticks.Held.{Held}
use Rattle.plane_index.specs.declared.ticks.Held.TheVariants as helds

abbrev pub runs_held : Held → List Span
runs_held (helds.Single run) = run
runs_held (helds.Several runs) = runs

-- there is a run
abbrev pub HasRun : List Span → Type 0
HasRun runs = (length runs == 0) ≡ false

-- the runs of ticks that may be none
abbrev pub runs_found : Option (List Span) → List Span
runs_found None = []
runs_found (Some runs) = runs
