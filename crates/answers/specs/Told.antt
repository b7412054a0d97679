-- The rows of an answer, as they are kept.
use Rattle.std.specs.Prelude.{List, map}
use Rattle.tick_set.specs.Runs.{runs_of, spans_have}
use Rattle.tick_set.specs.Ticks.{listed}
use Rattle.tick_set.specs.declared.spans.Span.{Span}
use Rattle.tick_set.specs.declared.spans.TheConstants.{LAST_TICK}
use Rattle.meaning.specs.Answer as answers
use Rattle.relation.specs.declared.row.Row.{Row}

-- the objects of a row, and the maximal runs of its ticks
abbrev pub told_row : Row (List Span) → answers.Row
told_row r = record { key = r.key; runs = runs_of (listed (spans_have r.set) 0 LAST_TICK) }

abbrev pub told_rows : List (Row (List Span)) → List answers.Row
told_rows rows = map told_row rows
