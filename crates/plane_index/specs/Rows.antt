-- The rows of an index, as a contract sees them.
use Rattle.std.specs.Prelude.{List, [], ◌∷◌, map}
use Rattle.tick_set.specs.Runs.{pairs}
use Rattle.meaning.specs.Answer.{Row}
use Rattle.plane_index.specs.declared.rows.RangeRow.{RangeRow}

-- the object of a row, and the maximal runs of its ticks
abbrev pub told_range_row : RangeRow → Row
told_range_row row = record { key = row.id ∷ []; runs = pairs row.ticks }

abbrev pub told_range_rows : List RangeRow → List Row
told_range_rows rows = map told_range_row rows
