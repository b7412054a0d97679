-- What the code reads a line as.
use Rattle.replica.specs.Line.{ToldLine}
use Rattle.replica.specs.Line as told
use Rattle.replica.specs.Rows.{TargetRow}
use Rattle.tick_set.specs.Runs.{pairs}
use Rattle.replica.specs.declared.line.Message.{Message}
use Rattle.replica.specs.declared.line.Message.TheVariants.{Starts, Answers, Changes, Passes, Stops, Nothing, Broken}
use Rattle.replica.specs.declared.rows.ToldRow.{ToldRow}

abbrev pub row_view : ToldRow → TargetRow
row_view row = (row.target.items, pairs row.ticks)

abbrev pub told_view : Message → ToldLine
told_view (Starts kind clock) = told.Starts kind clock
told_view (Answers row) = told.Answers (row_view row)
told_view (Changes operation row) = told.Changes operation (row_view row)
told_view (Passes clock) = told.Passes clock
told_view Stops = told.Stops
told_view Nothing = told.Nothing
told_view Broken = told.Broken
