use Rattle.std.proofs.Common.{refl}
use Rattle.std.specs.Fmt.{digits}
use Rattle.case_table.specs.Language.{reserved_words}
use Rattle.tick_set.specs.Ticks.{between, listed}
use Rattle.replica.specs.Line.{row_in_text, row_parts, start_of, told_by_line, told_of}
use Rattle.replica.specs.Text.{span_of, tick_at, tick_of}
use Rattle.replica.proofs.examples.feeds_are_refused.Goals as goal

pub returns : goal.returns
unfolding between digits told_by_line listed reserved_words row_in_text row_parts span_of start_of tick_at tick_of told_of
returns c = record {
  spare_zero = refl;
  first_of_two = refl;
  backwards = refl;
  not_maximal = refl;
  without_ticks = refl;
  reserved = refl;
  five_names = refl;
  more_than_a_stop = refl;
}
