use Rattle.std.proofs.Common.{refl}
use Rattle.std.specs.Fmt.{digits}
use Rattle.case_table.specs.Language.{reserved_words}
use Rattle.tick_set.specs.Ticks.{between, listed}
use Rattle.replica.specs.Line.{row_in_text, row_parts, start_of, told_by_line, told_of}
use Rattle.replica.specs.Text.{span_of, tick_at, tick_of}
use Rattle.replica.proofs.examples.feeds_are_followed.Goals as goal

pub returns : goal.returns
unfolding between digits told_by_line listed reserved_words row_in_text row_parts span_of start_of tick_at tick_of told_of
returns c = record {
  watched = refl;
  removed = refl;
  in_order_of_bytes = refl;
  stopped = refl;
  started_again = refl;
  before_a_start = refl;
  by_each_line_of_a_start = refl;
  up_to_another_start = refl;
  up_to_no_row = refl;
  list_heard = refl;
  all_lost = refl;
  of_others = refl;
}
