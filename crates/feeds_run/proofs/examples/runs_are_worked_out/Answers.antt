use Rattle.std.proofs.Common.{refl}
use Rattle.std.specs.Fmt.{digits}
use Rattle.case_table.specs.Language.{refusal_names, reserved_words, symbols}
use Rattle.fixed_point.specs.Decimal.{decimals_of, thousandths_of, unsigned_thousandths}
use Rattle.tick_set.specs.Ticks.{all_in, between, listed, some_in}
use Rattle.ftl_lexer.specs.Forms.{token_at}
use Rattle.ftl_lexer.specs.Tokens.{lexed}
use Rattle.command_text.specs.Line.{command_in}
use Rattle.command_text.specs.Refusals.{refusal_line}
use Rattle.command_text.specs.Text.{text_of}
use Rattle.command_text.specs.inner.Reading.{at, attrs, begins, class, class_head, command, command_begun, command_of, insert, insert_head, key, many, moving, name, next, number, place, point_word, setting, show, sign, tick, whole}
use Rattle.feeds_meaning.specs.Heard.{own_refusal}
use Rattle.feeds_meaning.specs.Hub.{hub_step}
use Rattle.replica.specs.Line.{row_in_text, row_parts, start_of, told_by_line as told_line, told_of}
use Rattle.replica.specs.Text.{span_of, tick_at, tick_of}
use Rattle.feeds_run.proofs.examples.runs_are_worked_out.Goals as goal

pub returns : goal.returns
unfolding digits refusal_names reserved_words symbols decimals_of unsigned_thousandths thousandths_of all_in between listed some_in token_at lexed command_in refusal_line text_of at attrs begins class class_head command command_begun command_of insert insert_head key many moving name next number place point_word setting show sign tick whole own_refusal hub_step told_line row_in_text row_parts start_of told_of span_of tick_at tick_of
returns c = record {
  bad_words = refl;
  shared = refl;
  no_end_of_a_line = refl;
  quit_ends_nothing = refl;
  past_the_limit = refl;
  followed = refl;
  followed_to_the_end = refl;
  another_query = refl;
  bad_feed = refl;
  limit_of_a_feed = refl;
  bad_feed_within_the_limit = refl;
  bad_feed_past_the_limit = refl;
}
