use Rattle.std.proofs.Common.{refl}
use Rattle.std.specs.Fmt.{digits}
use Rattle.case_table.specs.Language.{refusal_names, reserved_words, symbols}
use Rattle.fixed_point.specs.Canonical.{fix_text}
use Rattle.fixed_point.specs.Decimal.{decimals_of, thousandths_of, unsigned_thousandths}
use Rattle.tick_set.specs.Ticks.{all_in, between, listed, some_in}
use Rattle.ftl_lexer.specs.Forms.{token_at}
use Rattle.ftl_lexer.specs.Tokens.{lexed}
use Rattle.ftl_typer.specs.Context.{scope_in}
use Rattle.ftl_typer.specs.First.{found_after}
use Rattle.command_text.specs.Line.{command_in}
use Rattle.command_text.specs.Refusals.{refusal_line}
use Rattle.command_text.specs.Text.{text_of}
use Rattle.command_text.specs.inner.Query.{is_query_fit, is_query_small, query_of}
use Rattle.command_text.specs.inner.Reading.{at, attrs, begins, class, class_head, command, command_begun, command_of, drop, first_attr, given, insert, insert_head, keep, key, many, moving, name, next, next_attr, number, place, point_word, query, remove, setting, show, sign, some_attrs, some_moves, text, tick, watch, watch_head, whole}
use Rattle.feeds_meaning.specs.Heard.{own_refusal}
use Rattle.feeds_meaning.specs.Hub.{hub_step}
use Rattle.replica.specs.Line.{row_in_text, row_parts, start_of, told_of, told_by_line as told_line}
use Rattle.replica.specs.Text.{span_of, tick_at, tick_of}
use Rattle.feeds_laws.proofs.examples.a_user_is_followed.Goals as goal

pub returns : goal.returns
unfolding digits refusal_names reserved_words symbols fix_text decimals_of unsigned_thousandths thousandths_of all_in between listed some_in token_at lexed scope_in found_after command_in refusal_line text_of is_query_fit is_query_small query_of at attrs begins class class_head command command_begun command_of drop first_attr given insert insert_head keep key many moving name next next_attr number place point_word query remove setting show sign some_attrs some_moves text tick watch watch_head whole own_refusal hub_step row_in_text row_parts start_of told_of told_line span_of tick_at tick_of
returns c = record {
  hears = refl;
  says = refl;
  answer = refl;
  removed = refl;
  none_left = refl;
  kept = refl;
  kept_answer = refl;
}
