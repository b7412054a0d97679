use Rattle.std.proofs.Common.{refl}
use Rattle.std.specs.Fmt.{digits}
use Rattle.case_table.specs.Language.{refusal_names, reserved_words, symbols}
use Rattle.fixed_point.specs.Canonical.{fix_text}
use Rattle.fixed_point.specs.Decimal.{decimals_of, thousandths_of, unsigned_thousandths}
use Rattle.tick_set.specs.Ticks.{all_in, between, listed, some_in}
use Rattle.ftl_lexer.specs.Forms.{token_at}
use Rattle.ftl_lexer.specs.Tokens.{lexed}
use Rattle.command_text.specs.Line.{command_in}
use Rattle.command_text.specs.Refusals.{refusal_line}
use Rattle.command_text.specs.Text.{text_of}
use Rattle.command_text.specs.inner.Reading.{begins, command, command_begun, command_of, drop, key, name, next, number, remove, save, sign, text, tick, whole}
use Rattle.feeds_meaning.specs.Heard.{own_refusal}
use Rattle.feeds_meaning.proofs.examples.one_user_hears.Goals as goal

pub returns : goal.returns
unfolding digits refusal_names reserved_words symbols fix_text decimals_of unsigned_thousandths thousandths_of all_in between listed some_in token_at lexed command_in refusal_line text_of begins command command_begun command_of drop key name next number remove save sign text tick whole own_refusal
returns c = record {
  nothing_yet = refl;
  start = refl;
  stop = refl;
  own_tick = refl;
  ticks = refl;
  removed = refl;
  own_lines = refl;
  own_index = refl;
  own_range = refl;
  no_index = refl;
  index_stays = refl;
  last_data_line = refl;
  data_limit = refl;
  before_bad_tokens = refl;
  by_the_whole_word = refl;
  query_limit = refl;
  queries_apart = refl;
  file_line = refl;
  faulty_file_line = refl;
}
