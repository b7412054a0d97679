use Rattle.std.proofs.Common.{refl}
use Rattle.std.specs.Fmt.{digits}
use Rattle.case_table.specs.Language.{reserved_words, symbols}
use Rattle.fixed_point.specs.Canonical.{fix_text}
use Rattle.fixed_point.specs.Decimal.{decimals_of, thousandths_of, unsigned_thousandths}
use Rattle.ftl_lexer.specs.Forms.{token_at}
use Rattle.ftl_lexer.specs.Tokens.{lexed}
use Rattle.command_text.specs.Line.{command_in}
use Rattle.command_text.specs.Text.{text_of}
use Rattle.command_text.specs.inner.Reading.{at, attrs, begins, class, class_head, command, command_begun, command_of, given, given_equal, given_value, index, insert, insert_head, key, many, minus, moving, name, next, num, number, place, point_word, remove, setting, sign, signed_number, whole}
use Rattle.line_meaning.specs.Step.{line_refusal}
use Rattle.line_meaning.proofs.examples.first_faults_refuse.Goals as goal

pub returns : goal.returns
unfolding digits reserved_words symbols fix_text decimals_of unsigned_thousandths thousandths_of token_at lexed command_in text_of at attrs begins class class_head command command_begun command_of given given_equal given_value index insert insert_head key many minus moving name next num number place point_word remove setting sign signed_number whole line_refusal
returns c = record {
  unknown_and_absent = refl;
  out_of_range_and_taken = refl;
  twice_and_present = refl;
  of_no_class = refl;
  accepted = refl;
}
