use Rattle.std.proofs.Common.{refl}
use Rattle.std.specs.Fmt.{digits}
use Rattle.case_table.specs.Language.{reserved_words, symbols}
use Rattle.fixed_point.specs.Canonical.{fix_text}
use Rattle.fixed_point.specs.Decimal.{decimals_of, thousandths_of, unsigned_thousandths}
use Rattle.ftl_lexer.specs.Forms.{token_at}
use Rattle.ftl_lexer.specs.Tokens.{lexed}
use Rattle.command_text.specs.Line.{command_in}
use Rattle.command_text.specs.Text.{text_of}
use Rattle.command_text.specs.inner.Reading.{at, attrs, begins, class, class_head, command, command_begun, command_of, insert, insert_head, key, many, minus, moves, moving, name, next, num, number, pair, place, point, point_word, remove, sign, signed_number, some_moves, tick, whole}
use Rattle.session_file.specs.Counts.{counts_of, whole_in_front}
use Rattle.session_file.specs.Kept.{kept_in}
use Rattle.session_file.specs.Reading.{file_line_of, reading_of}
use Rattle.line_meaning.specs.Loading.{loading_of}
use Rattle.line_meaning.proofs.examples.texts_are_loaded.Goals as goal

pub returns : goal.returns
unfolding digits reserved_words symbols fix_text decimals_of unsigned_thousandths thousandths_of token_at lexed command_in text_of at attrs begins class class_head command command_begun command_of insert insert_head key many minus moves moving name next num number pair place point point_word remove sign signed_number some_moves tick whole counts_of whole_in_front kept_in file_line_of reading_of loading_of
returns c = record { loaded = refl; refused = refl; faulty = refl; no_end = refl }
