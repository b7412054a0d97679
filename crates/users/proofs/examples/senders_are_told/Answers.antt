use Rattle.std.proofs.Common.{refl}
use Rattle.case_table.specs.Language.{reserved_words}
use Rattle.users.proofs.examples.senders_are_told.Goals as goal

pub returns : goal.returns
unfolding reserved_words
returns c = record {
  user = refl;
  blank_line = refl;
  two_spaces = refl;
  alone = refl;
  nothing = refl;
  a_tab = refl;
  a_space_before = refl;
  eight_bytes = refl;
  nine_bytes = refl;
  reserved = refl;
  begun_by_a_digit = refl;
  digits_later = refl;
  word = refl;
  longer_word = refl;
  word_before_a_bad_token = refl;
  no_word = refl;
}
