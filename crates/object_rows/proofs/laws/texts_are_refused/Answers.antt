use Rattle.std.proofs.Common.{refl}
use Rattle.case_table.specs.Language.{reserved_words}
use Rattle.csv.proofs.OnLiterals.{csv_on_literals}
use Rattle.fixed_point.specs.Decimal.{decimals_of, thousandths_of, unsigned_thousandths}
use Rattle.object_rows.specs.Rows.{rows_in}
use Rattle.object_rows.proofs.laws.texts_are_refused.Goals as goal

pub returns : goal.returns
unfolding csv_on_literals rows_in thousandths_of unsigned_thousandths decimals_of reserved_words
returns c = record {
  nothing = refl;
  no_name = refl;
  no_such_column = refl;
  no_rate = refl;
  doubled = refl;
  no_number = refl;
  empty_number = refl;
  steep = refl;
  reserved = refl;
  no_word = refl;
  tab = refl;
  fewer = refl;
  more = refl;
}
