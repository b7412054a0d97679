use Rattle.std.proofs.Common.{refl}
use Rattle.std.specs.Fmt.{digits}
use Rattle.case_table.specs.Language.{reserved_words}
use Rattle.csv.proofs.OnLiterals.{csv_on_literals}
use Rattle.fixed_point.specs.Canonical.{fix_text}
use Rattle.fixed_point.specs.Decimal.{decimals_of, thousandths_of, unsigned_thousandths}
use Rattle.tick_set.specs.Ticks.{all_in, between, listed, some_in}
use Rattle.object_rows.specs.Rows.{rows_in}
use Rattle.command_text.specs.Text.{text_of}
use Rattle.line_meaning.proofs.examples.rows_are_imported.Goals as goal

pub returns : goal.returns
unfolding csv_on_literals rows_in thousandths_of unsigned_thousandths decimals_of reserved_words fix_text digits text_of all_in between listed some_in
returns c = record { two_rows = refl; lines = refl; accepted = refl; no_file = refl; no_number = refl; refused_row = refl }
