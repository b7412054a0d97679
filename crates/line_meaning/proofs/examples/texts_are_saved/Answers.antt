use Rattle.std.proofs.Common.{refl}
use Rattle.std.specs.Fmt.{digits}
use Rattle.csv.specs.Writing.{escaped, fields_text, is_blank}
use Rattle.fixed_point.specs.Canonical.{fix_text}
use Rattle.object_rows.specs.Exported.{exported}
use Rattle.command_text.specs.Text.{text_of}
use Rattle.session_file.specs.Text.{session_text}
use Rattle.line_meaning.proofs.examples.texts_are_saved.Goals as goal

pub returns : goal.returns
unfolding exported fix_text digits escaped fields_text is_blank text_of session_text
returns c = record { saved = refl; exported = refl; others = refl }
