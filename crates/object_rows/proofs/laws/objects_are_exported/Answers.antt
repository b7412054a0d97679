use Rattle.std.proofs.Common.{refl}
use Rattle.std.specs.Fmt.{digits}
use Rattle.csv.specs.Writing.{escaped, fields_text, is_blank}
use Rattle.fixed_point.specs.Canonical.{fix_text}
use Rattle.object_rows.specs.Exported.{exported}
use Rattle.object_rows.proofs.laws.objects_are_exported.Goals as goal

pub returns : goal.returns
unfolding exported fix_text digits escaped fields_text is_blank
returns c = record { cars = refl; before = refl; tanks = refl }
