use Rattle.object_rows.proofs.CommandLemmas.{commands_printable}
use Rattle.object_rows.proofs.laws.commands_are_printable.Goals as goal

pub returns : goal.returns
returns c = commands_printable c.reads_each_decimal.ensures
