use Rattle.object_rows.proofs.LineLemmas.{lines_short}
use Rattle.object_rows.proofs.laws.row_lines_are_short.Goals as goal

pub returns : goal.returns
returns c = lines_short c.reads_each_decimal.ensures
