use Rattle.line_meaning.proofs.ImportLemmas.{rows_may_be_loaded}
use Rattle.line_meaning.proofs.laws.imported_rows_may_be_loaded.Goals as goal

pub returns : goal.returns
returns c = rows_may_be_loaded c.row_lines_are_short.ensures
