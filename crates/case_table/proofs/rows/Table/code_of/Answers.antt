-- The rows in use are apart, so what is found is the row.
use Rattle.case_table.proofs.Found.{code_of_row}
use Rattle.case_table.proofs.rows.Table.code_of.Goals as goal

pub returns-clause-row : goal.returns-clause-row
returns-clause-row g c code = rw (c.code_in.ensures, ← c.self.view_is) (code_of_row _ c.args.word.now code c.self.invariant.1)
