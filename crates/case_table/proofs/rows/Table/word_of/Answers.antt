-- The rows in use are apart, so what is found is the row.
use Rattle.case_table.proofs.Found.{word_of_row}
use Rattle.case_table.proofs.rows.Table.word_of.Goals as goal

pub returns-clause-row : goal.returns-clause-row
returns-clause-row g c word = rw (c.word_in.ensures, ← c.self.view_is) (word_of_row _ word c.args.code c.self.invariant.1)
