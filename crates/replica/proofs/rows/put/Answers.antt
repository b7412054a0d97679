use Rattle.replica.proofs.RowLemmas.{insert_rows}
use Rattle.replica.proofs.rows.put.Goals as goal

pub returns-clause-ok : goal.returns-clause-ok
returns-clause-ok c = rw c.in_ok-insert.ensures.entries (insert_rows c.args.rows.now.entries c.args.target c.args.ticks)
