use Rattle.replica.proofs.OrderLemmas.{others_left, row_made}
use Rattle.replica.proofs.laws.a_change_makes_one_row.Goals as goal

pub returns-clause-made : goal.returns-clause-made
returns-clause-made c = row_made

pub returns-clause-others : goal.returns-clause-others
returns-clause-others c = others_left
