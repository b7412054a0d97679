use Rattle.kept_rows.proofs.LawLemmas.{order}
use Rattle.kept_rows.proofs.laws.the_order_is_that_of_bindings.Goals as goal

pub returns : goal.returns
returns c = order
