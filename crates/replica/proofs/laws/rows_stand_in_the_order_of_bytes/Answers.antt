use Rattle.replica.proofs.OrderLemmas.{in_order_after}
use Rattle.replica.specs.Feed.{silent}
use Rattle.replica.proofs.laws.rows_stand_in_the_order_of_bytes.Goals as goal

pub returns : goal.returns
returns c name lines = in_order_after (silent name) lines tt
