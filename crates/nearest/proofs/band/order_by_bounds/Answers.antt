use Rattle.std.proofs.Common.{arith}
use Rattle.std.proofs.lemmas.Int.{ints}
use Rattle.nearest.proofs.OrderLemmas.{not_below}
use Rattle.nearest.proofs.band.order_by_bounds.Goals as goal

pub returns-then-stays_below : goal.returns-then-stays_below
returns-then-stays_below c = λ d e from_d to_d from_e to_e. c.stays_below.ensures c.if-stays_below.true d e to_d (omega (arith, ints, from_e))

pub returns-then-stays_below-2 : goal.returns-then-stays_below-2
returns-then-stays_below-2 c = λ d e from_d to_d from_e to_e.
    not_below c.args.ties d e (c.stays_below-2.ensures c.if-stays_below-2.true e d to_e (omega (arith, ints, from_d)))
