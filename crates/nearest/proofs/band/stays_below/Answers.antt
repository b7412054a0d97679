use Rattle.std.proofs.Common.{◌≡◌, pos, Bool, true, sym, subst, arith}
use Rattle.std.proofs.lemmas.Int.{ints}
use Rattle.std.proofs.lemmas.Bool.Decides.{nat_tests}
use Rattle.nearest.specs.Order.{is_below}
use Rattle.nearest.proofs.OrderLemmas.{below_by_bounds, below_by_tied_bounds}
use Rattle.nearest.proofs.band.stays_below.Goals as goal

pub returns-then-most-bound : goal.returns-then-most-bound
returns-then-most-bound c = λ is d e up from.
    below_by_bounds c.args.ties d e (pos c.args.most) c.args.least up from (omega (arith, ints, c.unsigned_abs-bound.ensures))

pub returns-then-ties : goal.returns-then-ties
returns-then-ties c = λ is d e up from.
    let equal : c.args.most ≡ c.unsigned_abs-bound.result = grind (arith, nat_tests, is) in
    subst (λ (b : Bool). is_below b d e ≡ true) (sym c.if-ties.true)
    (below_by_tied_bounds d e (pos c.args.most) c.args.least up from (omega (arith, ints, c.unsigned_abs-bound.ensures, equal)))
