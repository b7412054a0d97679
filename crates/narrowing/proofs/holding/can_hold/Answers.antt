use Rattle.formula.specs.Tree.{formula_view}
use Rattle.narrowing.proofs.HoldingLemmas.{fails_exactly}
use Rattle.narrowing.proofs.holding.can_hold.Goals as goal

pub returns : goal.returns
returns c never b is_in =
    fails_exactly c.worlds_lie_between.ensures.between c.args.store.now c.args.regions.now c.args.w.lo c.args.w.hi (formula_view c.args.q.now.formula) b
    (c.can_hold_somewhere.ensures never b is_in)
