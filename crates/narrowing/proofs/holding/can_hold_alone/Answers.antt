use Rattle.formula.specs.Tree.{formula_view}
use Rattle.narrowing.proofs.HoldingLemmas.{alone_fails}
use Rattle.narrowing.proofs.holding.can_hold_alone.Goals as goal

pub returns : goal.returns
returns c never b is =
    alone_fails c.worlds_lie_between.ensures.between c.args.store.now c.args.regions.now c.new-domains.result c.args.w.lo c.args.w.hi c.args.id
    (formula_view c.args.q.now.formula) c.new-domains.ensures (c.can_hold_with.ensures never) b is
