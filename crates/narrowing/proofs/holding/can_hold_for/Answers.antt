use Rattle.formula.specs.Tree.{formula_view}
use Rattle.narrowing.proofs.HoldingLemmas.{all_lost}
use Rattle.narrowing.proofs.holding.can_hold_for.Goals as goal

pub returns : goal.returns
returns c never =
    all_lost c.args.scene.now c.args.var (formula_view c.args.f.now) c.of-own.result.now c.requires c.of-own.ensures.value (c.can_hold_with_any.ensures never)
