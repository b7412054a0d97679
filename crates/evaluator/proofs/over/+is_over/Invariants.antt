use Rattle.formula_shape.specs.Sizes.{nodes}
use Rattle.formula.specs.Tree.{formula_view}
use Rattle.evaluator.proofs.over.+is_over.Given as goal

abbrev pub decreases-is_over : goal.decreases-is_over
decreases-is_over l = nodes (formula_view l.f.now)
