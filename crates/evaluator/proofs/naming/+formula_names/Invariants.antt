use Rattle.formula_shape.specs.Sizes.{nodes}
use Rattle.formula.specs.Tree.{formula_view}
use Rattle.evaluator.proofs.naming.+formula_names.Given as goal

abbrev pub decreases-formula_names : goal.decreases-formula_names
decreases-formula_names l = nodes (formula_view l.f.now)
