use Rattle.formula_shape.specs.ShapeCode.{shape_of-listed}
use Rattle.formula_shape.proofs.nodes_give_the_formula_back.Goals as goal

pub returns : goal.returns
returns g c = shape_of-listed
