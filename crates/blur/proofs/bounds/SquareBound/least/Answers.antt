use Rattle.std.proofs.Common.{◌∙◌, arith}
use Rattle.linear_crossing.specs.Moving.{position_after}
use Rattle.blur.proofs.BoundLemmas.{least_is}
use Rattle.blur.proofs.bounds.SquareBound.least.Goals as goal

pub returns : goal.returns
returns c = λ k. c.between.ensures k ∙ least_is c.args.error _ (position_after c.args.from.now k) (position_after c.args.to.now k) (omega arith)
