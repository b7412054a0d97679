use Rattle.std.proofs.Common.{arith}
use Rattle.std.proofs.lemmas.Int.{ints}
use Rattle.fixed_point.specs.declared.number.TheConstants.{SLOPE_LIMIT}
use Rattle.motion.proofs.Bounds.{near_product}
use Rattle.motion.proofs.legs.climb.Goals as goal

pub returns-clause-near : goal.returns-clause-near
returns-clause-near c =
    omega (arith, ints, near_product c.product.result c.args.slope c.args.ticks SLOPE_LIMIT c.product.ensures.value c.product.ensures.in_range)
