use Rattle.std.proofs.Common.{◌-◌, arith}
use Rattle.std.proofs.lemmas.Grind.{common_steps}
use Rattle.std.proofs.lemmas.Int.{ints}
use Rattle.fixed_point.specs.declared.number.TheConstants.{SLOPE_LIMIT}
use Rattle.motion.proofs.Bounds.{near_product}
use Rattle.courses.proofs.lines.value_after.Goals as goal

pub returns-clause-reach : goal.returns-clause-reach
returns-clause-reach c =
    let near = near_product c.rise.result c.args.slope (c.args.to - c.args.from) SLOPE_LIMIT c.rise.ensures.value c.rise.ensures.in_range in
    grind (arith, common_steps, ints, near)
