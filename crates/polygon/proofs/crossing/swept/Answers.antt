use Rattle.std.proofs.Common.{unsigned_abs, arith}
use Rattle.std.proofs.lemmas.Nat.{mul-le}
use Rattle.exact.proofs.Sizes.{steps}
use Rattle.polygon.proofs.crossing.swept.Goals as goal

pub times-requires : goal.times-requires
times-requires c =
    let bound = mul-le (unsigned_abs c.args.way) (unsigned_abs c.args.slope) 2000000000000000000 1000000 c.requires c.raw.ensures.in_range in
    grind (arith, steps)

pub returns-clause-size : goal.returns-clause-size
returns-clause-size c =
    let bound = mul-le (unsigned_abs c.args.way) (unsigned_abs c.args.slope) 2000000000000000000 1000000 c.requires c.raw.ensures.in_range in
    grind (arith, steps)
