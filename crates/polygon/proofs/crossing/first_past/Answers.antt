use Rattle.std.proofs.Common.{unsigned_abs, arith}
use Rattle.std.proofs.lemmas.Nat.{mul-le}
use Rattle.exact.proofs.Sizes.{steps}
use Rattle.polygon.proofs.crossing.first_past.Goals as goal

pub times-width-requires : goal.times-width-requires
times-width-requires c =
    let bound = mul-le (unsigned_abs c.args.first) c.args.lengths 1000000000000000000 4000000000000000000 c.raw.ensures.in_range c.requires.lengths_size in
    grind (arith, steps)

pub minus-requires : goal.minus-requires
minus-requires c =
    let bound = mul-le (unsigned_abs c.args.first) c.args.lengths 1000000000000000000 4000000000000000000 c.raw.ensures.in_range c.requires.lengths_size in
    grind (arith, steps)

pub returns-clause-size : goal.returns-clause-size
returns-clause-size c =
    let bound = mul-le (unsigned_abs c.args.first) c.args.lengths 1000000000000000000 4000000000000000000 c.raw.ensures.in_range c.requires.lengths_size in
    grind (arith, steps)
