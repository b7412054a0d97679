use Rattle.std.proofs.Common.{unsigned_abs, arith}
use Rattle.std.proofs.lemmas.Nat.{mul-le}
use Rattle.exact.proofs.Sizes.{steps}
use Rattle.geometry.proofs.measures.product.Goals as goal

pub times-requires : goal.times-requires
times-requires c =
    let bound = mul-le (unsigned_abs c.args.a) (unsigned_abs c.args.b) 2000000000000000000 2000000000000000000 c.requires.a_size c.requires.b_size in
    grind (arith, steps)

pub returns-clause-size : goal.returns-clause-size
returns-clause-size c =
    let bound = mul-le (unsigned_abs c.args.a) (unsigned_abs c.args.b) 2000000000000000000 2000000000000000000 c.requires.a_size c.requires.b_size in
    grind (arith, steps)
