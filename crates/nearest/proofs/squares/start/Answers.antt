use Rattle.std.proofs.Common.{unsigned_abs, arith}
use Rattle.std.proofs.lemmas.Nat.{mul-le}
use Rattle.exact.proofs.Sizes.{steps}
use Rattle.nearest.proofs.squares.start.Goals as goal

pub times-of_x-requires : goal.times-of_x-requires
times-of_x-requires c =
    let of_x = mul-le (unsigned_abs c.args.x) (unsigned_abs c.args.x) 2002000000000000 2002000000000000 c.requires.x_size c.requires.x_size in
    grind (arith, steps)

pub times-of_y-requires : goal.times-of_y-requires
times-of_y-requires c =
    let of_y = mul-le (unsigned_abs c.args.y) (unsigned_abs c.args.y) 2002000000000000 2002000000000000 c.requires.y_size c.requires.y_size in
    grind (arith, steps)

pub plus-requires : goal.plus-requires
plus-requires c =
    let of_x = mul-le (unsigned_abs c.args.x) (unsigned_abs c.args.x) 2002000000000000 2002000000000000 c.requires.x_size c.requires.x_size in
    let of_y = mul-le (unsigned_abs c.args.y) (unsigned_abs c.args.y) 2002000000000000 2002000000000000 c.requires.y_size c.requires.y_size in
    grind (arith, steps)

pub returns-clause-value : goal.returns-clause-value
returns-clause-value c = grind (arith, steps)

pub returns-clause-size : goal.returns-clause-size
returns-clause-size c =
    let of_x = mul-le (unsigned_abs c.args.x) (unsigned_abs c.args.x) 2002000000000000 2002000000000000 c.requires.x_size c.requires.x_size in
    let of_y = mul-le (unsigned_abs c.args.y) (unsigned_abs c.args.y) 2002000000000000 2002000000000000 c.requires.y_size c.requires.y_size in
    grind (arith, steps)
