use Rattle.std.proofs.Common.{arith}
use Rattle.std.proofs.lemmas.Nat.{mul-le}
use Rattle.exact.proofs.Sizes.{steps}
use Rattle.blur.proofs.bounds.sum_of_squares.Goals as goal

pub times-of_x-requires : goal.times-of_x-requires
times-of_x-requires c =
    let of_x = mul-le c.args.x c.args.x 10000000000000000 10000000000000000 c.requires.x_size c.requires.x_size in
    grind (arith, steps)

pub times-of_y-requires : goal.times-of_y-requires
times-of_y-requires c =
    let of_y = mul-le c.args.y c.args.y 10000000000000000 10000000000000000 c.requires.y_size c.requires.y_size in
    grind (arith, steps)

pub plus-requires : goal.plus-requires
plus-requires c =
    let of_x = mul-le c.args.x c.args.x 10000000000000000 10000000000000000 c.requires.x_size c.requires.x_size in
    let of_y = mul-le c.args.y c.args.y 10000000000000000 10000000000000000 c.requires.y_size c.requires.y_size in
    grind (arith, steps)

pub returns : goal.returns
returns c = grind (arith, steps)
