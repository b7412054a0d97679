use Rattle.std.proofs.Common.{unsigned_abs, arith}
use Rattle.std.proofs.lemmas.Nat.{mul-le}
use Rattle.exact.proofs.Sizes.{steps}
use Rattle.nearest.proofs.squares.drift.Goals as goal

pub times-along_x-requires : goal.times-along_x-requires
times-along_x-requires c =
    let of_x = mul-le (unsigned_abs c.args.x) (unsigned_abs c.args.dx) 2002000000000000 2000000 c.requires.x_size c.requires.dx_size in
    grind (arith, steps)

pub times-along_y-requires : goal.times-along_y-requires
times-along_y-requires c =
    let of_y = mul-le (unsigned_abs c.args.y) (unsigned_abs c.args.dy) 2002000000000000 2000000 c.requires.y_size c.requires.dy_size in
    grind (arith, steps)

pub plus-along-requires : goal.plus-along-requires
plus-along-requires c =
    let of_x = mul-le (unsigned_abs c.args.x) (unsigned_abs c.args.dx) 2002000000000000 2000000 c.requires.x_size c.requires.dx_size in
    let of_y = mul-le (unsigned_abs c.args.y) (unsigned_abs c.args.dy) 2002000000000000 2000000 c.requires.y_size c.requires.dy_size in
    grind (arith, steps)

pub times-requires : goal.times-requires
times-requires c =
    let of_x = mul-le (unsigned_abs c.args.x) (unsigned_abs c.args.dx) 2002000000000000 2000000 c.requires.x_size c.requires.dx_size in
    let of_y = mul-le (unsigned_abs c.args.y) (unsigned_abs c.args.dy) 2002000000000000 2000000 c.requires.y_size c.requires.dy_size in
    grind (arith, steps)

pub returns-clause-value : goal.returns-clause-value
returns-clause-value c = grind (arith, steps)

pub returns-clause-size : goal.returns-clause-size
returns-clause-size c =
    let of_x = mul-le (unsigned_abs c.args.x) (unsigned_abs c.args.dx) 2002000000000000 2000000 c.requires.x_size c.requires.dx_size in
    let of_y = mul-le (unsigned_abs c.args.y) (unsigned_abs c.args.dy) 2002000000000000 2000000 c.requires.y_size c.requires.dy_size in
    grind (arith, steps)
