use Rattle.std.proofs.Common.{unsigned_abs, arith}
use Rattle.std.proofs.lemmas.Nat.{mul-le}
use Rattle.exact.proofs.Sizes.{steps}
use Rattle.nearest.proofs.SquareLemmas.{square_of_size}
use Rattle.nearest.proofs.squares.squared.Goals as goal

pub overflow_mul-result : goal.overflow_mul-result
overflow_mul-result c =
    let bound = mul-le (unsigned_abs c.args.step) (unsigned_abs c.args.step) 2000000 2000000 c.requires c.requires in
    grind (arith, steps)

pub returns-clause-value : goal.returns-clause-value
returns-clause-value c = let is = square_of_size c.args.step in grind (arith, steps)

pub returns-clause-size : goal.returns-clause-size
returns-clause-size c =
    let bound = mul-le (unsigned_abs c.args.step) (unsigned_abs c.args.step) 2000000 2000000 c.requires c.requires in
    grind (arith, steps)
