use Rattle.std.proofs.Common.{◌≤◌, unsigned_abs, arith}
use Rattle.std.proofs.lemmas.Nat.{mul-le}
use Rattle.exact.proofs.Sizes.{steps}
use Rattle.linear_crossing.proofs.Slope.{squares_at_least}
use Rattle.linear_crossing.proofs.quad.Quad.at.Goals as goal

pub returns-clause-value : goal.returns-clause-value
returns-clause-value g c = grind (arith, steps)

pub times-requires : goal.times-requires
times-requires g c = grind (arith, steps)

pub times-requires-2 : goal.times-requires-2
times-requires-2 g c = grind (arith, steps)

pub plus-requires : goal.plus-requires
plus-requires g c = grind (arith, steps)

pub returns-clause-size : goal.returns-clause-size
returns-clause-size g c =
    let x : unsigned_abs c.from-x.result ≤ 20000000000000000 = grind (arith, steps) in
    let y : unsigned_abs c.from-y.result ≤ 20000000000000000 = grind (arith, steps) in
    let xx = mul-le (unsigned_abs c.from-x.result) (unsigned_abs c.from-x.result) 20000000000000000 20000000000000000 x x in
    let yy = mul-le (unsigned_abs c.from-y.result) (unsigned_abs c.from-y.result) 20000000000000000 20000000000000000 y y in
    grind (arith, steps)

pub returns-clause-least : goal.returns-clause-least
returns-clause-least g c = squares_at_least c.from-x.result c.from-y.result _ (grind (arith, steps))
