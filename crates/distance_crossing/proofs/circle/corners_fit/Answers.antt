use Rattle.std.proofs.Common.{◌≤◌, unsigned_abs, arith}
use Rattle.std.proofs.lemmas.Nat.{mul-le}
use Rattle.exact.proofs.Sizes.{steps}
use Rattle.distance_crossing.proofs.circle.corners_fit.Goals as goal

pub times-requires : goal.times-requires
times-requires c =
    let ab = mul-le (unsigned_abs c.args.a) (unsigned_abs c.args.b) 4000000000000 4000000000000 c.requires.sizes.a_most c.requires.sizes.b_most in
    grind (arith, steps)

pub times-sides-requires : goal.times-sides-requires
times-sides-requires c =
    let ab = mul-le (unsigned_abs c.args.a) (unsigned_abs c.args.b) 4000000000000 4000000000000 c.requires.sizes.a_most c.requires.sizes.b_most in
    let first : unsigned_abs c.times.result ≤ 16000000000000000000000000 = grind (arith, steps) in
    let all = mul-le (unsigned_abs c.times.result) (unsigned_abs c.args.c) 16000000000000000000000000 4000000000000 first c.requires.sizes.c_most in
    grind (arith, steps)

pub times-requires-2 : goal.times-requires-2
times-requires-2 c =
    let ab = mul-le (unsigned_abs c.args.a) (unsigned_abs c.args.b) 4000000000000 4000000000000 c.requires.sizes.a_most c.requires.sizes.b_most in
    grind (arith, steps)

pub times-requires-3 : goal.times-requires-3
times-requires-3 c =
    let ab = mul-le (unsigned_abs c.args.a) (unsigned_abs c.args.b) 4000000000000 4000000000000 c.requires.sizes.a_most c.requires.sizes.b_most in
    let area : unsigned_abs c.times-2.result ≤ 16000000000000000000000000 = grind (arith, steps) in
    let all = mul-le (unsigned_abs c.args.width) (unsigned_abs c.times-2.result) 4000000000000 16000000000000000000000000 c.requires.width_most area in
    grind (arith, steps)

pub returns : goal.returns
returns c = grind (arith, steps)
