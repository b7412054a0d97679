use Rattle.std.proofs.Common.{◌≤◌, unsigned_abs, arith}
use Rattle.std.proofs.lemmas.Nat.{mul-le}
use Rattle.exact.proofs.Sizes.{steps}
use Rattle.nearest.proofs.parabola.rise_at.Goals as goal

pub times-bend-requires : goal.times-bend-requires
times-bend-requires c =
    let t : unsigned_abs c.from-steps.result ≤ 2000000001 = grind (arith, steps) in
    let q : unsigned_abs c.from.result ≤ 8000000000000 = grind (arith, steps) in
    let bend = mul-le (unsigned_abs c.from.result) (unsigned_abs c.from-steps.result) 8000000000000 2000000001 q t in
    grind (arith, steps)

pub plus-requires : goal.plus-requires
plus-requires c =
    let t : unsigned_abs c.from-steps.result ≤ 2000000001 = grind (arith, steps) in
    let q : unsigned_abs c.from.result ≤ 8000000000000 = grind (arith, steps) in
    let bend = mul-le (unsigned_abs c.from.result) (unsigned_abs c.from-steps.result) 8000000000000 2000000001 q t in
    let line = c.requires.linear_size in
    grind (arith, steps)
