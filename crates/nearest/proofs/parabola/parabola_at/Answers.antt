use Rattle.std.proofs.Common.{◌≤◌, unsigned_abs, arith}
use Rattle.std.proofs.lemmas.Nat.{mul-le}
use Rattle.exact.proofs.Sizes.{steps}
use Rattle.nearest.proofs.parabola.parabola_at.Goals as goal

pub times-squared-requires : goal.times-squared-requires
times-squared-requires c =
    let t : unsigned_abs c.from-ticks.result ≤ 1000000000 = grind (arith, steps) in
    let tt = mul-le (unsigned_abs c.from-ticks.result) (unsigned_abs c.from-ticks.result) 1000000000 1000000000 t t in
    grind (arith, steps)

pub times-bend-requires : goal.times-bend-requires
times-bend-requires c =
    let t : unsigned_abs c.from-ticks.result ≤ 1000000000 = grind (arith, steps) in
    let tt = mul-le (unsigned_abs c.from-ticks.result) (unsigned_abs c.from-ticks.result) 1000000000 1000000000 t t in
    let s : unsigned_abs c.times-squared.result ≤ 1000000000000000000 = grind (arith, steps) in
    let q : unsigned_abs c.from.result ≤ 8000000000000 = grind (arith, steps) in
    let bend = mul-le (unsigned_abs c.from.result) (unsigned_abs c.times-squared.result) 8000000000000 1000000000000000000 q s in
    grind (arith, steps)

pub times-line-requires : goal.times-line-requires
times-line-requires c =
    let t : unsigned_abs c.from-ticks.result ≤ 1000000000 = grind (arith, steps) in
    let line = mul-le (unsigned_abs c.args.linear) (unsigned_abs c.from-ticks.result) 40000000000000000000000 1000000000 c.requires.linear_size t in
    grind (arith, steps)

pub plus-rise-requires : goal.plus-rise-requires
plus-rise-requires c =
    let t : unsigned_abs c.from-ticks.result ≤ 1000000000 = grind (arith, steps) in
    let tt = mul-le (unsigned_abs c.from-ticks.result) (unsigned_abs c.from-ticks.result) 1000000000 1000000000 t t in
    let s : unsigned_abs c.times-squared.result ≤ 1000000000000000000 = grind (arith, steps) in
    let q : unsigned_abs c.from.result ≤ 8000000000000 = grind (arith, steps) in
    let bend = mul-le (unsigned_abs c.from.result) (unsigned_abs c.times-squared.result) 8000000000000 1000000000000000000 q s in
    let line = mul-le (unsigned_abs c.args.linear) (unsigned_abs c.from-ticks.result) 40000000000000000000000 1000000000 c.requires.linear_size t in
    grind (arith, steps)

pub plus-requires : goal.plus-requires
plus-requires c =
    let t : unsigned_abs c.from-ticks.result ≤ 1000000000 = grind (arith, steps) in
    let tt = mul-le (unsigned_abs c.from-ticks.result) (unsigned_abs c.from-ticks.result) 1000000000 1000000000 t t in
    let s : unsigned_abs c.times-squared.result ≤ 1000000000000000000 = grind (arith, steps) in
    let q : unsigned_abs c.from.result ≤ 8000000000000 = grind (arith, steps) in
    let bend = mul-le (unsigned_abs c.from.result) (unsigned_abs c.times-squared.result) 8000000000000 1000000000000000000 q s in
    let line = mul-le (unsigned_abs c.args.linear) (unsigned_abs c.from-ticks.result) 40000000000000000000000 1000000000 c.requires.linear_size t in
    let last = c.requires.constant_size in
    grind (arith, steps)

pub returns : goal.returns
returns c = grind (arith, steps)
