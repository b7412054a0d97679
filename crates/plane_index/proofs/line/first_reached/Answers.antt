use Rattle.std.proofs.Common.{◌≡◌, ◌*◌, ◌<◌, ◌≤◌, pos, ◌<ℤ◌, unsigned_abs, arith}
use Rattle.std.proofs.lemmas.Bool.Decides.{nat_tests}
use Rattle.std.proofs.lemmas.Int.{ints}
use Rattle.plane_index.proofs.LineLemmas.{rounded_up}
use Rattle.plane_index.proofs.line.first_reached.Goals as goal
use Rattle.exact.proofs.Naturals.{factor_above}

pub returns-clause-first : goal.returns-clause-first
returns-clause-first c k up_to =
    let low = c.if-bound-le0.false in
    let near = c.if-rise-from.false in
    let height = c.unsigned_abs-height.ensures.value in
    let some : pos 0 <ℤ c.args.bound = grind (arith, ints, nat_tests, low) in
    let fits = c.ranges.bound.sfits in
    let size : c.unsigned_abs-height.result ≡ unsigned_abs c.args.bound = omega (arith, ints, some, height, fits) in
    let high : 0 < c.unsigned_abs-height.result = omega (arith, ints, some, size) in
    let most : c.unsigned_abs-height.result ≤ c.args.rise * c.from.result = grind (arith, nat_tests, near) in
    let rises : 0 < c.args.rise = factor_above c.args.rise c.unsigned_abs-height.result c.from.result high most in
    rounded_up c.args.rise c.unsigned_abs-height.result c.div_ceil.result k c.args.bound rises some size c.div_ceil.ensures
