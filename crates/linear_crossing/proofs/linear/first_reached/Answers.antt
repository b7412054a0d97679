use Rattle.std.proofs.Common.{ℕ, ◌-◌, ◌*◌, ◌<◌, ◌≤◌, arith}
use Rattle.std.proofs.lemmas.Bool.Decides.{nat_tests}
use Rattle.std.proofs.lemmas.Int.{ints}
use Rattle.linear_crossing.proofs.Rounding.{rounded_up}
use Rattle.linear_crossing.proofs.linear.first_reached.Goals as goal
use Rattle.exact.proofs.Naturals.{factor_above, rounded_few}

deep : (c : goal.After-div_ceil-first) → 0 < c.unsigned_abs-depth.result
deep c = omega (arith, ints)

reaches : (c : goal.After-div_ceil-first) → c.unsigned_abs-depth.result ≤ c.args.rise * c.from.result
reaches c = omega arith

rises : (c : goal.After-div_ceil-first) → 0 < c.args.rise
rises c = factor_above c.args.rise c.unsigned_abs-depth.result c.from.result (deep c) (reaches c)

pub returns-clause-bound : goal.returns-clause-bound
returns-clause-bound c =
    let few : c.div_ceil-first.result ≤ c.from.result
    = rounded_few c.args.rise c.unsigned_abs-depth.result c.div_ceil-first.result c.from.result (rises c) (reaches c) c.div_ceil-first.ensures in
    omega arith

pub returns-clause-first : goal.returns-clause-first
returns-clause-first c k l =
    rounded_up c.args.rise c.unsigned_abs-depth.result c.div_ceil-first.result k c.args.start (rises c) (omega (arith, ints)) (omega (arith, ints)) c.div_ceil-first.ensures
