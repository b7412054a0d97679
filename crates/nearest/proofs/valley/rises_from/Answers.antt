use Rattle.std.proofs.Common.{arith}
use Rattle.std.proofs.lemmas.Int.{ints}
use Rattle.nearest.proofs.SquareLemmas.{rises_on}
use Rattle.nearest.proofs.valley.rises_from.Goals as goal

pub returns-then-k-last : goal.returns-then-k-last
returns-then-k-last c = λ is constant j from below. absurd (omega (arith, from, below))

pub returns : goal.returns
returns c = λ is constant.
    rises_on c.args.rise.now.quadratic c.args.rise.now.linear constant c.args.k c.args.last (omega (arith, ints, c.rise_at.ensures))
