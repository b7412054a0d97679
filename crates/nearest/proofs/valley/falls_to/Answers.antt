use Rattle.std.proofs.Common.{arith}
use Rattle.std.proofs.lemmas.Int.{ints}
use Rattle.nearest.proofs.SquareLemmas.{falls_before}
use Rattle.nearest.proofs.valley.falls_to.Goals as goal

pub returns-then-k-eq0 : goal.returns-then-k-eq0
returns-then-k-eq0 c = λ is constant j below. absurd (omega (arith, below))

pub returns-then-rise_at-lt0 : goal.returns-then-rise_at-lt0
returns-then-rise_at-lt0 c = λ is constant.
    falls_before c.args.rise.now.quadratic c.args.rise.now.linear constant c.args.k (omega arith) (omega (arith, ints, c.rise_at.ensures))
