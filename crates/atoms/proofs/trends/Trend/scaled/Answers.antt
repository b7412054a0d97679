use Rattle.std.proofs.Common.{pos, arith}
use Rattle.exact.proofs.Sizes.{steps}
use Rattle.atoms.proofs.TrendLemmas.{multiple_at, opposite_at}
use Rattle.atoms.proofs.trends.Trend.scaled.Goals as goal

pub returns-then-negative-clause-value : goal.returns-then-negative-clause-value
returns-then-negative-clause-value c = λ lo t.
    rw c.if-negative.true
    (opposite_at _ _ lo t (pos c.args.count) c.args.self.rise c.args.self.start (grind (arith, steps)) (grind (arith, steps)))

pub returns-then-negative-clause-small : goal.returns-then-negative-clause-small
returns-then-negative-clause-small c = record { rise = grind (arith, steps); start = grind (arith, steps) }

pub returns-else-negative-clause-value : goal.returns-else-negative-clause-value
returns-else-negative-clause-value c = λ lo t.
    rw c.if-negative.false
    (multiple_at _ _ lo t (pos c.args.count) c.args.self.rise c.args.self.start (grind (arith, steps)) (grind (arith, steps)))
