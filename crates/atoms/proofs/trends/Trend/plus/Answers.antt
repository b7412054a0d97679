use Rattle.std.proofs.Common.{arith}
use Rattle.exact.proofs.Sizes.{steps}
use Rattle.atoms.proofs.TrendLemmas.{sum_at}
use Rattle.atoms.proofs.trends.Trend.plus.Goals as goal

pub returns-clause-value : goal.returns-clause-value
returns-clause-value c = λ lo t.
    sum_at _ _ lo t c.args.self.rise c.args.self.start c.args.other.rise c.args.other.start (grind (arith, steps)) (grind (arith, steps))
