use Rattle.std.proofs.Common.{arith}
use Rattle.exact.proofs.Sizes.{steps}
use Rattle.atoms.proofs.TrendLemmas.{difference_at}
use Rattle.atoms.proofs.trends.Trend.minus.Goals as goal

pub returns-clause-value : goal.returns-clause-value
returns-clause-value c = λ lo t.
    difference_at _ _ lo t c.args.self.rise c.args.self.start c.args.other.rise c.args.other.start (grind (arith, steps)) (grind (arith, steps))
