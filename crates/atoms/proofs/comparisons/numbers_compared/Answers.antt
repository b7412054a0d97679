use Rattle.std.proofs.Common.{arith}
use Rattle.exact.proofs.Sizes.{steps}
use Rattle.linear_crossing.specs.Zones.{line_at}
use Rattle.atoms.proofs.CompareLemmas.{crossed}
use Rattle.atoms.proofs.comparisons.numbers_compared.Goals as goal

pub returns : goal.returns
returns c =
    let lo = c.args.span.lo in
    let above = c.minus-above.result in
    crossed c.args.op (line_at c.args.left.rise c.args.left.start lo) (line_at c.args.right.rise c.args.right.start lo) _ _ above.rise above.start lo c.args.span.hi
    c.window.result c.solve.result _ c.window.ensures.0 c.window.ensures.1 (grind (arith, steps)) (grind (arith, steps))
    (c.minus-above.ensures.value lo) c.two_runs.ensures c.solve.ensures
