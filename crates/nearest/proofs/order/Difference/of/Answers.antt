use Rattle.std.proofs.Common.{arith}
use Rattle.exact.proofs.Sizes.{steps}
use Rattle.nearest.proofs.SquareLemmas.{differs}
use Rattle.nearest.proofs.order.Difference.of.Goals as goal

pub returns : goal.returns
returns c = λ k.
    let p = c.args.first.now in
    let o = c.args.second.now in
    differs p.quadratic o.quadratic p.linear p.constant o.linear o.constant _ _ k c.requires (grind (arith, steps)) (grind (arith, steps))
