use Rattle.std.proofs.Common.{◌≡◌, to_z, of_z, w64, ◌-ℤ◌, ap, sym, ◌∙◌, arith}
use Rattle.exact.proofs.Sizes.{steps}
use Rattle.narrowing.specs.Reaching.{ahead_by, aside_by}
use Rattle.narrowing.proofs.ReachLemmas.{opposite_way}
use Rattle.narrowing.proofs.reaching.Way.between.Goals as goal

pub returns-in-Left-clause-aside : goal.returns-in-Left-clause-aside
returns-in-Left-clause-aside c =
    let passed : to_z w64 (of_z w64 c.apart-in-Left-2.result) ≡ c.apart-in-Left-2.result = grind (arith, steps, c.apart-in-Left-2.ensures.size) in
    passed ∙ c.apart-in-Left-2.ensures.value ∙ opposite_way c.args.from.y c.args.to.y
    ∙ sym (ap (λ direction. aside_by direction (c.args.to.x -ℤ c.args.from.x) (c.args.to.y -ℤ c.args.from.y)) c.in-Left.is)

pub returns-in-Down-clause-ahead : goal.returns-in-Down-clause-ahead
returns-in-Down-clause-ahead c =
    let passed : to_z w64 (of_z w64 c.apart-in-Down.result) ≡ c.apart-in-Down.result = grind (arith, steps, c.apart-in-Down.ensures.size) in
    passed ∙ c.apart-in-Down.ensures.value ∙ opposite_way c.args.from.y c.args.to.y
    ∙ sym (ap (λ direction. ahead_by direction (c.args.to.x -ℤ c.args.from.x) (c.args.to.y -ℤ c.args.from.y)) c.in-Down.is)
