use Rattle.narrowing.proofs.BesideLemmas.{beside_lost}
use Rattle.narrowing.proofs.holding.can_be_near.Goals as goal

pub returns-in-Some : goal.returns-in-Some
returns-in-Some c never v a needs =
    beside_lost c.args.scene.now v c.args.neighbour.var c.args.neighbour.most a needs c.in-Some.others.now c.in-Some.ensures.0 c.args.id
    (c.can_be_beside.ensures never)
