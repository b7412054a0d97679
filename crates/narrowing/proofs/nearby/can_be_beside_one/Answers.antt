use Rattle.narrowing.proofs.BesideLemmas.{apart_absent, apart_outside}
use Rattle.narrowing.proofs.nearby.can_be_beside_one.Goals as goal

pub returns-in-Some : goal.returns-in-Some
returns-in-Some c never =
    apart_outside c.args.scene.now c.args.most c.args.id c.args.other c.whereabouts.result c.in-Some.area c.grown.result
    c.in-Some.is c.grown.ensures c.whereabouts.ensures (c.can_be_in.ensures never)

pub returns-in-None : goal.returns-in-None
returns-in-None c never =
    apart_absent c.args.scene.now c.args.most c.args.id c.args.other c.whereabouts.result c.in-None.is c.whereabouts.ensures
