use Rattle.narrowing.proofs.HoldingLemmas.{lost_atom}
use Rattle.narrowing.proofs.holding.can_atom_hold.Goals as goal

pub returns-in-Some : goal.returns-in-Some
returns-in-Some c never = c.can_be_near.ensures never c.args.var c.args.a.now c.in-Some.ensures

pub returns-in-Some-area_of : goal.returns-in-Some-area_of
returns-in-Some-area_of c never =
    lost_atom c.args.scene.now c.args.var c.args.id c.args.a.now c.in-Some-area_of.area c.in-Some-area_of.ensures (c.can_be_in.ensures never)
