use Rattle.narrowing.proofs.BesideLemmas.{told_with_near, with_none}
use Rattle.narrowing.proofs.nearby.push_beside.Goals as goal

pub returns-in-Some : goal.returns-in-Some
returns-in-Some c =
    told_with_near c.args.scene.now c.args.sought.now.class c.args.sought.now.most c.args.other c.whereabouts.result c.in-Some.area c.grown.result c.args.ids.now.items
    c.push_near.new.ids.items c.push_near.result c.in-Some.is c.grown.ensures c.whereabouts.ensures c.push_near.ensures

pub returns-in-None : goal.returns-in-None
returns-in-None c so =
    with_none c.args.scene.now c.args.sought.now.class c.args.sought.now.most c.args.other c.whereabouts.result c.args.ids.now.items c.in-None.is c.whereabouts.ensures
