use Rattle.narrowing.proofs.BesideLemmas.{told_needed}
use Rattle.narrowing.proofs.needed.needed_beside.Goals as goal

pub returns-in-Some : goal.returns-in-Some
returns-in-Some c =
    told_needed (λ ids. ids.items) c.args.scene.now c.args.class c.args.neighbour.var c.args.neighbour.most c.in-Some.others.now c.those_beside.result
    c.in-Some.ensures.0 c.those_beside.ensures
