use Rattle.narrowing.proofs.BesideLemmas.{needed_of_told}
use Rattle.narrowing.proofs.FailLemmas.{found_atom}
use Rattle.narrowing.proofs.needed.needed_by_atom.Goals as goal

pub returns-in-Some : goal.returns-in-Some
returns-in-Some c =
    needed_of_told (λ ids. ids.items) c.args.scene.now c.args.class c.in-Some.neighbour.var c.in-Some.neighbour.most c.args.var c.args.a.now c.needed_beside.result
    c.in-Some.ensures c.needed_beside.ensures

pub returns-in_ok-found-in-Some-area_of : goal.returns-in_ok-found-in-Some-area_of
returns-in_ok-found-in-Some-area_of c =
    found_atom c.args.scene.now c.args.class c.args.var (λ ids. ids.items)
    c.args.a.now c.in-Some-area_of.area c.in_ok-found-in-Some-area_of.found c.in-Some-area_of.ensures c.in_ok-found-in-Some-area_of.ensures
