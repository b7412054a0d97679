use Rattle.plane_index.proofs.TouchLemmas.{stale_anyway, stale_now}
use Rattle.plane_index.proofs.index.PlaneIndex.touch.Goals as goal

pub returns-in-Ok : goal.returns-in-Ok
returns-in-Ok c =
    let was = c.self.inside in
    stale_now c.args.id c.in-Ok.place was.states.grid was.ids.items c.deref.result.now was.fresh.items was.states.states c.args.self.now c.self.invariant c.deref.ensures.value
    c.in-Ok.ensures.position c.self.view_is

pub returns-in_default : goal.returns-in_default
returns-in_default c =
    let was = c.self.inside in
    stale_anyway c.args.id c.in_default.field-0 was.states.grid was.ids.items c.deref.result.now was.fresh.items was.states.states c.args.self.now c.self.invariant c.deref.ensures.value
    c.in_default.ensures.position c.self.view_is
