use Rattle.std.proofs.Common.{ap, sym, ◌∙◌}
use Rattle.std.specs.Option.{option_copied}
use Rattle.courses.specs.Parts.{epochs_of_each}
use Rattle.courses.specs.Places.{place_of}
use Rattle.meaning.specs.Atom.{position_in}
use Rattle.atoms.specs.Parts.{trace_by}
use Rattle.atoms.proofs.RouteLemmas.{on_route, placed, written_later}
use Rattle.atoms.proofs.routes.route_of.Goals as goal

pub returns-clause-places : goal.returns-clause-places
returns-clause-places c =
    let w = c.args.traces.now.w in
    let variables = c.args.traces.now.variables.now in
    let timelines = epochs_of_each c.args.traces.now.timelines.now in
    let p = c.in_ok-epoch.epoch.now in
    on_route c.route_in.result w.lo w.hi (λ t. position_in t (trace_by variables timelines c.args.v t)) (place_of p)
    (λ t from up_to.
    placed variables timelines c.args.v t c.in_ok-timeline.timeline.now p (sym (sym c.timeline_of.ensures ∙ ap option_copied c.in_ok-timeline.was))
    (c.in_ok-epoch.ensures.in_force t from up_to))
    c.route_in.ensures.places

pub returns-clause-written : goal.returns-clause-written
returns-clause-written c = written_later c.route_in.result c.in_ok-epoch.epoch.now.from c.args.traces.now.w.lo c.in_ok-epoch.ensures.begun c.route_in.ensures.written
