use Rattle.std.proofs.Common.{◌≡◌, true, false, refl, sym}
use Rattle.std.proofs.lemmas.Bool.{false≢true}
use Rattle.narrowing.proofs.WhereaboutsLemmas.{box_apart}
use Rattle.narrowing.proofs.whereabouts.meets_polygon.Goals as goal

pub returns-then-meet : goal.returns-then-meet
returns-then-meet c never p inside =
    let b = c.bounds-least.result in
    box_apart c.args.area.now b.0 b.1 p true c.meet-then-meet.result never (λ e. absurd (false≢true (sym e))) c.meet-then-meet.ensures
    (c.polygons_lie_among_their_vertices.ensures c.args.polygon.now b.0 b.1 p c.bounds-least.ensures.among c.len.ensures.polygon.convex inside)

pub returns-else-meet : goal.returns-else-meet
returns-else-meet c never p inside =
    let b = c.bounds-least.result in
    box_apart c.args.area.now b.0 b.1 p false true refl (λ e. c.meet.ensures never) (λ e. absurd (false≢true (sym e)))
    (c.polygons_lie_among_their_vertices.ensures c.args.polygon.now b.0 b.1 p c.bounds-least.ensures.among c.len.ensures.polygon.convex inside)
