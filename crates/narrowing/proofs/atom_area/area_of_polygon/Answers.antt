use Rattle.std.proofs.Common.{◌≡◌, true, sym, subst}
use Rattle.object_store.specs.Areas.{is_between_sides}
use Rattle.object_store.specs.declared.areas.Sides.{Sides}
use Rattle.narrowing.proofs.AreaLemmas.{among_x, among_y}
use Rattle.narrowing.proofs.atom_area.area_of_polygon.Goals as goal

pub returns-clause-x : goal.returns-clause-x
returns-clause-x c p inside =
    let b = c.bounds-least.result in
    subst (λ (sides : Sides). is_between_sides sides p.x ≡ true) (sym c.sides_from.ensures)
    (among_x b.0 b.1 p (c.polygons_lie_among_their_vertices.ensures c.args.polygon.now b.0 b.1 p c.bounds-least.ensures.among c.len.ensures.polygon.convex inside))

pub returns-clause-y : goal.returns-clause-y
returns-clause-y c p inside =
    let b = c.bounds-least.result in
    subst (λ (sides : Sides). is_between_sides sides p.y ≡ true) (sym c.sides_from-2.ensures)
    (among_y b.0 b.1 p (c.polygons_lie_among_their_vertices.ensures c.args.polygon.now b.0 b.1 p c.bounds-least.ensures.among c.len.ensures.polygon.convex inside))
