use Rattle.std.proofs.Common.{List, refl, sym, subst}
use Rattle.fixed_point.specs.declared.number.Point.{Point}
use Rattle.polygon.specs.Given.{IsKeptPolygon, points_as_given}
use Rattle.polygon.proofs.BoundLemmas.{kept_bounds}
use Rattle.polygon.proofs.shape.keep.Goals as goal

pub invariant_of-result : goal.invariant_of-result
invariant_of-result c =
    let least = c.bounds_of-least.result.0 in
    let greatest = c.bounds_of-least.result.1 in
    subst (λ (points : List Point). IsKeptPolygon points c.args.reversed least greatest) (sym c.in-Ok.ensures.items) (record {
      stored = c.requires;
      bounds =
          kept_bounds c.args.points.now (points_as_given c.args.points.now c.args.reversed) c.args.reversed c.index-points-0.result least greatest c.requires refl c.index-points-0.is
          c.bounds_of-least.ensures;
    })
