use Rattle.std.proofs.Common.{ℕ, sym, subst}
use Rattle.formula.specs.declared.tree.RAtom.TheVariants as atoms
use Rattle.narrowing.specs.Covering.{Covers}
use Rattle.narrowing.proofs.AreaLemmas.{region_covers}
use Rattle.narrowing.proofs.atom_area.area_of_region.Goals as goal

pub returns : goal.returns
returns c =
    let regions = c.args.regions.now in
    subst (λ (u : ℕ). Covers c.args.error regions u (atoms.Inside c.args.v c.args.n) c.area_round.result) c.if-v-var.false
    (region_covers c.corners_stand_together.ensures.some c.args.error regions c.args.v c.args.n c.in_ok-polygon.polygon.now c.area_round.result
    (sym c.in_ok-polygon.ensures) c.area_round.ensures.x c.area_round.ensures.y)
