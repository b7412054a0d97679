use Rattle.std.proofs.Common.{pos, neg_ℤ}
use Rattle.geometry.specs.Margin.{is_inside_by}
use Rattle.narrowing.proofs.AreaLemmas.{between_sides}
use Rattle.narrowing.proofs.atom_area.area_reached.Goals as goal

pub returns-clause-x : goal.returns-clause-x
returns-clause-x c =
    between_sides c.reach.result c.reach-2.result c.negated.result (is_inside_by (neg_ℤ (pos c.args.error)) c.args.polygon.now) (λ p. p.x)
    c.negated.ensures c.reach.ensures c.reach-2.ensures

pub returns-clause-y : goal.returns-clause-y
returns-clause-y c =
    between_sides c.reach-3.result c.reach-4.result c.negated-2.result (is_inside_by (neg_ℤ (pos c.args.error)) c.args.polygon.now) (λ p. p.y)
    c.negated-2.ensures c.reach-3.ensures c.reach-4.ensures
