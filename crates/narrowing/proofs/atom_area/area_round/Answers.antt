use Rattle.narrowing.proofs.AreaLemmas.{sides_exactly}
use Rattle.narrowing.proofs.atom_area.area_round.Goals as goal

pub returns-then-error-eq0-clause-x : goal.returns-then-error-eq0-clause-x
returns-then-error-eq0-clause-x c =
    sides_exactly c.corners_stand_together.ensures.itself c.args.error c.if-error-eq0.true c.args.polygon.now (λ p. p.x) c.area_of_polygon.result.x c.area_of_polygon.ensures.x

pub returns-then-error-eq0-clause-y : goal.returns-then-error-eq0-clause-y
returns-then-error-eq0-clause-y c =
    sides_exactly c.corners_stand_together.ensures.itself c.args.error c.if-error-eq0.true c.args.polygon.now (λ p. p.y) c.area_of_polygon.result.y c.area_of_polygon.ensures.y
