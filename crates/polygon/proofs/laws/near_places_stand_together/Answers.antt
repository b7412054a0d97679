use Rattle.polygon.proofs.MarginLemmas.{each_near_inside, near_some_inside}
use Rattle.polygon.proofs.laws.near_places_stand_together.Goals as goal

pub returns-clause-each : goal.returns-clause-each
returns-clause-each c = each_near_inside

pub returns-clause-some : goal.returns-clause-some
returns-clause-some c = near_some_inside
