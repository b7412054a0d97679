use Rattle.polygon.proofs.MarginLemmas.{all_corners_inside, no_edge_past_all, no_margin}
use Rattle.polygon.proofs.laws.corners_stand_together.Goals as goal

pub returns-clause-all : goal.returns-clause-all
returns-clause-all c = all_corners_inside

pub returns-clause-some : goal.returns-clause-some
returns-clause-some c = no_edge_past_all

pub returns-clause-itself : goal.returns-clause-itself
returns-clause-itself c = no_margin
