use Rattle.plane.proofs.RowLemmas.{candidates_tell}
use Rattle.plane.proofs.laws.the_rows_are_told_by_candidates.Goals as goal

pub returns : goal.returns
returns c = candidates_tell
