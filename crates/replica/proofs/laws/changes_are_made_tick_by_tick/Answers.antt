use Rattle.replica.proofs.HaveLemmas.{have_combined}
use Rattle.replica.proofs.laws.changes_are_made_tick_by_tick.Goals as goal

pub returns : goal.returns
returns c = have_combined
