use Rattle.replica.proofs.TickLemmas.{combined_is}
use Rattle.replica.proofs.rows.made_anew.Goals as goal

pub returns : goal.returns
returns c = combined_is c.args.operation c.args.old.now c.args.told.now _ (rw c.spans-runs.ensures.value at c.spans-runs.ensures.normal) c.in_ok-made.ensures
