use Rattle.std.proofs.Common.{length}
use Rattle.live_queries.proofs.live.+add_changes.Given as goal

abbrev pub decreases-add_changes : goal.decreases-add_changes
decreases-add_changes l = length l.prepared.now.touched.now
