use Rattle.std.proofs.Common.{length}
use Rattle.live_queries.proofs.live.+advance_each.Given as goal

abbrev pub decreases-advance_each : goal.decreases-advance_each
decreases-advance_each l = length l.queries.now
