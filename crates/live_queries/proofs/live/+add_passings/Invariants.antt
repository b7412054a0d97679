use Rattle.std.proofs.Common.{length}
use Rattle.live_queries.proofs.live.+add_passings.Given as goal

abbrev pub decreases-add_passings : goal.decreases-add_passings
decreases-add_passings l = length l.queries.now
