use Rattle.std.proofs.Common.{length}
use Rattle.live_queries.proofs.live.+bindings_of.Given as goal

abbrev pub decreases-bindings_of : goal.decreases-bindings_of
decreases-bindings_of l = length l.queries.now
