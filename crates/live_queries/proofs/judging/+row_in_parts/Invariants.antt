use Rattle.std.proofs.Common.{length}
use Rattle.live_queries.proofs.judging.+row_in_parts.Given as goal

abbrev pub decreases-row_in_parts : goal.decreases-row_in_parts
decreases-row_in_parts l = length l.parts.now
