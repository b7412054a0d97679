use Rattle.std.proofs.Common.{length}
use Rattle.live_queries.proofs.objects.+width.Given as goal

abbrev pub decreases-width : goal.decreases-width
decreases-width l = length l.columns.now
