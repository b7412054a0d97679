use Rattle.std.proofs.Common.{length}
use Rattle.live_queries.proofs.objects.+add_object.Given as goal

abbrev pub decreases-add_object : goal.decreases-add_object
decreases-add_object l = length l.columns.now
