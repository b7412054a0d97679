use Rattle.std.proofs.Common.{length}
use Rattle.formula.proofs.var_set.+listed.Given as goal

abbrev pub decreases-listed : goal.decreases-listed
decreases-listed l = length l.objects.now
