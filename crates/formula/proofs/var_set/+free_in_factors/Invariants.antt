use Rattle.std.proofs.Common.{length}
use Rattle.formula.proofs.var_set.+free_in_factors.Given as goal

abbrev pub decreases-free_in_factors : goal.decreases-free_in_factors
decreases-free_in_factors l = length l.factors.now
