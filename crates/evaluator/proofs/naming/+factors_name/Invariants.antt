use Rattle.std.proofs.Common.{length}
use Rattle.evaluator.proofs.naming.+factors_name.Given as goal

abbrev pub decreases-factors_name : goal.decreases-factors_name
decreases-factors_name l = length l.factors.now
