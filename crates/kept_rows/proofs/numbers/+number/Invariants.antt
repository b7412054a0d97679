use Rattle.std.proofs.Common.{length}
use Rattle.kept_rows.proofs.numbers.+number.Given as goal

abbrev pub decreases-number : goal.decreases-number
decreases-number l = length l.variables.now
