use Rattle.std.proofs.Common.{length}
use Rattle.kept_rows.proofs.numbers.+place.Given as goal

abbrev pub decreases-place : goal.decreases-place
decreases-place l = length l.variables.now
