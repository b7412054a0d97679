use Rattle.std.proofs.Common.{◌≡◌, ◌++◌, length}
use Rattle.object_rows.proofs.rows.settings.Given as goal

abbrev pub invariant-sets : goal.invariant-sets
invariant-sets l = l.settings ++ l.rest ≡ l.sets

abbrev pub decreases-sets : goal.decreases-sets
decreases-sets l = length l.rest
