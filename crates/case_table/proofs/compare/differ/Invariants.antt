use Rattle.std.proofs.Common.{◌≡◌, length}
use Rattle.case_table.specs.SignRows.{codes_differ}
use Rattle.case_table.proofs.compare.differ.Given as goal

abbrev pub invariant-loop-row : goal.invariant-loop-row
invariant-loop-row l = codes_differ l.rest ≡ codes_differ l.rows

abbrev pub decreases-loop-row : goal.decreases-loop-row
decreases-loop-row l = length l.rest
