use Rattle.std.proofs.Common.{length}
use Rattle.interval_set.proofs.SpanLemmas.{IsRestFrom}
use Rattle.interval_set.proofs.cursor.past.Given as goal

abbrev pub invariant-loop-s : goal.invariant-loop-s
invariant-loop-s l = IsRestFrom l.at l.spans l.rest

abbrev pub decreases-loop-s : goal.decreases-loop-s
decreases-loop-s l = length l.rest
