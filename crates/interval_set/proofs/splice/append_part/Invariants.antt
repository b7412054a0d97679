use Rattle.std.proofs.Common.{length}
use Rattle.interval_set.proofs.SpliceLemmas.{PartSoFar}
use Rattle.interval_set.proofs.splice.append_part.Given as goal

abbrev pub invariant-spans : goal.invariant-spans
invariant-spans l = PartSoFar l.from l.until l.fn.runs l.spans l.runs l.rest

abbrev pub decreases-spans : goal.decreases-spans
decreases-spans l = length l.rest
