-- the digits so far, the number that they write, and what follows them
use Rattle.std.proofs.Common.{length}
use Rattle.fixed_point.proofs.DigitLemmas.{IsReadTo}
use Rattle.fixed_point.proofs.reading.split_number.Given as goal

abbrev pub invariant-loop-digit : goal.invariant-loop-digit
invariant-loop-digit l = IsReadTo l.text l.most l.number l.count l.rest

abbrev pub decreases-loop-digit : goal.decreases-loop-digit
decreases-loop-digit l = length l.rest
