use Rattle.std.proofs.Common.{arith}
use Rattle.fixed_point.proofs.DigitLemmas.{read_more}
use Rattle.fixed_point.proofs.reading.split_number.Goals as goal

pub loop-digit-preserved : goal.loop-digit-preserved
loop-digit-preserved c = read_more _ _ _ _ _ _ _ c.loop-digit.invariant (omega (arith, c.loop-digit.invariant.few, c.if-count-most.false)) c.in-Some.ensures.digit
