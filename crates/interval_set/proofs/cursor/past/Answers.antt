use Rattle.interval_set.proofs.SpanLemmas.{rest_later, rest_ticks}
use Rattle.interval_set.proofs.cursor.past.Goals as goal

pub loop-s-preserved : goal.loop-s-preserved
loop-s-preserved c = rest_later _ _ _ _ _ c.loop-s.invariant c.in-Some.ensures.cases.0 c.if-s-at.false

pub returns-then-s-at-clause-ticks : goal.returns-then-s-at-clause-ticks
returns-then-s-at-clause-ticks c = rest_ticks _ _ _ c.loop-s.invariant
