use Rattle.std.proofs.Common.{refl}
use Rattle.interval_set.proofs.SpanLemmas.{normal_more, ticks_more}
use Rattle.interval_set.proofs.stretch.add_stretch.Goals as goal

pub returns-then-from-until-clause-normal : goal.returns-then-from-until-clause-normal
returns-then-from-until-clause-normal c = rw c.push_reserved.ensures.items (normal_more _ _ c.requires.normal (c.requires.apart c.if-from-until.true))

pub returns-then-from-until-clause-ticks : goal.returns-then-from-until-clause-ticks
returns-then-from-until-clause-ticks c = rw c.push_reserved.ensures.items (ticks_more _ _ _ _ refl refl c.if-from-until.true)
