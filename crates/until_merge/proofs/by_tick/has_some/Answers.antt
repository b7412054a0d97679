use Rattle.std.proofs.Common.{sym, arith}
use Rattle.tick_set.proofs.Between.{some_in_at, some_in_none}
use Rattle.until_merge.proofs.TickByTick.{none_upto}
use Rattle.until_merge.proofs.by_tick.has_some.Goals as goal

pub returns-then-has : goal.returns-then-has
returns-then-has c = sym (some_in_at _ _ _ c.loop-t.t (omega arith) (omega arith) (sym c.if-has.ensures.has))

pub returns : goal.returns
returns c = sym (some_in_none _ _ _ (λ u l k. c.loop-t.invariant u l (omega arith)))

pub returns-else-has : goal.returns-else-has
returns-else-has c = sym (some_in_none _ _ _ (none_upto _ _ _ _ c.loop-t.invariant (sym c.if-has.ensures.has) (omega arith)))
