use Rattle.std.proofs.Common.{sym, arith}
use Rattle.tick_set.proofs.Between.{all_in_from, all_in_fails}
use Rattle.until_merge.proofs.TickByTick.{none_upto}
use Rattle.until_merge.proofs.by_tick.has_all.Goals as goal

pub returns-then-not-has : goal.returns-then-not-has
returns-then-not-has c = sym (all_in_fails _ _ _ c.loop-t.t (omega arith) (omega arith) (sym c.if-not-has.ensures.has))

pub returns : goal.returns
returns c = sym (all_in_from _ _ _ (λ u l k. c.loop-t.invariant u l (omega arith)))

pub returns-else-not-has : goal.returns-else-not-has
returns-else-not-has c = sym (all_in_from _ _ _ (none_upto _ _ _ _ c.loop-t.invariant (sym c.if-not-has.ensures.has) (omega arith)))
