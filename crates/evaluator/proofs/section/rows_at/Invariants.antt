use Rattle.std.proofs.Common.{◌&&◌, take}
use Rattle.tick_set.specs.Ticks.{within}
use Rattle.relation.specs.Rows.{has_at}
use Rattle.evaluator.specs.inner.Filled.{IsFilled}
use Rattle.evaluator.proofs.AwayLemmas.{keys_at}
use Rattle.evaluator.proofs.section.rows_at.Given as goal

abbrev pub invariant-places : goal.invariant-places
invariant-places g l = record {
  rows : IsFilled g.S.TickSet.member (λ k t. within l.fn.section.span.lo l.fn.section.span.hi t && has_at g.S.TickSet.member l.rows.rows k t)
      (take l.place (keys_at l.rows)) l.initial.made l.made;
}
