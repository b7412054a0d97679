use Rattle.std.proofs.Common.{◌+◌, ◌≤◌, ◌&&◌, not, slice_index, take}
use Rattle.tick_set.specs.Ticks.{within}
use Rattle.evaluator.specs.inner.Filled.{IsFilled}
use Rattle.evaluator.proofs.AwayLemmas.{keys_at}
use Rattle.evaluator.proofs.full.absence_of_rows.Given as goal

abbrev pub invariant-places : goal.invariant-places
invariant-places g l = record {
  rows : IsFilled g.S.TickSet.member (λ k t. within l.watched.window.lo l.watched.window.hi t && not (g.I.Interpreter.present l.watched.source.now (slice_index k 0) t))
      (take l.place (keys_at l.rows)) l.initial.away l.away;
  least : l.initial.reads ≤ l.reads;
  most : l.reads ≤ l.initial.reads + l.place;
}
