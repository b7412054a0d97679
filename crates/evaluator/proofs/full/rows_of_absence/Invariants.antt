use Rattle.std.proofs.Common.{◌+◌, ◌≤◌, ◌&&◌, not, [], ◌∷◌, slice_index, take}
use Rattle.std.specs.List.{flat_map}
use Rattle.tick_set.specs.Ticks.{within}
use Rattle.evaluator.specs.inner.Filled.{IsFilled, keys_behind}
use Rattle.evaluator.proofs.full.rows_of_absence.Given as goal

abbrev pub invariant-ids : goal.invariant-ids
invariant-ids g l = record {
  rows : IsFilled g.S.TickSet.member (λ k t. within l.watched.window.lo l.watched.window.hi t && not (g.I.Interpreter.present l.watched.source.now (slice_index k 0) t))
      (flat_map (λ id. keys_behind id ([] ∷ [])) (take l.id-index l.id-items)) l.initial.away l.away;
  least : l.initial.reads ≤ l.reads;
  most : l.reads ≤ l.initial.reads + l.id-index;
}
