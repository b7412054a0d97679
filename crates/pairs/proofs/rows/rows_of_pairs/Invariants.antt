use Rattle.std.proofs.Common.{◌+◌, ◌*◌, ◌≤◌, length, take}
use Rattle.std.specs.List.{flat_map}
use Rattle.tick_set.specs.Runs.{spans_have}
use Rattle.evaluator.specs.inner.Filled.{IsFilled, keys_behind}
use Rattle.pairs.specs.Pairs.{holds_in, keys_of}
use Rattle.pairs.proofs.rows.rows_of_pairs.Given as goal

abbrev pub invariant-ids : goal.invariant-ids
invariant-ids g l = record {
  rows : IsFilled spans_have (holds_in l.scene) (flat_map (λ id. keys_behind id (keys_of l.others)) (take l.id-index l.id-items)) l.initial.made l.made;
  least : l.initial.reads ≤ l.reads;
  most : l.reads ≤ l.initial.reads + l.id-index * (1 + length l.others * 2);
}
