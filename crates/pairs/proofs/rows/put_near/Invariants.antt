use Rattle.std.proofs.Common.{◌+◌, ◌*◌, ◌≤◌, take}
use Rattle.tick_set.specs.Runs.{spans_have}
use Rattle.evaluator.specs.inner.Filled.{IsFilled, keys_behind}
use Rattle.pairs.specs.Pairs.{holds_in, keys_of}
use Rattle.pairs.proofs.rows.put_near.Given as goal

abbrev pub invariant-others : goal.invariant-others
invariant-others g l = record {
  rows : IsFilled spans_have (holds_in l.scene) (keys_behind l.beside.one.now.id (take l.other-index (keys_of l.beside.others.now))) l.initial.made l.made;
  least : l.initial.reads ≤ l.reads;
  most : l.reads ≤ l.initial.reads + l.other-index * 2;
}
