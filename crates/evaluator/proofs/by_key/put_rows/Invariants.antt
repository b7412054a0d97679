use Rattle.std.proofs.Common.{◌+◌, ◌*◌, ◌≤◌, take}
use Rattle.formula.specs.Tree.{formula_view}
use Rattle.evaluator.specs.inner.ByBinding.{holds_at, reads_here}
use Rattle.evaluator.specs.inner.Filled.{IsFilled, keys_behind}
use Rattle.evaluator.proofs.by_key.put_rows.Given as goal

abbrev pub invariant-keys : goal.invariant-keys
invariant-keys g l = record {
  rows : IsFilled g.S.TickSet.member (holds_at (g.I.Interpreter.interpretation l.scene.source.now) l.scene.variables.now l.scene.window.lo l.scene.window.hi (formula_view l.scene.formula.now) l.scene.values.now)
      (keys_behind l.behind.id (take l.key-index l.behind.later.now)) l.initial.made l.made;
  least : l.initial.reads ≤ l.reads;
  most : l.reads ≤ l.initial.reads + l.key-index * reads_here l.scene.window.lo l.scene.window.hi (formula_view l.scene.formula.now);
}
