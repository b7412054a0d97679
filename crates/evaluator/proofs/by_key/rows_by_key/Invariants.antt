use Rattle.std.proofs.Common.{◌+◌, ◌*◌, ◌≤◌, length, take}
use Rattle.std.specs.List.{flat_map}
use Rattle.formula.specs.Tree.{formula_view}
use Rattle.evaluator.specs.inner.ByBinding.{holds_at, reads_here}
use Rattle.evaluator.specs.inner.Filled.{IsFilled, keys_behind}
use Rattle.evaluator.proofs.by_key.rows_by_key.Given as goal

abbrev pub invariant-ids : goal.invariant-ids
invariant-ids g l = record {
  rows : IsFilled g.S.TickSet.member (holds_at (g.I.Interpreter.interpretation l.scene.source.now) l.scene.variables.now l.scene.window.lo l.scene.window.hi (formula_view l.scene.formula.now) l.scene.values.now)
      (flat_map (λ id. keys_behind id l.later) (take l.id-index l.id-items)) l.initial.made l.made;
  least : l.initial.reads ≤ l.reads;
  most : l.reads ≤ l.initial.reads + (l.id-index * length l.later) * reads_here l.scene.window.lo l.scene.window.hi (formula_view l.scene.formula.now);
}
