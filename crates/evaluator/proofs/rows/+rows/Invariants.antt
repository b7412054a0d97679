use Rattle.std.proofs.Common.{◌≡◌, ℕ, ◌+◌, ◌*◌, ◌≤◌, ◌&&◌, map, take}
use Rattle.tick_set.specs.Ticks.{within}
use Rattle.formula_shape.specs.Sizes.{nodes}
use Rattle.formula.specs.Tree.{formula_view}
use Rattle.formula.specs.VarSet.{set_has}
use Rattle.formula.specs.Variables.{variables_in, variables_of}
use Rattle.meaning.specs.Satisfaction.{sat}
use Rattle.relation.specs.Frames.{IsIn}
use Rattle.evaluator.specs.Assigned.{assignment_view, run_holds}
use Rattle.evaluator.specs.Gathered.{ShareFrame, some_part_has}
use Rattle.evaluator.specs.Keys.{has_key}
use Rattle.evaluator.specs.Rows.{reads_at_key, reads_upto}
use Rattle.evaluator.proofs.rows.+rows.Given as goal

abbrev pub decreases-rows_of : goal.decreases-rows_of
decreases-rows_of g l = 5 * nodes (formula_view l.f.now)

abbrev pub decreases-rows_of_pair : goal.decreases-rows_of_pair
decreases-rows_of_pair g l = 5 * (nodes (formula_view l.pair.now.left.now) + nodes (formula_view l.pair.now.right.now)) + 2

abbrev pub decreases-rows_beside : goal.decreases-rows_beside
decreases-rows_beside g l = 5 * nodes (formula_view l.f.now) + 1

abbrev pub decreases-rows_of_assignment : goal.decreases-rows_of_assignment
decreases-rows_of_assignment g l = 5 * nodes (formula_view l.scene.now.assignment.now.body.now) + 4

abbrev pub decreases-rows_at_key : goal.decreases-rows_at_key
decreases-rows_at_key g l = 5 * nodes (formula_view l.scene.now.assignment.now.body.now) + 3

abbrev pub decreases-rows_of_runs : goal.decreases-rows_of_runs
decreases-rows_of_runs g l = 5 * nodes (formula_view l.scene.now.assignment.now.body.now) + 2

abbrev pub decreases-rows_of_section : goal.decreases-rows_of_section
decreases-rows_of_section g l = 5 * nodes (formula_view l.part.now.formula.now) + 1

abbrev pub invariant-rows_of_assignment-keys : goal.invariant-rows_of_assignment-keys
invariant-rows_of_assignment-keys g l = record {
  alike : ShareFrame (variables_in (set_has l.set)) l.d l.scene.window.lo l.scene.window.hi l.parts.items;
  ticks : (b : ℕ → ℕ) → IsIn l.d b → (t : ℕ) → some_part_has g.S.TickSet.member l.parts.items b t
      ≡ (within l.scene.window.lo l.scene.window.hi t
      && (has_key (take l.key-index l.key-items) (map b l.term_vars)
      && sat (g.I.Interpreter.interpretation l.scene.source.now b) (assignment_view l.scene.assignment.now) l.scene.values.now l.scene.window.hi t));
  least : l.initial.reads ≤ l.reads;
  most : l.reads ≤ l.initial.reads + l.key-index * reads_at_key l.d l.scene.window.lo l.scene.window.hi l.term_vars (formula_view l.scene.assignment.now.body.now);
}

abbrev pub invariant-rows_of_runs-runs : goal.invariant-rows_of_runs-runs
invariant-rows_of_runs-runs g l = record {
  alike : ShareFrame (variables_of (formula_view l.scene.assignment.now.body.now)) l.d l.scene.window.lo l.scene.window.hi l.parts.items;
  ticks : (b : ℕ → ℕ) → IsIn l.d b → (t : ℕ) → some_part_has g.S.TickSet.member l.parts.items b t
      ≡ (within l.scene.window.lo l.scene.window.hi t
      && run_holds (g.I.Interpreter.interpretation l.scene.source.now) l.scene.assignment.now.depth (formula_view l.scene.assignment.now.body.now) l.scene.values.now l.scene.window.hi (take l.run-index l.runs) b t);
  least : l.initial.reads ≤ l.reads;
  most : l.reads ≤ l.initial.reads + l.run-index * reads_upto l.d l.scene.window.lo l.scene.window.hi (formula_view l.scene.assignment.now.body.now);
}
