use Rattle.std.proofs.Common.{◌≡◌, ℕ, ◌+◌, ◌*◌, ◌≤◌, ◌&&◌, slice_index, take}
use Rattle.tick_set.specs.Ticks.{within}
use Rattle.formula_shape.specs.Sizes.{nodes}
use Rattle.formula.specs.Tree.{formula_view}
use Rattle.evaluator.specs.Assigned.{run_holds}
use Rattle.evaluator.specs.inner.ByBinding.{any_member, reads_here}
use Rattle.evaluator.proofs.ticks.+ticks.Given as goal

abbrev pub decreases-ticks_of : goal.decreases-ticks_of
decreases-ticks_of g l = 3 * nodes (formula_view l.f.now)

abbrev pub decreases-ticks_of_until : goal.decreases-ticks_of_until
decreases-ticks_of_until g l = 3 * (nodes (formula_view l.until.now.guard.now) + nodes (formula_view l.until.now.goal.now)) + 1

abbrev pub decreases-ticks_of_assignment : goal.decreases-ticks_of_assignment
decreases-ticks_of_assignment g l = 3 * nodes (formula_view l.a.now.body.now) + 2

abbrev pub decreases-ticks_of_section : goal.decreases-ticks_of_section
decreases-ticks_of_section g l = 3 * nodes (formula_view l.f.now) + 1

abbrev pub invariant-ticks_of_assignment-each : goal.invariant-ticks_of_assignment-each
invariant-ticks_of_assignment-each g l = record {
  ticks : (t : ℕ) → any_member g.S.TickSet.member l.parts.items t
      ≡ (within l.w.lo l.w.hi t
      && run_holds (g.I.Interpreter.interpretation l.here.source.now) l.a.depth (formula_view l.a.body.now) l.here.values.now l.w.hi (take l.run-index l.run-items) (slice_index l.here.binding.now) t);
  least : l.initial.reads ≤ l.reads;
  most : l.reads ≤ l.initial.reads + l.run-index * reads_here l.w.lo l.w.hi (formula_view l.a.body.now);
}
