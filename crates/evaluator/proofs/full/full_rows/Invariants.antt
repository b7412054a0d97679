use Rattle.std.proofs.Common.{ℕ, ◌+◌, ◌≤◌}
use Rattle.std.specs.List.{sum_by}
use Rattle.tick_set.specs.Ticks.{between}
use Rattle.formula.specs.Tree.{formula_view}
use Rattle.formula.specs.Value.{no_values}
use Rattle.meaning.specs.Satisfaction.{sat}
use Rattle.relation.specs.Frames.{domain_size}
use Rattle.evaluator.specs.Rows.{AreRowsWhere}
use Rattle.evaluator.proofs.FullLemmas.{holds_upto, variables_upto}
use Rattle.evaluator.proofs.full.full_rows.Given as goal

abbrev pub invariant-vars : goal.invariant-vars
invariant-vars g l =
    let f = formula_view l.q.formula in
    let holds = λ (b : ℕ → ℕ) (t : ℕ). sat (g.I.Interpreter.interpretation l.source b) f no_values l.w.hi t in
    let present = g.I.Interpreter.present l.source in
    record {
      rows : AreRowsWhere g.S.TickSet.member l.d l.w.lo l.w.hi
          (variables_upto f l.var)
          (holds_upto holds present l.var) l.made;
      least : l.initial.reads ≤ l.reads;
      most : l.reads ≤ l.initial.reads + sum_by (domain_size l.d) (between 0 l.var);
    }
