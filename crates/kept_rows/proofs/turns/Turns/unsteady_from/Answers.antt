use Rattle.std.proofs.Common.{arith}
use Rattle.kept_rows.specs.Rows.{row_has}
use Rattle.kept_rows.proofs.SteadyLemmas.{steady-more}
use Rattle.kept_rows.proofs.turns.Turns.unsteady_from.Goals as goal

pub numbers-preserved : goal.numbers-preserved
numbers-preserved g c = record {
  least = omega (arith, c.numbers.invariant.least, c.steady_end-end.ensures.least);
  steady = steady-more (row_has g.S.TickSet.member c.args.pages.now) c.args.self.now.seen c.args.now c.args.from c.numbers.number c.steady_end-end.result
      c.numbers.invariant.steady c.steady_end-end.ensures.steady;
}

pub returns-clause-none : goal.returns-clause-none
returns-clause-none g c = λ n h k. c.numbers.invariant.steady n h (omega arith)
