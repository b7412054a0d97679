use Rattle.std.proofs.Common.{arith}
use Rattle.kept_rows.specs.Rows.{row_has}
use Rattle.kept_rows.proofs.SlotLemmas.{free_more}
use Rattle.kept_rows.proofs.marks.Marks.next.Goals as goal

pub numbers-preserved : goal.numbers-preserved
numbers-preserved g c = record {
  least = omega (arith, c.numbers.invariant.least, c.free_end-end.ensures.least);
  free = free_more (row_has g.S.TickSet.member c.args.pages.now) c.args.slots c.args.from c.numbers.number c.free_end-end.result
      c.numbers.invariant.free c.free_end-end.ensures.free;
}

pub returns-clause-none : goal.returns-clause-none
returns-clause-none g c = λ n t h k. c.numbers.invariant.free n t h (omega arith)
