use Rattle.std.proofs.Common.{◌*◌, sym, ◌∙◌, arith}
use Rattle.tick_set.specs.TickList.{has}
use Rattle.kept_rows.proofs.NearLemmas.{found-more, is_cell-at, number-in}
use Rattle.kept_rows.proofs.near.find_in.Goals as goal
use Rattle.kept_rows.proofs.near.find_in.Goals.{then-is_all, else-is_all}

pub cells-preserved : goal.cells-preserved
cells-preserved c = record {
  least = omega arith;
  most = omega arith;
  more = λ n e. c.in_ok-is_free.ensures.more n (c.cells.invariant.more n e);
  free = λ e.
      elim c.if-is_all.branch [
        | then-is_all w ↦ c.cells.invariant.free w.if-is_all.true
        | else-is_all w ↦
            is_cell-at c.args.cells.now c.args.bucket 4294967295 c.cells.at c.cells.invariant.least (omega arith)
            (sym c.cell_at.ensures ∙ c.in_ok-is_free.ensures.free (sym w.is_all-is ∙ e))
      ];
  found = found-more c.args.cells.now c.cells.at c.cell_at.result c.args.asked.from c.args.asked.to (c.args.bucket * 32) c.cells.found.items c.note.new.found.items c.cell_at.ensures
      c.in_ok-is_free.ensures.more c.in_ok-is_free.ensures.here c.cells.invariant.found;
}

pub returns-clause-all : goal.returns-clause-all
returns-clause-all c = λ is_all n h k e.
    number-in c.args.cells.now c.args.bucket n c.cells.at (has c.cells.found.items n) (c.cells.invariant.free is_all) (omega arith)
    (λ i l m f. c.cells.invariant.found i n l m f h k) e
