use Rattle.std.proofs.Common.{◌≡◌, take}
use Rattle.motion.specs.Cells.{AreCellsAt}
use Rattle.object_store.specs.Changes.{fresh_cells}
use Rattle.object_store.proofs.cells.fresh.Given as goal

abbrev pub invariant-loop-attr : goal.invariant-loop-attr
invariant-loop-attr l = record {
  cells : l.cells.items ≡ fresh_cells l.now (take l.attr-index l.attrs);
  written : AreCellsAt l.cells.items l.now;
}
