use Rattle.std.proofs.Common.{◌≡◌, ◌+◌, ◌≤◌, take}
use Rattle.object_store.specs.Contents.{history_of}
use Rattle.plane.specs.Rows.{rows_among}
use Rattle.plane_index.specs.Rows.{told_range_rows}
use Rattle.plane_index.proofs.rows.rows_of.Given as goal

abbrev pub invariant-objects : goal.invariant-objects
invariant-objects g l = record {
  rows : told_range_rows l.rows.items ≡ rows_among (history_of l.fn.store) l.fn.bounds.attribute l.fn.bounds.lo l.fn.bounds.hi l.fn.w.lo l.fn.w.hi (take l.id-index l.fn.ids);
  least : l.fn.reads ≤ l.reads;
  most : l.reads ≤ l.fn.reads + l.id-index;
}
