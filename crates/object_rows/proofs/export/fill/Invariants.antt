use Rattle.std.proofs.Common.{◌≡◌, ◌++◌, [], length}
use Rattle.std.specs.List.{flat_map}
use Rattle.csv.specs.Records.{fields_of, partial_of}
use Rattle.motion.specs.Cells.{AreCellsAt}
use Rattle.object_rows.specs.Exported.{cell_fields, object_fields}
use Rattle.object_rows.proofs.export.fill.Given as goal

-- the fields so far and those of the cells that are left make the whole
abbrev pub invariant-cells : goal.invariant-cells
invariant-cells l = record {
  fields : fields_of l.row ++ flat_map (cell_fields l.now) l.rest ≡ object_fields l.now l.name l.cells;
  partial : partial_of l.row ≡ [];
  written : AreCellsAt l.rest l.now;
}

abbrev pub decreases-cells : goal.decreases-cells
decreases-cells l = length l.rest
