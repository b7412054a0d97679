use Rattle.csv.specs.Records.{fields_of}
use Rattle.object_rows.specs.Exported.{cell_fields}
use Rattle.object_rows.proofs.ExportLemmas.{later_cells, parts_more}
use Rattle.object_rows.proofs.export.fill.Goals as goal

pub cells-preserved : goal.cells-preserved
cells-preserved c = record {
  fields = parts_more (cell_fields c.args.now) c.in-Some.cell.now c.cells.rest.now c.in-Some.later.now (fields_of c.cells.row) (fields_of c.push_cell.new.row) _
      c.in-Some.ensures.cases.0 c.in_ok-push_cell.ensures.fields c.cells.invariant.fields;
  partial = c.in_ok-push_cell.ensures.partial;
  written = later_cells c.cells.rest.now c.in-Some.later.now c.in-Some.cell.now c.args.now c.in-Some.ensures.cases.0 c.cells.invariant.written;
}
