use Rattle.std.proofs.Common.{ap, ◌∙◌}
use Rattle.plane_index.specs.Rows.{told_range_rows}
use Rattle.plane_index.specs.declared.rows.RangeRow.{RangeRow}
use Rattle.plane_index.proofs.RowLemmas.{row_found}
use Rattle.plane_index.proofs.rows.add_row.Goals as goal

pub returns-in_ok-push : goal.returns-in_ok-push
returns-in_ok-push c =
    let row : RangeRow = record { id = c.args.id; ticks = c.in-Some.ticks } in
    ap told_range_rows c.in_ok-push.ensures.items ∙ row_found c.args.rows.now.items row c.args.found c.in-Some.is c.requires
