use Rattle.std.proofs.Common.{◌≡◌, ◌∙◌, ◌∷◌, ap, sym}
use Rattle.csv.specs.Records.{fields_of}
use Rattle.object_rows.specs.Reader.{left_in}
use Rattle.object_rows.proofs.RowLemmas.{row_next, rows_left}
use Rattle.object_rows.proofs.reading.objects.Goals as goal

pub rows-preserved : goal.rows-preserved
rows-preserved c =
    let taken : left_in c.rows.reader ≡ fields_of c.next_row.new.row ∷ left_in c.next_row.new.reader = rw c.if-branch.true at c.in_ok-next_row.ensures.left in
    record {
      between = c.in_ok-next_row.ensures.between c.if-branch.true;
      room = c.row_of.ensures.room;
      whole =
          row_next c.args.columns.now c.rows.objects.items (fields_of c.next_row.new.row) c.in-Some.object (left_in c.rows.reader)
          (left_in c.next_row.new.reader) _
          (sym c.in-Some.is ∙ c.in_ok-object.ensures.ok) taken c.rows.invariant.whole
          ∙ ap (λ made. rows_left c.args.columns.now made (left_in c.next_row.new.reader)) (sym c.in_ok-push-in-Some.ensures.items);
    }
