use Rattle.std.proofs.Common.{◌≡◌, true, ◌++◌, length}
use Rattle.std.specs.List.{list_all}
use Rattle.object_store.specs.Contents.{catalog_of}
use Rattle.line_meaning.specs.Reply.{rows_text}
use Rattle.reply_text.specs.Begins.{Begins}
use Rattle.database.specs.Rows.{has_objects}
use Rattle.plane_index.specs.Rows.{told_range_rows}
use Rattle.kept_indexes.proofs.asking.push_rows.Given as goal

-- what was written and the lines of the rows that are left make the whole
abbrev pub invariant-rows : goal.invariant-rows
invariant-rows l = record {
  whole : l.out.items ++ rows_text (catalog_of l.store) l.tick (told_range_rows l.rest)
      ≡ l.fn.out.items ++ rows_text (catalog_of l.store) l.tick (told_range_rows l.rows);
  begins : Begins l.fn.out.items l.out.items;
  there : list_all (has_objects (length (catalog_of l.store).objects)) (told_range_rows l.rest) ≡ true;
}

abbrev pub decreases-rows : goal.decreases-rows
decreases-rows l = length l.rest
