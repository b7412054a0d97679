use Rattle.std.proofs.Common.{◌≡◌, ◌≤◌, ◌+◌, ◌++◌, true, length}
use Rattle.std.specs.List.{flat_map}
use Rattle.csv.specs.Writing.{default_writer, row_text}
use Rattle.history.specs.Catalog.{ids_of}
use Rattle.object_store.specs.Contents.{catalog_of, history_of}
use Rattle.object_rows.specs.Exported.{object_rows}
use Rattle.object_rows.specs.Writer.{IsBetweenRows, text_by}
use Rattle.object_rows.proofs.Ids.{are_below}
use Rattle.object_rows.proofs.export.write_objects.Given as goal

-- the rows so far and those of the objects that are left make the whole
abbrev pub invariant-ids : goal.invariant-ids
invariant-ids g l = record {
  between : IsBetweenRows l.writer;
  text : text_by l.writer ++ flat_map (row_text default_writer) (flat_map (object_rows (history_of l.store) l.now) l.rest)
      ≡ text_by l.initial.writer ++ flat_map (row_text default_writer)
      (flat_map (object_rows (history_of l.store) l.now) (ids_of (catalog_of l.store) l.class));
  least : l.initial.reads ≤ l.reads;
  most : l.reads + length l.rest ≤ l.initial.reads + length (ids_of (catalog_of l.store) l.class);
  stored : are_below (length l.store.objects) l.rest ≡ true;
}

abbrev pub decreases-ids : goal.decreases-ids
decreases-ids g l = length l.rest
