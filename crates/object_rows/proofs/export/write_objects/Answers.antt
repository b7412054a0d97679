use Rattle.std.proofs.Common.{◌∙◌, ◌++◌, List, ℕ, ap, arith, length}
use Rattle.std.specs.List.{flat_map}
use Rattle.csv.specs.Writing.{default_writer, row_text}
use Rattle.history.specs.Catalog.{ids_of}
use Rattle.history.specs.History.{History}
use Rattle.object_store.specs.Contents.{catalog_of, history_of}
use Rattle.object_rows.specs.Exported.{object_rows}
use Rattle.object_rows.specs.Writer.{text_by}
use Rattle.object_rows.proofs.ExportLemmas.{first_below, ids_below, later_below, text_more}
use Rattle.object_rows.proofs.Ids.{are_below}
use Rattle.object_rows.proofs.export.write_objects.Goals as goal

-- a text and the rows of objects after it
abbrev with_rows : List ℕ → History → ℕ → List ℕ → List ℕ
with_rows text h now ids = text ++ flat_map (row_text default_writer) (flat_map (object_rows h now) ids)

pub ids-init : goal.ids-init
ids-init g c = record {
  between = c.requires.between;
  text = ap (with_rows (text_by c.args.writer.now) (history_of c.args.store.now) c.args.now) c.class_names-rest.ensures.told;
  least = omega arith;
  most = omega (arith, ap length c.class_names-rest.ensures.told);
  stored = ap (are_below (length c.args.store.now.objects)) c.class_names-rest.ensures.told ∙ ids_below c.args.store.now c.args.class;
}

pub write_object-requires : goal.write_object-requires
write_object-requires g c = record {
  between = c.ids.invariant.between;
  tick = c.requires.tick;
  id = first_below (length c.args.store.now.objects) c.in-Some.id.now c.ids.rest.now c.in-Some.later.now c.in-Some.ensures.cases.0 c.ids.invariant.stored;
}

pub ids-preserved : goal.ids-preserved
ids-preserved g c = record {
  between = c.in_ok-write_object.ensures.between;
  text = text_more (row_text default_writer) (object_rows (history_of c.args.store.now) c.args.now) c.in-Some.id.now c.ids.rest.now c.in-Some.later.now
      (text_by c.ids.writer) (text_by c.write_object.new.writer)
      (with_rows (text_by c.args.writer.now) (history_of c.args.store.now) c.args.now (ids_of (catalog_of c.args.store.now) c.args.class))
      c.in-Some.ensures.cases.0 c.in_ok-write_object.ensures.text c.ids.invariant.text;
  least = omega (arith, c.in_ok-write_object.ensures.read, c.ids.invariant.least);
  most = omega (arith, ap length c.in-Some.ensures.cases.0, c.in_ok-write_object.ensures.read, c.ids.invariant.most);
  stored = later_below (length c.args.store.now.objects) c.in-Some.id.now c.ids.rest.now c.in-Some.later.now c.in-Some.ensures.cases.0 c.ids.invariant.stored;
}
