use Rattle.std.proofs.Common.{length, map}
use Rattle.object_store.specs.Contents.{catalog_of}
use Rattle.history.specs.Catalog.{name_of}
use Rattle.database.proofs.RowLemmas.{ids_step, name_step}
use Rattle.database.proofs.rows.set_names.Goals as goal

pub ids-preserved : goal.ids-preserved
ids-preserved c =
    let s = c.args.store.now in
    record {
      whole = name_step s c.in-Some.id.now c.in-Some.later.now c.ids.rest.now c.ids.names.items c.push.new.self.items
          (map (name_of (catalog_of s)) c.args.ids.now) c.name_of.result.now c.in-Some.ensures.cases.0 c.name_of.ensures
          c.in_ok-push.ensures.items c.ids.invariant.whole;
      there = ids_step (length (catalog_of s).objects) c.in-Some.id.now c.in-Some.later.now c.ids.rest.now c.in-Some.ensures.cases.0
          c.ids.invariant.there;
    }
