use Rattle.std.proofs.Common.{sym, ap, ◌∙◌, subst}
use Rattle.object_store.specs.Contents.{catalog_of}
use Rattle.atoms.specs.Asked.{told_world}
use Rattle.live_queries.specs.Kept.{IsKeptQuery, KeptQuery}
use Rattle.live_queries.specs.Prepared.{IsFreshFor, IsReadyFor}
use Rattle.live_queries.proofs.AnewLemmas.{renewed_objects, renewed_room}
use Rattle.live_queries.proofs.GrowLemmas.{objects_with}
use Rattle.live_queries.proofs.UntouchedLemmas.{expired_untouched, is_touched, other_untouched, some_touched, untouched_ready}
use Rattle.live_queries.proofs.query.LiveQuery.renewal.Goals as goal

pub new_rows-requires-clause-room : goal.new_rows-requires-clause-room
new_rows-requires-clause-room g c =
    renewed_room c.args.write.now.present.world.now.store.now c.args.write.now.object.now.id c.args.write.now.object.now.class c.requires.object.class c.args.self.now (subst IsKeptQuery c.self.view_is c.self.invariant.0)
    c.requires.before.0 c.requires.before.1 c.requires.before.2 c.lack-grows.result
    c.items-classes.result.now (c.items-classes.ensures ∙ ap (λ (k : KeptQuery). k.query.classes) c.self.view_is)
    c.deref.result.now (c.deref.ensures.value ∙ ap (λ (k : KeptQuery). k.columns) c.self.view_is)
    c.class_count-count.result c.class_count-count.ensures.value c.lack-grows.ensures
    c.class_count-count.ensures.room c.requires.fits.capacities

pub new_rows-requires-clause-objects : goal.new_rows-requires-clause-objects
new_rows-requires-clause-objects g c =
    renewed_objects c.args.write.now.present.world.now.store.now c.args.write.now.object.now.id c.args.write.now.object.now.class c.requires.object.class c.args.self.now (subst IsKeptQuery c.self.view_is c.self.invariant.0)
    c.requires.before.0 c.requires.before.1 c.requires.before.2 c.lack-grows.result
    c.items-classes.result.now (c.items-classes.ensures ∙ ap (λ (k : KeptQuery). k.query.classes) c.self.view_is)
    c.deref.result.now (c.deref.ensures.value ∙ ap (λ (k : KeptQuery). k.columns) c.self.view_is)
    c.class_count-count.result c.class_count-count.ensures.value c.lack-grows.ensures

pub returns-clause-ready : goal.returns-clause-ready
returns-clause-ready g c = subst (IsReadyFor c.args.write.now.object.now.class c.args.self.now) (sym c.renewal_if_any.ensures.value) (record {
  ready = c.in_ok-changes.ensures.ready;
  rising = c.in_ok-changes.ensures.rising;
  room = renewed_room c.args.write.now.present.world.now.store.now c.args.write.now.object.now.id c.args.write.now.object.now.class c.requires.object.class c.args.self.now (subst IsKeptQuery c.self.view_is c.self.invariant.0)
      c.requires.before.0 c.requires.before.1 c.requires.before.2 c.lack-grows.result
      c.items-classes.result.now (c.items-classes.ensures ∙ ap (λ (k : KeptQuery). k.query.classes) c.self.view_is)
      c.deref.result.now (c.deref.ensures.value ∙ ap (λ (k : KeptQuery). k.columns) c.self.view_is)
      c.class_count-count.result c.class_count-count.ensures.value c.lack-grows.ensures
      c.class_count-count.ensures.room c.requires.fits.capacities;
})

pub returns-clause-fresh : goal.returns-clause-fresh
returns-clause-fresh g c = subst (IsFreshFor (told_world c.args.write.now.present.world.now) c.args.write.now.object.now.id c.args.write.now.object.now.class c.args.write.now.present.tick c.args.self.now) (sym c.renewal_if_any.ensures.value) (record {
  objects = λ ds made. objects_with (catalog_of c.args.write.now.present.world.now.store.now) c.lack-grows.result c.args.write.now.object.now.class c.args.self.now.query.classes c.args.write.now.object.now.id
      c.args.self.now.columns ds made
      (renewed_objects c.args.write.now.present.world.now.store.now c.args.write.now.object.now.id c.args.write.now.object.now.class c.requires.object.class c.args.self.now (subst IsKeptQuery c.self.view_is c.self.invariant.0)
      c.requires.before.0 c.requires.before.1 c.requires.before.2 c.lack-grows.result
      c.items-classes.result.now (c.items-classes.ensures ∙ ap (λ (k : KeptQuery). k.query.classes) c.self.view_is)
      c.deref.result.now (c.deref.ensures.value ∙ ap (λ (k : KeptQuery). k.columns) c.self.view_is)
      c.class_count-count.result c.class_count-count.ensures.value c.lack-grows.ensures);
  rows = c.in_ok-changes.ensures.rows;
})

pub returns-then-not-has_class-clause-ready : goal.returns-then-not-has_class-clause-ready
returns-then-not-has_class-clause-ready g c = untouched_ready c.args.write.now.object.now.class c.args.self.now

pub returns-then-not-has_class-clause-fresh : goal.returns-then-not-has_class-clause-fresh
returns-then-not-has_class-clause-fresh g c =
    other_untouched c.args.write.now.present.world.now.store.now c.args.write.now.present.world.now.regions.now c.args.write.now.object.now.id c.args.write.now.object.now.class c.args.write.now.present.tick c.requires.object.class c.args.self.now
    (subst IsKeptQuery c.self.view_is c.self.invariant.0) c.requires.before.0 c.requires.before.1 c.requires.before.2
    c.items-classes.result.now (c.items-classes.ensures ∙ ap (λ (k : KeptQuery). k.query.classes) c.self.view_is)
    c.has_class.result c.has_class.ensures c.if-not-has_class.true

pub returns-then-stays-clause-ready : goal.returns-then-stays-clause-ready
returns-then-stays-clause-ready g c = untouched_ready c.args.write.now.object.now.class c.args.self.now

pub returns-then-stays-clause-fresh : goal.returns-then-stays-clause-fresh
returns-then-stays-clause-fresh g c =
    expired_untouched c.args.write.now.present.world.now.store.now c.args.write.now.present.world.now.regions.now c.args.write.now.object.now.id c.args.write.now.object.now.class c.args.write.now.present.tick c.requires.object.class c.args.self.now
    (subst IsKeptQuery c.self.view_is c.self.invariant.0) c.requires.before.0 c.requires.before.1 c.requires.before.2
    c.items-classes.result.now (c.items-classes.ensures ∙ ap (λ (k : KeptQuery). k.query.classes) c.self.view_is)
    c.lack-grows.result c.deref.result.now (c.deref.ensures.value ∙ ap (λ (k : KeptQuery). k.columns) c.self.view_is)
    c.class_count-count.result c.class_count-count.ensures.value c.lack-grows.ensures (sym c.stays.ensures ∙ c.if-stays.true)

pub returns-clause-touched : goal.returns-clause-touched
returns-clause-touched g c =
    some_touched c.args.write.now.object.now.class c.args.write.now.present.tick c.args.self.now c.renewal_if_any.result _ c.renewal_if_any.ensures.some
    (is_touched c.args.write.now.object.now.class c.args.write.now.present.tick c.args.self.now
    c.items-classes.result.now (c.items-classes.ensures ∙ ap (λ (k : KeptQuery). k.query.classes) c.self.view_is)
    c.has_class.result c.has_class.ensures c.if-not-has_class.false
    (record { grows = c.lack-grows.result; changes = c.in_ok-changes.changes }) (sym c.stays.ensures ∙ c.if-stays.false))
