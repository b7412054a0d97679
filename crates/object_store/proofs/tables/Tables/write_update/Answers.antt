use Rattle.std.proofs.Common.{◌≡◌, ◌<◌, ℕ, None, Some, List, [], ◌++◌, length, refl, ap, sym, subst, ◌∙◌, arith}
use Rattle.std.specs.Prelude.{All, IfOk, IfSome, slice_get, option_map}
use Rattle.std.specs.Option.{option_map_or}
use Rattle.motion.specs.Cells.{AreChanges, changed, place_sets}
use Rattle.motion.specs.Timeline.{Epoch, state_at}
use Rattle.motion.specs.declared.cell.Cell.{Cell}
use Rattle.history.specs.Write.{Attribute}
use Rattle.history.specs.Catalog.{ClassInfo, object_of}
use Rattle.history.specs.State.{inserted, updated, attributes_of_object}
use Rattle.object_store.specs.declared.objects.Done.{Done}
use Rattle.object_store.specs.Changes.{setting_changes}
use Rattle.object_store.specs.Contents.{StoredObject, Contents, attributes_of_number, catalog_of, state_of}
use Rattle.object_store.specs.Effects.{with_epoch_of, after_insert}
use Rattle.object_store.specs.Invariant.{WritesNamed}
use Rattle.object_store.specs.Sound.{AreEpochsOf}
use Rattle.object_store.specs.ObjectView.{objects_of}
use Rattle.object_store.specs.Tables.{contents_of, members_of}
use Rattle.object_store.proofs.CommandLemmas.{class_known, class_there, given_all, given_changes, changed_updated, found_there}
use Rattle.object_store.proofs.EntryLemmas.{value_there, all_at}
use Rattle.object_store.proofs.JudgeLemmas.{attributes_are_own, state_of_found}
use Rattle.object_store.proofs.KindLemmas.{FitsIn, state_fits, updated_fits}
use Rattle.object_store.proofs.WriteLemmas.{known_writes, known_done}
use Rattle.object_store.proofs.SizeLemmas.{few_indexes}
use Rattle.object_store.proofs.tables.Tables.write_update.Goals as goal

pub unwrap-kind-requires : goal.unwrap-kind-requires
unwrap-kind-requires c =
    let s : Contents = contents_of c.args.self.now in
    let at = value_there c.args.self.now.objects.entries c.args.at c.index.result.now c.index.ensures in
    class_known c.class.result s.classes c.index.result.now.class c.class.ensures
    (subst (λ n. n < length s.classes) at.class (all_at (λ (o : StoredObject). o.class < length s.classes) s.objects c.args.at at.object at.there c.requires.kept.sound.objects.classed))

pub write_at-requires-clause-given : goal.write_at-requires-clause-given
write_at-requires-clause-given c =
    subst AreChanges (sym (c.deref.ensures.value ∙ c.in_ok-fill.ensures))
    (given_changes c.unwrap-kind.result.now.attributes (place_sets c.args.place.now ++ c.args.sets.now)
    (given_all c.args.place.now c.args.sets.now c.requires.given))

pub returns-clause-ok : goal.returns-clause-ok
returns-clause-ok c =
    let s : Contents = contents_of c.args.self.now in
    let name : List ℕ = c.args.name.now in
    let now : ℕ = c.args.now in
    let k : ClassInfo = c.unwrap-kind.result.now in
    let at = value_there c.args.self.now.objects.entries c.args.at c.index.result.now c.index.ensures in
    let o : StoredObject = at.object in
    let found = found_there name s.objects c.args.at o c.requires.name at.there in
    let there : slice_get s.classes o.class ≡ Some k =
    ap (slice_get s.classes) at.class ∙ class_there c.class.result c.unwrap-kind.result s.classes c.index.result.now.class c.class.ensures c.unwrap-kind.ensures
    in
    let attributes : List Attribute = attributes_of_object (catalog_of s) (object_of (catalog_of s) name) in
    let are : attributes ≡ k.attributes = attributes_are_own s name o k found there in
    let before = state_of_found s name o now found in
    let p : Epoch = record { from = now; cells = option_map (updated now attributes c.args.place.now c.args.sets.now) (state_of s name now) } in
    let epoch : List Epoch → Epoch = λ epochs. record { from = now; cells = option_map (changed now c.deref.result.now) (state_at epochs now) } in
    let cells : (epoch o.epochs).cells ≡ p.cells =
    ap (λ changes. option_map (changed now changes) (state_at o.epochs now)) (c.deref.ensures.value ∙ c.in_ok-fill.ensures)
    ∙ changed_updated now k.attributes c.args.place.now c.args.sets.now (state_at o.epochs now)
    ∙ ap (λ attributes. option_map (updated now attributes c.args.place.now c.args.sets.now) (state_at o.epochs now)) (sym are)
    ∙ ap (option_map (updated now attributes c.args.place.now c.args.sets.now)) (sym before)
    in
    let own : attributes_of_number s.classes o.class ≡ attributes = ap (λ r. option_map_or (λ (k : ClassInfo). k.attributes) r []) there ∙ sym are in
    let fits : FitsIn (attributes_of_number s.classes o.class) p.cells =
    subst (λ attributes. FitsIn (attributes_of_number s.classes o.class) (option_map (updated now attributes c.args.place.now c.args.sets.now) (state_of s name now))) own
    (updated_fits now (attributes_of_number s.classes o.class) c.args.place.now c.args.sets.now (state_of s name now)
    (subst (FitsIn (attributes_of_number s.classes o.class)) (sym before)
    (state_fits (attributes_of_number s.classes o.class) o.epochs now
    (all_at (λ (o : StoredObject). AreEpochsOf (attributes_of_number s.classes o.class) o.epochs) s.objects c.args.at o at.there c.requires.kept.sound.objects.fitted))))
    in
    let after : Contents = record { classes = s.classes; objects = objects_of c.write_at.new.objects.entries; last_tick = now } in
    subst (λ (done : Done). WritesNamed name s (with_epoch_of s name p) (members_of c.args.self.now) after done) (sym c.known.ensures)
    (known_writes s (members_of c.args.self.now) name c.args.at o p c.in_ok-replaced.replaced epoch after.objects now
    c.requires.kept c.requires.now.after c.requires.now.tick c.requires.name at.there fits
    c.in_ok-replaced.ensures.ok (λ i. record { from = now; cells = cells i }) refl)

pub overflow_cast-at : goal.overflow_cast-at
overflow_cast-at c =
    omega (arith, few_indexes (contents_of c.args.self.now) c.args.name.now c.args.at c.requires.kept.sound c.requires.name)
