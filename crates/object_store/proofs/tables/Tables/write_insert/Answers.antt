use Rattle.std.proofs.Common.{◌≡◌, ◌<◌, ℕ, None, Some, List, ◌++◌, length, refl, ap, sym, subst, ◌∙◌}
use Rattle.std.specs.Prelude.{All, IfOk, IfSome, slice_get, option_map}
use Rattle.motion.specs.Cells.{AreChanges, changed, place_sets}
use Rattle.motion.specs.Timeline.{Epoch, state_at}
use Rattle.motion.specs.declared.cell.Cell.{Cell}
use Rattle.history.specs.Write.{Attribute}
use Rattle.history.specs.Catalog.{ClassInfo, object_of}
use Rattle.history.specs.State.{inserted, updated, attributes_of_object}
use Rattle.object_store.specs.declared.objects.Done.{Done}
use Rattle.object_store.specs.Changes.{setting_changes}
use Rattle.object_store.specs.Contents.{StoredObject, Contents, attributes_of_number, catalog_of, state_of}
use Rattle.object_store.specs.Effects.{with_epoch_of, after_insert}
use Rattle.object_store.specs.Invariant.{WritesNamed}
use Rattle.object_store.specs.ObjectView.{objects_of}
use Rattle.object_store.specs.Tables.{contents_of, members_of}
use Rattle.object_store.proofs.CommandLemmas.{class_there, has_class, given_all, given_changes, cells_inserted, inserted_fits, own_class_of, room_for_new, after_known, after_new, found_there, found_nowhere}
use Rattle.object_store.proofs.JudgeLemmas.{HasClass}
use Rattle.object_store.proofs.WriteLemmas.{object_at_index}
use Rattle.object_store.proofs.EntryLemmas.{if_there}
use Rattle.object_store.proofs.tables.Tables.write_insert.Goals as goal

pub inserted-requires-clause-given : goal.inserted-requires-clause-given
inserted-requires-clause-given c =
    subst AreChanges (sym (c.deref.ensures.value ∙ c.in_ok-fill.ensures))
    (given_changes c.unwrap-kind.result.now.attributes (place_sets c.args.insertion.now.place.now ++ c.args.insertion.now.sets.now)
    (given_all c.args.insertion.now.place.now c.args.insertion.now.sets.now c.requires.given))

pub begin-requires-clause-fits : goal.begin-requires-clause-fits
begin-requires-clause-fits c =
    let s : Contents = contents_of c.args.self.now in
    let name : List ℕ = c.args.insertion.now.name.now in
    let k : ClassInfo = c.unwrap-kind.result.now in
    let has : HasClass s.classes c.args.insertion.now.class.now c.args.number k =
    has_class s.classes c.args.insertion.now.class.now c.args.number k c.requires.class
    (class_there c.class.result c.unwrap-kind.result s.classes c.args.number c.class.ensures c.unwrap-kind.ensures)
    in
    let is : c.in_ok-cells.cells.items ≡ inserted c.args.insertion.now.tick k.attributes c.args.insertion.now.place.now c.args.insertion.now.sets.now =
    cells_inserted c.args.insertion.now.tick k.attributes c.args.insertion.now.place.now c.args.insertion.now.sets.now c.deref.result.now c.in_ok-cells.cells.items c.in_ok-cells.ensures.cells (c.deref.ensures.value ∙ c.in_ok-fill.ensures)
    in
    inserted_fits s.classes c.args.insertion.now.class.now c.args.number k c.args.insertion.now.tick c.args.insertion.now.place.now c.args.insertion.now.sets.now c.in_ok-cells.cells.items has is

pub begin-requires-clause-class : goal.begin-requires-clause-class
begin-requires-clause-class c =
    let s : Contents = contents_of c.args.self.now in
    let name : List ℕ = c.args.insertion.now.name.now in
    let k : ClassInfo = c.unwrap-kind.result.now in
    let has : HasClass s.classes c.args.insertion.now.class.now c.args.number k =
    has_class s.classes c.args.insertion.now.class.now c.args.number k c.requires.class
    (class_there c.class.result c.unwrap-kind.result s.classes c.args.number c.class.ensures c.unwrap-kind.ensures)
    in
    let at = object_at_index name s.objects c.in-Some.at (sym c.requires.name ∙ c.in-Some.is) in
    let found = found_there name s.objects c.in-Some.at at.0 (sym c.requires.name ∙ c.in-Some.is) at.1 in
    if_there s.objects c.in-Some.at at.0 _ at.1
    (own_class_of s c.args.insertion.now.class.now c.args.number k has name c.args.insertion.now.tick c.args.insertion.now.place.now c.args.insertion.now.sets.now c.requires.accepted at.0 found)

pub enter-requires-clause-fits : goal.enter-requires-clause-fits
enter-requires-clause-fits c =
    let s : Contents = contents_of c.args.self.now in
    let name : List ℕ = c.args.insertion.now.name.now in
    let k : ClassInfo = c.unwrap-kind.result.now in
    let has : HasClass s.classes c.args.insertion.now.class.now c.args.number k =
    has_class s.classes c.args.insertion.now.class.now c.args.number k c.requires.class
    (class_there c.class.result c.unwrap-kind.result s.classes c.args.number c.class.ensures c.unwrap-kind.ensures)
    in
    let is : c.in_ok-cells.cells.items ≡ inserted c.args.insertion.now.tick k.attributes c.args.insertion.now.place.now c.args.insertion.now.sets.now =
    cells_inserted c.args.insertion.now.tick k.attributes c.args.insertion.now.place.now c.args.insertion.now.sets.now c.deref.result.now c.in_ok-cells.cells.items c.in_ok-cells.ensures.cells (c.deref.ensures.value ∙ c.in_ok-fill.ensures)
    in
    inserted_fits s.classes c.args.insertion.now.class.now c.args.number k c.args.insertion.now.tick c.args.insertion.now.place.now c.args.insertion.now.sets.now c.in_ok-cells.cells.items has is

pub enter-requires-clause-name : goal.enter-requires-clause-name
enter-requires-clause-name c =
    let s : Contents = contents_of c.args.self.now in
    found_nowhere c.args.insertion.now.name.now s.objects (sym c.requires.name ∙ c.in-None.is)

pub enter-requires-clause-room : goal.enter-requires-clause-room
enter-requires-clause-room c =
    let s : Contents = contents_of c.args.self.now in
    let name : List ℕ = c.args.insertion.now.name.now in
    let k : ClassInfo = c.unwrap-kind.result.now in
    let has : HasClass s.classes c.args.insertion.now.class.now c.args.number k =
    has_class s.classes c.args.insertion.now.class.now c.args.number k c.requires.class
    (class_there c.class.result c.unwrap-kind.result s.classes c.args.number c.class.ensures c.unwrap-kind.ensures)
    in
    let new = found_nowhere name s.objects (sym c.requires.name ∙ c.in-None.is) in
    room_for_new s c.args.insertion.now.class.now c.args.number k has name c.args.insertion.now.tick c.args.insertion.now.place.now c.args.insertion.now.sets.now c.requires.accepted new

pub returns-in-Some-clause-ok : goal.returns-in-Some-clause-ok
returns-in-Some-clause-ok c =
    let s : Contents = contents_of c.args.self.now in
    let name : List ℕ = c.args.insertion.now.name.now in
    let k : ClassInfo = c.unwrap-kind.result.now in
    let has : HasClass s.classes c.args.insertion.now.class.now c.args.number k =
    has_class s.classes c.args.insertion.now.class.now c.args.number k c.requires.class
    (class_there c.class.result c.unwrap-kind.result s.classes c.args.number c.class.ensures c.unwrap-kind.ensures)
    in
    let is : c.in_ok-cells.cells.items ≡ inserted c.args.insertion.now.tick k.attributes c.args.insertion.now.place.now c.args.insertion.now.sets.now =
    cells_inserted c.args.insertion.now.tick k.attributes c.args.insertion.now.place.now c.args.insertion.now.sets.now c.deref.result.now c.in_ok-cells.cells.items c.in_ok-cells.ensures.cells (c.deref.ensures.value ∙ c.in_ok-fill.ensures)
    in
    let at = object_at_index name s.objects c.in-Some.at (sym c.requires.name ∙ c.in-Some.is) in
    let found = found_there name s.objects c.in-Some.at at.0 (sym c.requires.name ∙ c.in-Some.is) at.1 in
    subst (λ after. IfOk c.begin.result (λ (done : Done). WritesNamed name s after (members_of c.begin.new.self) (contents_of c.begin.new.self) done))
    (sym (after_known s c.args.insertion.now.class.now c.args.number k has name c.args.insertion.now.tick c.args.insertion.now.place.now c.args.insertion.now.sets.now c.in_ok-cells.cells.items is at.0 found)) c.begin.ensures.ok

pub returns-in-None-clause-ok : goal.returns-in-None-clause-ok
returns-in-None-clause-ok c =
    let s : Contents = contents_of c.args.self.now in
    let name : List ℕ = c.args.insertion.now.name.now in
    let k : ClassInfo = c.unwrap-kind.result.now in
    let has : HasClass s.classes c.args.insertion.now.class.now c.args.number k =
    has_class s.classes c.args.insertion.now.class.now c.args.number k c.requires.class
    (class_there c.class.result c.unwrap-kind.result s.classes c.args.number c.class.ensures c.unwrap-kind.ensures)
    in
    let is : c.in_ok-cells.cells.items ≡ inserted c.args.insertion.now.tick k.attributes c.args.insertion.now.place.now c.args.insertion.now.sets.now =
    cells_inserted c.args.insertion.now.tick k.attributes c.args.insertion.now.place.now c.args.insertion.now.sets.now c.deref.result.now c.in_ok-cells.cells.items c.in_ok-cells.ensures.cells (c.deref.ensures.value ∙ c.in_ok-fill.ensures)
    in
    let new = found_nowhere name s.objects (sym c.requires.name ∙ c.in-None.is) in
    subst (λ after. IfOk c.enter.result (λ (done : Done). WritesNamed name s after (members_of c.enter.new.self) (contents_of c.enter.new.self) done))
    (sym (after_new s c.args.insertion.now.class.now c.args.number k has name c.args.insertion.now.tick c.args.insertion.now.place.now c.args.insertion.now.sets.now c.in_ok-cells.cells.items is new)) c.enter.ensures.ok
