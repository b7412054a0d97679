use Rattle.std.proofs.Common.{◌≡◌, ◌==◌, ◌&&◌, ◌<◌, ℕ, Bool, false, not, None, Some, List, [], length, ap, sym, ◌∙◌, arith}
use Rattle.std.specs.Prelude.{is_some, is_none, nat_le, slice_get}
use Rattle.std.specs.List.{find}
use Rattle.std.specs.Option.{option_map_or}
use Rattle.std.proofs.lemmas.List.{get_or_default}
use Rattle.history.specs.Catalog.{ClassInfo}
use Rattle.object_store.specs.declared.judge.Found.{Found}
use Rattle.object_store.specs.Contents.{StoredObject, Contents, is_named, is_present_at, ids_in}
use Rattle.object_store.specs.Faults.{fault_of_insert}
use Rattle.object_store.specs.Tables.{contents_of, members_of}
use Rattle.object_store.proofs.CommandLemmas.{class_there, has_class, found_there, found_nowhere}
use Rattle.object_store.proofs.JudgeLemmas.{HasClass, judged_insert, within_classes}
use Rattle.object_store.proofs.WriteLemmas.{object_at_index, if_at}
use Rattle.object_store.proofs.tables.Tables.judge_insert.Goals as goal

pub returns-in-Some : goal.returns-in-Some
returns-in-Some c =
    let s : Contents = contents_of c.args.self.now in
    let name : List ℕ = c.args.insertion.now.name.now in
    let k : ClassInfo = c.unwrap-kind.result.now in
    let has : HasClass s.classes c.args.insertion.now.class.now c.args.number k =
    has_class s.classes c.args.insertion.now.class.now c.args.number k c.requires.class
    (class_there c.class.result c.unwrap-kind.result s.classes c.args.number c.class.ensures c.unwrap-kind.ensures)
    in
    let first = sym c.requires.name ∙ c.in-Some.is in
    let at = object_at_index name s.objects c.in-Some.at first in
    let found = found_there name s.objects c.in-Some.at at.0 first at.1 in
    let is : c.found_at-found.result ≡ record { elsewhere = not (at.0.class == c.args.number); present = is_present_at c.args.insertion.now.tick at.0; past_capacity = false } =
    if_at s.objects c.in-Some.at at.0 _ c.found_at-found.ensures at.1
    in
    c.insert_fault.ensures
    ∙ judged_insert s c.args.insertion.now.class.now c.args.number k has name c.args.insertion.now.tick c.args.insertion.now.place.now c.args.insertion.now.sets.now
    c.found_at-found.result.elsewhere c.found_at-found.result.present c.found_at-found.result.past_capacity
    (ap (λ (f : Found). f.elsewhere) is ∙ ap (λ r. option_map_or (λ (o : StoredObject). not (o.class == c.args.number)) r false) (sym found))
    (ap (λ (f : Found). f.present) is ∙ ap (λ r. option_map_or (is_present_at c.args.insertion.now.tick) r false) (sym found))
    (ap (λ (f : Found). f.past_capacity) is ∙ ap (λ r. is_none r && nat_le k.capacity (length (ids_in s.objects c.args.number))) (sym found))

pub returns-in-None : goal.returns-in-None
returns-in-None c =
    let s : Contents = contents_of c.args.self.now in
    let name : List ℕ = c.args.insertion.now.name.now in
    let k : ClassInfo = c.unwrap-kind.result.now in
    let has : HasClass s.classes c.args.insertion.now.class.now c.args.number k =
    has_class s.classes c.args.insertion.now.class.now c.args.number k c.requires.class
    (class_there c.class.result c.unwrap-kind.result s.classes c.args.number c.class.ensures c.unwrap-kind.ensures)
    in
    let new = found_nowhere name s.objects (sym c.requires.name ∙ c.in-None.is) in
    let is = c.new_name-found.ensures in
    let within : c.args.number < length (members_of c.args.self.now) = omega (arith, within_classes s.classes c.args.insertion.now.class.now c.args.number k has, c.requires.kept.members.count) in
    let own : c.index.result.now ≡ ids_in s.objects c.args.number =
    c.index.ensures ∙ get_or_default (members_of c.args.self.now) c.args.number c.index.result.now [] within
    ∙ c.requires.kept.members.each c.args.number (within_classes s.classes c.args.insertion.now.class.now c.args.number k has)
    in
    c.insert_fault-in-None.ensures
    ∙ judged_insert s c.args.insertion.now.class.now c.args.number k has name c.args.insertion.now.tick c.args.insertion.now.place.now c.args.insertion.now.sets.now
    c.new_name-found.result.elsewhere c.new_name-found.result.present c.new_name-found.result.past_capacity
    (ap (λ (f : Found). f.elsewhere) is ∙ ap (λ r. option_map_or (λ (o : StoredObject). not (o.class == c.args.number)) r false) (sym new))
    (ap (λ (f : Found). f.present) is ∙ ap (λ r. option_map_or (is_present_at c.args.insertion.now.tick) r false) (sym new))
    (ap (λ (f : Found). f.past_capacity) is
    ∙ ap (λ ids. nat_le k.capacity (length ids)) own
    ∙ ap (λ r. is_none r && nat_le k.capacity (length (ids_in s.objects c.args.number))) (sym new))
