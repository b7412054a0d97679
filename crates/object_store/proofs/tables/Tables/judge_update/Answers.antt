use Rattle.std.proofs.Common.{◌≡◌, ◌<◌, ℕ, Some, List, length, ap, sym, subst, ◌∙◌}
use Rattle.std.specs.Prelude.{is_some, slice_get}
use Rattle.motion.specs.Timeline.{state_at}
use Rattle.history.specs.Catalog.{ClassInfo}
use Rattle.object_store.specs.Contents.{StoredObject, Contents}
use Rattle.object_store.specs.Faults.{fault_of_update}
use Rattle.object_store.specs.Tables.{contents_of}
use Rattle.object_store.proofs.EntryLemmas.{value_there, value_begun, all_at}
use Rattle.object_store.proofs.CommandLemmas.{found_there, class_known, class_there}
use Rattle.object_store.proofs.JudgeLemmas.{judged_update}
use Rattle.object_store.proofs.WriteLemmas.{begun_by}
use Rattle.object_store.proofs.tables.Tables.judge_update.Goals as goal

pub unwrap-kind-requires : goal.unwrap-kind-requires
unwrap-kind-requires c =
    let s : Contents = contents_of c.args.self.now in
    let at = value_there c.args.self.now.objects.entries c.args.at c.index-object.result.now c.index-object.ensures in
    class_known c.class.result s.classes c.index-object.result.now.class c.class.ensures
    (subst (λ n. n < length s.classes) at.class (all_at (λ (o : StoredObject). o.class < length s.classes) s.objects c.args.at at.object at.there c.requires.kept.sound.objects.classed))

pub is_present-requires : goal.is_present-requires
is_present-requires c =
    value_begun c.args.self.now.objects.entries c.args.at c.index-object.result.now c.args.now c.index-object.ensures
    (begun_by (contents_of c.args.self.now) c.args.now c.requires.kept.sound c.requires.after)

pub returns : goal.returns
returns c =
    let s : Contents = contents_of c.args.self.now in
    let at = value_there c.args.self.now.objects.entries c.args.at c.index-object.result.now c.index-object.ensures in
    let k : ClassInfo = c.unwrap-kind.result.now in
    let there : slice_get s.classes at.object.class ≡ Some k =
    ap (slice_get s.classes) at.class ∙ class_there c.class.result c.unwrap-kind.result s.classes c.index-object.result.now.class c.class.ensures c.unwrap-kind.ensures
    in
    c.update_fault.ensures
    ∙ ap (λ present. fault_of_update (Some k) present c.args.place.now c.args.sets.now)
    (c.is_present.ensures ∙ ap (λ epochs. is_some (state_at epochs c.args.now)) (sym at.epochs))
    ∙ judged_update s c.args.name.now at.object k
    (found_there c.args.name.now s.objects c.args.at at.object c.requires.name at.there) there c.args.now c.args.place.now c.args.sets.now
