use Rattle.std.proofs.Common.{◌≡◌, ◌<◌, ◌-◌, Some, length, take, ap, subst, sym, ◌∙◌, arith}
use Rattle.std.specs.Prelude.{vec_len, slice_get}
use Rattle.object_store.specs.Contents.{StoredObject}
use Rattle.object_store.specs.Ids.{without_member}
use Rattle.object_store.specs.ObjectView.{objects_of}
use Rattle.object_store.proofs.EntryLemmas.{value_there, all_at, taken_last, if_there, popped}
use Rattle.object_store.proofs.objects.leave.Goals as goal

pub index_mut-requires : goal.index_mut-requires
index_mut-requires c =
    let at = value_there c.args.objects.now.entries _ c.index.result.now c.index.ensures in
    subst (λ n. n < vec_len c.args.members.now) at.class
    (all_at (λ (o : StoredObject). o.class < vec_len c.args.members.now) (objects_of c.args.objects.now.entries) _ at.object at.there c.requires.classed)

pub returns-clause-objects : goal.returns-clause-objects
returns-clause-objects c =
    ap objects_of c.truncate.ensures.entries
    ∙ ap (λ n. objects_of (take (n - 1) c.args.objects.now.entries)) c.len-index.ensures.len
    ∙ taken_last c.args.objects.now.entries

pub returns-clause-members : goal.returns-clause-members
returns-clause-members c =
    let at = value_there c.args.objects.now.entries _ c.index.result.now c.index.ensures in
    let there = subst (λ n. slice_get (objects_of c.args.objects.now.entries) (n - 1) ≡ Some at.object) c.len-index.ensures.len at.there in
    let within : c.index.result.now.class < length c.args.members.now.items = rw (← at.class) (omega (arith, all_at (λ (o : StoredObject). o.class < vec_len c.args.members.now) (objects_of c.args.objects.now.entries) _ at.object at.there c.requires.classed, c.args.members.now.ok)) in
    if_there (objects_of c.args.objects.now.entries) _ at.object _ there
    (popped c.args.members.now.items c.index.result.now.class c.index_mut.result.now c.pop.new.self within c.index_mut.ensures.value c.pop.ensures
    ∙ ap (without_member c.args.members.now.items) (sym at.class))
