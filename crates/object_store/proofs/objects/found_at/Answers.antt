use Rattle.std.proofs.Common.{◌≡◌, ◌==◌, not, false, ap, sym, ◌∙◌}
use Rattle.std.specs.Prelude.{is_some}
use Rattle.motion.specs.Timeline.{state_at}
use Rattle.object_store.specs.declared.judge.Found.{Found}
use Rattle.object_store.specs.Contents.{StoredObject, is_present_at}
use Rattle.object_store.specs.ObjectView.{objects_of}
use Rattle.object_store.proofs.EntryLemmas.{value_there, value_begun, if_there}
use Rattle.object_store.proofs.objects.found_at.Goals as goal

pub is_present-requires : goal.is_present-requires
is_present-requires c = value_begun c.args.objects.now.entries c.args.index c.index-object.result.now c.args.now c.index-object.ensures c.requires.begun

pub returns : goal.returns
returns c =
    let at = value_there c.args.objects.now.entries c.args.index c.index-object.result.now c.index-object.ensures in
    let elsewhere : not (c.index-object.result.now.class == c.args.number) ≡ not (at.object.class == c.args.number) = ap (λ n. not (n == c.args.number)) (sym at.class) in
    let present : c.is_present.result ≡ is_present_at c.args.now at.object = c.is_present.ensures ∙ ap (λ epochs. is_some (state_at epochs c.args.now)) (sym at.epochs) in
    if_there (objects_of c.args.objects.now.entries) c.args.index at.object _ at.there
    (λ i. record { elsewhere = elsewhere i; present = present i; past_capacity = false })
