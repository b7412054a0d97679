use Rattle.std.proofs.Common.{◌≡◌, ◌+◌, ◌-◌, ◌<◌, Some, List, length, take, sym, ap, subst, ◌∙◌, arith, if◌then◌else◌}
use Rattle.std.specs.Prelude.{slice_get}
use Rattle.std.proofs.lemmas.List.{length-map}
use Rattle.object_store.specs.Contents.{StoredObject, Contents}
use Rattle.object_store.specs.Ids.{without_member}
use Rattle.object_store.specs.Invariant.{IsKept}
use Rattle.object_store.specs.AtIndex.{restored_at}
use Rattle.object_store.specs.ObjectView.{stored, objects_of}
use Rattle.object_store.specs.Tables.{contents_of, members_of}
use Rattle.object_store.specs.TakingBack.{undone, IsLeft}
use Rattle.object_store.proofs.WriteLemmas.{left_kept, exists_at, if_at}
use Rattle.object_store.proofs.tables.Tables.revert_new.Goals as goal

pub returns-clause-kept : goal.returns-clause-kept
returns-clause-kept c =
    let s : Contents = contents_of c.args.self.now in
    let left : c.args.undo.id + 1 ≡ length s.objects = subst (λ b. IsLeft b c.args.undo s.objects) c.requires.new c.requires.revertible.left in
    let at = exists_at s.objects (length s.objects - 1) (omega (arith, left)) in
    let entries = c.args.self.now.objects.entries in
    let there : slice_get s.objects (length entries - 1) ≡ Some at.0 = ap (λ n. slice_get s.objects (n - 1)) (sym (length-map entries stored)) ∙ at.1 in
    let members : c.leave.new.members.items ≡ without_member (members_of c.args.self.now) at.0.class = if_at s.objects (length entries - 1) at.0 _ c.leave.ensures.members there in
    let objects : objects_of c.leave.new.objects.entries ≡ (undone c.args.undo s).objects =
    c.leave.ensures.objects
    ∙ sym (ap (λ b. if b then take (length s.objects - 1) s.objects else restored_at c.args.undo.id c.args.undo.replaced s.objects) c.requires.new)
    in
    let after : List StoredObject → Contents = λ os. record { classes = s.classes; objects = os; last_tick = c.args.undo.last_tick } in
    subst (λ os. IsKept c.leave.new.members.items (after os)) (sym objects)
    (left_kept c.args.undo s (members_of c.args.self.now) c.leave.new.members.items at.0 c.requires.kept c.requires.new c.requires.revertible.sound at.1 members)
