use Rattle.std.proofs.Common.{◌≡◌, ◌-◌, List, length, take, sym, ap, subst, ◌∙◌, if◌then◌else◌}
use Rattle.object_store.specs.Contents.{StoredObject, Contents}
use Rattle.object_store.specs.Invariant.{IsKept}
use Rattle.object_store.specs.AtIndex.{restored_at}
use Rattle.object_store.specs.ObjectView.{objects_of}
use Rattle.object_store.specs.Tables.{contents_of, members_of}
use Rattle.object_store.specs.TakingBack.{undone}
use Rattle.object_store.proofs.WriteLemmas.{restored_kept}
use Rattle.object_store.proofs.tables.Tables.revert_known.Goals as goal

pub returns-clause-kept : goal.returns-clause-kept
returns-clause-kept c =
    let s : Contents = contents_of c.args.self.now in
    let objects : objects_of c.take_back_at.new.objects.entries ≡ (undone c.args.undo s).objects =
    c.take_back_at.ensures
    ∙ sym (ap (λ b. if b then take (length s.objects - 1) s.objects else restored_at c.args.undo.id c.args.undo.replaced s.objects) c.requires.known)
    in
    let after : List StoredObject → Contents = λ os. record { classes = s.classes; objects = os; last_tick = c.args.undo.last_tick } in
    subst (λ os. IsKept (members_of c.args.self.now) (after os)) (sym objects)
    (restored_kept c.args.undo s (members_of c.args.self.now) c.requires.kept c.requires.known c.requires.revertible.sound)
