use Rattle.std.proofs.Common.{◌≡◌, ℕ, Some, ap, subst, ◌∙◌}
use Rattle.std.specs.Prelude.{slice_get, option_map}
use Rattle.motion.specs.Timeline.{state_at}
use Rattle.history.specs.History.{cells_at}
use Rattle.object_store.specs.Contents.{StoredObject, Contents, history_of}
use Rattle.object_store.specs.Tables.{contents_of}
use Rattle.object_store.proofs.EntryLemmas.{value_there}
use Rattle.object_store.proofs.NumberLemmas.{state_of_id}
use Rattle.object_store.proofs.store.Store.timeline.Goals as goal

pub returns-clause-timeline : goal.returns-clause-timeline
returns-clause-timeline g c =
    let at = value_there c.self.inside.tables.objects.entries c.args.id c.index.result.now c.index.ensures in
    subst (λ (s : Contents). option_map (λ (o : StoredObject). o.epochs) (slice_get s.objects c.args.id) ≡ Some c.index.result.now.timeline) c.self.view_is
    (ap (option_map (λ (o : StoredObject). o.epochs)) at.there ∙ ap Some at.epochs)

pub returns-clause-state : goal.returns-clause-state
returns-clause-state g c =
    let s : Contents = contents_of c.self.inside.tables in
    let at = value_there c.self.inside.tables.objects.entries c.args.id c.index.result.now c.index.ensures in
    subst (λ (s : Contents). (t : ℕ) → cells_at (history_of s) c.args.id t ≡ state_at c.index.result.now.timeline t) c.self.view_is
    (λ t. state_of_id s c.args.id c.index.result.now.timeline t c.self.invariant.kept.sound
    (ap (option_map (λ (o : StoredObject). o.epochs)) at.there ∙ ap Some at.epochs))
