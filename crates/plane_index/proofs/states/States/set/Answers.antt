use Rattle.std.proofs.Common.{◌≡◌, ◌<◌, List, [], length, set, sym, ap, subst, ◌∙◌}
use Rattle.std.specs.Prelude.{slice_index_or}
use Rattle.plane_index.specs.Columns.{narrowed, AreColumns}
use Rattle.plane_index.specs.Held.{kept_strips}
use Rattle.plane_index.specs.States.{strips_by_state, States}
use Rattle.plane_index.specs.declared.cover.Narrow.{Narrow}
use Rattle.plane_index.proofs.BackLemmas.{written_back}
use Rattle.plane_index.proofs.ColumnLemmas.{columns_set}
use Rattle.plane_index.proofs.states.States.set.Goals as goal

pub invariant_of-self : goal.invariant_of-self
invariant_of-self c =
    let was = c.self.inside in
    let there : c.args.place < length was.states.items = subst (λ (kept : States). c.args.place < length kept.states) (sym c.self.view_is) c.requires.place in
    let same : length c.deref_mut.result.now ≡ length was.columns.items = ap (λ (xs : List (List Narrow)). length xs) c.deref_mut.ensures.value in
    let new = written_back c.note.new.columns was.columns.items was.columns.len (c.note.ensures.length ∙ c.deref_mut.ensures.len) (sym same ∙ c.deref_mut.ensures.len) in
    subst (AreColumns was.grid (set was.states.items c.args.place c.args.state)) (sym new)
    (columns_set was.grid was.states.items c.args.place c.args.state was.columns.items c.note.new.columns there c.requires.written c.self.invariant (c.note.ensures.length ∙ same)
    (λ s under.
    c.note.ensures.noted s under
    ∙ ap (λ (xs : List (List Narrow)). set (slice_index_or xs s []) c.args.place (narrowed (kept_strips (strips_by_state c.args.state was.grid s)))) c.deref_mut.ensures.value))
