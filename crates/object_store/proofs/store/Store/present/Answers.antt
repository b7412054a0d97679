use Rattle.std.proofs.Common.{◌≡◌, ◌≤◌, ℕ, false, ap, sym, subst, ◌∙◌}
use Rattle.std.specs.Prelude.{is_some, slice_get, option_map}
use Rattle.std.specs.Option.{option_map_or}
use Rattle.std.proofs.lemmas.Option.{slice_get-map}
use Rattle.motion.specs.Timeline.{state_at}
use Rattle.history.specs.History.{cells_at}
use Rattle.object_store.specs.Contents.{Contents, history_of, is_present_at}
use Rattle.object_store.specs.ObjectView.{stored}
use Rattle.object_store.specs.Tables.{contents_of}
use Rattle.object_store.proofs.EntryLemmas.{value_there, value_begun, value_of_entry}
use Rattle.object_store.proofs.NumberLemmas.{present_later}
use Rattle.object_store.proofs.store.Store.present.Goals as goal

pub is_present-requires : goal.is_present-requires
is_present-requires c =
    value_begun c.self.inside.tables.objects.entries c.args.id c.in-Some.object.now c.self.inside.tables.last_tick
    (value_of_entry c.self.inside.tables.objects.entries c.args.id _ (sym c.in-Some.ensures.entry)) c.self.invariant.kept.sound.objects.begun

pub returns-in-Some-clause-value : goal.returns-in-Some-clause-value
returns-in-Some-clause-value c =
    let at = value_there c.self.inside.tables.objects.entries c.args.id c.in-Some.object.now (value_of_entry c.self.inside.tables.objects.entries c.args.id _ (sym c.in-Some.ensures.entry)) in
    subst (λ (s : Contents). c.is_present.result ≡ option_map_or (is_present_at s.last_tick) (slice_get s.objects c.args.id) false) c.self.view_is
    (c.is_present.ensures
    ∙ ap (λ epochs. is_some (state_at epochs c.self.inside.tables.last_tick)) (sym at.epochs)
    ∙ ap (λ r. option_map_or (is_present_at c.self.inside.tables.last_tick) r false) (sym at.there))

pub returns-in-Some-clause-later : goal.returns-in-Some-clause-later
returns-in-Some-clause-later c =
    let s : Contents = contents_of c.self.inside.tables in
    let at = value_there c.self.inside.tables.objects.entries c.args.id c.in-Some.object.now (value_of_entry c.self.inside.tables.objects.entries c.args.id _ (sym c.in-Some.ensures.entry)) in
    subst (λ (s : Contents). (t : ℕ) → s.last_tick ≤ t → c.is_present.result ≡ is_some (cells_at (history_of s) c.args.id t)) c.self.view_is
    (λ t later.
    c.is_present.ensures
    ∙ ap (λ epochs. is_some (state_at epochs s.last_tick)) (sym at.epochs)
    ∙ ap (λ r. option_map_or (is_present_at s.last_tick) r false) (sym at.there)
    ∙ present_later s c.args.id c.self.invariant.kept.sound t later)

pub returns-in-None-clause-value : goal.returns-in-None-clause-value
returns-in-None-clause-value c =
    subst (λ (s : Contents). false ≡ option_map_or (is_present_at s.last_tick) (slice_get s.objects c.args.id) false) c.self.view_is
    (ap (λ r. option_map_or (is_present_at c.self.inside.tables.last_tick) r false)
    (sym (slice_get-map stored c.self.inside.tables.objects.entries c.args.id ∙ ap (option_map stored) (sym c.in-None.ensures.entry))))

pub returns-in-None-clause-later : goal.returns-in-None-clause-later
returns-in-None-clause-later c =
    let s : Contents = contents_of c.self.inside.tables in
    subst (λ (s : Contents). (t : ℕ) → s.last_tick ≤ t → false ≡ is_some (cells_at (history_of s) c.args.id t)) c.self.view_is
    (λ t later.
    ap (λ r. option_map_or (is_present_at s.last_tick) r false)
    (sym (slice_get-map stored c.self.inside.tables.objects.entries c.args.id ∙ ap (option_map stored) (sym c.in-None.ensures.entry)))
    ∙ present_later s c.args.id c.self.invariant.kept.sound t later)
