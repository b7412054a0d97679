use Rattle.std.proofs.Common.{ℕ, List, sym, ap, ◌∙◌, subst}
use Rattle.std.proofs.lemmas.List.{with_items_is}
use Rattle.std.specs.Option.{ForSome}
use Rattle.tick_set.specs.Runs.{spans_have}
use Rattle.tick_set.specs.declared.spans.Span.{Span}
use Rattle.kept_rows.specs.Changes.{AreReady}
use Rattle.live_queries.specs.Columns.{Column}
use Rattle.live_queries.specs.Kept.{KeptQuery}
use Rattle.live_queries.specs.Lone.{IsLone}
use Rattle.live_queries.specs.Prepared.{HaveRoomFor}
use Rattle.live_queries.proofs.MadeLemmas.{made_is_kept, made_is_made, made_of, same_length}
use Rattle.live_queries.proofs.query.LiveQuery.commit.Goals as goal

pub add_object-requires : goal.add_object-requires
add_object-requires c =
    let k : KeptQuery = c.args.self.now in
    let classes = c.items.ensures ∙ ap (λ (x : KeptQuery). x.query.classes) c.self.view_is in
    let columns = c.deref_mut.ensures.value ∙ ap (λ (x : KeptQuery). x.columns) c.self.view_is in
    λ grows.
    subst (λ (xs : List ℕ). HaveRoomFor c.args.class xs c.deref_mut.result.now) (sym classes)
    (subst (λ (cs : List Column). HaveRoomFor c.args.class k.query.classes cs) (sym columns) (c.requires.room grows))

pub commit-requires : goal.commit-requires
commit-requires c =
    subst (λ (pages : List (List (List Span))). AreReady spans_have pages c.args.renewal.changes)
    (sym (ap (λ (x : KeptQuery). x.pages) c.self.view_is)) c.requires.ready

pub invariant_of-self : goal.invariant_of-self
invariant_of-self c =
    let kept = made_is_kept c.args.renewal.grows c.args.class c.args.object _ c.args.self.now c.self.view_is _ c.add_object.new.columns
    (with_items_is c.self.inside.columns c.add_object.new.columns
    (same_length c.args.renewal.grows c.args.class c.items.result.now c.args.object c.deref_mut.result.now c.add_object.new.columns c.add_object.ensures
    ∙ c.deref_mut.ensures.len))
    (made_of c.args.renewal.grows c.args.class c.args.self.now c.args.object c.items.result.now c.deref_mut.result.now c.add_object.new.columns
    (c.items.ensures ∙ ap (λ (x : KeptQuery). x.query.classes) c.self.view_is)
    (c.deref_mut.ensures.value ∙ ap (λ (x : KeptQuery). x.columns) c.self.view_is) c.add_object.ensures)
    c.commit.new.kept c.commit.ensures.len c.self.inside.targets.count c.self.inside.targets.width
    (c.self.invariant.0, c.self.invariant.1, c.self.invariant.2, c.self.invariant.3) in
    (kept.0, kept.1, kept.2, kept.3, subst (λ (cs : List Column). ForSome c.lone_of-self-inside.result (IsLone c.self.inside.query.classes cs)) c.deref.ensures.value c.lone_of-self-inside.ensures)

pub returns-clause-made : goal.returns-clause-made
returns-clause-made c =
    made_is_made c.args.class c.args.object c.args.renewal _ c.args.self.now c.self.view_is _ c.add_object.new.columns
    (with_items_is c.self.inside.columns c.add_object.new.columns
    (same_length c.args.renewal.grows c.args.class c.items.result.now c.args.object c.deref_mut.result.now c.add_object.new.columns c.add_object.ensures
    ∙ c.deref_mut.ensures.len))
    (made_of c.args.renewal.grows c.args.class c.args.self.now c.args.object c.items.result.now c.deref_mut.result.now c.add_object.new.columns
    (c.items.ensures ∙ ap (λ (x : KeptQuery). x.query.classes) c.self.view_is)
    (c.deref_mut.ensures.value ∙ ap (λ (x : KeptQuery). x.columns) c.self.view_is) c.add_object.ensures)
    c.commit.new.kept c.commit.ensures.rows

pub returns-clause-kept : goal.returns-clause-kept
returns-clause-kept c =
    (made_is_kept c.args.renewal.grows c.args.class c.args.object _ c.args.self.now c.self.view_is _ c.add_object.new.columns
    (with_items_is c.self.inside.columns c.add_object.new.columns
    (same_length c.args.renewal.grows c.args.class c.items.result.now c.args.object c.deref_mut.result.now c.add_object.new.columns c.add_object.ensures
    ∙ c.deref_mut.ensures.len))
    (made_of c.args.renewal.grows c.args.class c.args.self.now c.args.object c.items.result.now c.deref_mut.result.now c.add_object.new.columns
    (c.items.ensures ∙ ap (λ (x : KeptQuery). x.query.classes) c.self.view_is)
    (c.deref_mut.ensures.value ∙ ap (λ (x : KeptQuery). x.columns) c.self.view_is) c.add_object.ensures)
    c.commit.new.kept c.commit.ensures.len c.self.inside.targets.count c.self.inside.targets.width
    (c.self.invariant.0, c.self.invariant.1, c.self.invariant.2, c.self.invariant.3)).0
