use Rattle.std.specs.Prelude.{IfSome}
use Rattle.std.proofs.Common.{◌≡◌, List, ℕ, [], sym, ap, subst, ◌∙◌}
use Rattle.object_store.specs.Contents.{Contents, ids_in}
use Rattle.object_store.specs.Searching.{AreFrom, IsNowhere, IsSearched}
use Rattle.object_store.specs.Areas.{AreNear}
use Rattle.object_store.specs.Tables.{contents_of}
use Rattle.object_store.proofs.AreaLemmas.{ids_ascend, near_of_searched}
use Rattle.object_store.proofs.store.Store.near.Goals as goal

pub those_near-requires-clause-ascending : goal.those_near-requires-clause-ascending
those_near-requires-clause-ascending c =
    subst (AreFrom 0) (sym c.class_names-own.ensures.ids) (ids_ascend c.args.self.now.objects c.args.class)

pub candidates-requires-clause-own : goal.candidates-requires-clause-own
candidates-requires-clause-own c =
    c.class_names-own.ensures.ids ∙ ap (λ (s : Contents). ids_in s.objects c.args.class) (sym c.self.view_is)

pub returns : goal.returns
returns c =
    let s : Contents = contents_of c.self.inside.tables in
    let found : List ℕ = c.in_ok-ids.ids.items in
    let ids_are : c.class_names-own.result.now ≡ ids_in s.objects c.args.class =
    c.class_names-own.ensures.ids ∙ ap (λ (s : Contents). ids_in s.objects c.args.class) (sym c.self.view_is) in
    subst (λ (s : Contents). AreNear s c.args.class c.args.area.now c.args.w.lo c.args.w.hi found) c.self.view_is
    (near_of_searched s c.args.class c.args.area.now c.args.w.lo c.args.w.hi found c.self.invariant.kept.sound
    (subst (λ (ids : List ℕ). IsSearched (IsNowhere s.objects c.args.area.now c.args.w.lo c.args.w.hi) ids found []) ids_are c.in_ok-ids.ensures))

pub returns-in-Some : goal.returns-in-Some
returns-in-Some c =
    let s : Contents = contents_of c.self.inside.tables in
    let found : List ℕ = c.in-Some.ids.items in
    subst (λ (s : Contents). AreNear s c.args.class c.args.area.now c.args.w.lo c.args.w.hi found) c.self.view_is
    (near_of_searched s c.args.class c.args.area.now c.args.w.lo c.args.w.hi found c.self.invariant.kept.sound
    (subst (λ placed. IfSome placed (λ ids. IsSearched (IsNowhere s.objects c.args.area.now c.args.w.lo c.args.w.hi) (ids_in s.objects c.args.class) ids.items [])) c.in-Some.is c.in_ok-placed.ensures))
