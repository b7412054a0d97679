use Rattle.std.proofs.Common.{◌≡◌, ℕ, List, ap, sym, subst, ◌∙◌}
use Rattle.std.specs.Prelude.{IfSome, slice_index}
use Rattle.std.specs.List.{filter}
use Rattle.std.specs.List.Sorted.{IsStrictlyIncreasing}
use Rattle.formula.specs.Tree.{resolved_view}
use Rattle.relation.specs.Key.{has_id, ids_of_variable}
use Rattle.narrowing.specs.Narrowed.{IsShare}
use Rattle.narrowing.specs.Needed.{AreNeeded}
use Rattle.narrowing.proofs.ShareLemmas.{own_of_class, share_of_needed}
use Rattle.narrowing.proofs.domains.share_of.Goals as goal

pub returns-in_ok-share-in-Some : goal.returns-in_ok-share-in-Some
returns-in_ok-share-in-Some c =
    let scene = c.args.scene.now in
    let q = resolved_view c.args.q.now in
    let own : List ℕ = ids_of_variable scene.domains.now c.args.var in
    let class : ℕ = slice_index q.classes c.args.var in
    let needed : AreNeeded scene class c.args.var q.formula c.in-Some.ids.items =
    subst (λ (classes : List ℕ). AreNeeded scene (slice_index classes c.args.var) c.args.var q.formula c.in-Some.ids.items) c.items.ensures
    (subst (λ found. IfSome found (λ ids. AreNeeded scene (slice_index c.items.result.now c.args.var) c.args.var q.formula ids.items)) c.in-Some.ensures c.in_ok-found.ensures) in
    let are : c.in_ok-share-in-Some.share.items ≡ filter (has_id own) c.in-Some.ids.items =
    c.in_ok-share-in-Some.ensures
    ∙ ap (λ others. filter (has_id others) c.deref.result.now) c.of-own.ensures.value
    ∙ ap (filter (has_id own)) c.deref.ensures.value in
    subst (IsShare scene q c.args.var) (sym are)
    (share_of_needed scene q c.args.var class c.in-Some.ids.items c.requires.within (subst IsStrictlyIncreasing c.of-own.ensures.value c.of-own.ensures.ascending) needed
    (own_of_class scene.store.now q scene.domains.now c.args.var c.requires.classes c.requires.within))
