use Rattle.std.proofs.Common.{◌≡◌, List, ℕ, ◌∷◌, subst}
use Rattle.object_store.specs.ObjectView.{objects_of}
use Rattle.object_store.specs.Searching.{IsNowhere, IsSearched}
use Rattle.object_store.proofs.near.those_near.Goals as goal

pub ids-preserved : goal.ids-preserved
ids-preserved c =
    let rest_is : c.ids.rest.now ≡ c.in-Some.id.now ∷ c.in-Some.later.now = c.in-Some.ensures.cases.0 in
    c.in_ok-push_near.ensures c.args.ids.now c.in-Some.later.now
    (subst (λ (rest : List ℕ). IsSearched (IsNowhere (objects_of c.args.objects.now.entries) c.args.area.now c.args.w.lo c.args.w.hi) c.args.ids.now c.ids.found.items rest) rest_is c.ids.invariant)
