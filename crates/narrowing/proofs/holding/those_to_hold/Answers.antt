use Rattle.std.proofs.Common.{◌≡◌, List, ℕ, ◌∷◌, sym, subst, arith}
use Rattle.formula.specs.Tree.{formula_view}
use Rattle.object_store.specs.Searching.{IsSearched}
use Rattle.object_store.proofs.AreaLemmas.{searched_first}
use Rattle.narrowing.specs.Holding.{FailsWith}
use Rattle.narrowing.proofs.ShareLemmas.{from_increasing}
use Rattle.narrowing.proofs.holding.those_to_hold.Goals as goal

pub ids-init : goal.ids-init
ids-init c =
    let Lost : ℕ → Type 0 = FailsWith c.args.scene.now c.args.var (formula_view c.args.f.now) in
    subst (λ (found : List ℕ). IsSearched Lost c.args.ids.now found c.args.ids.now) (sym c.new-found.ensures.items)
    (searched_first Lost c.args.ids.now (from_increasing 0 c.args.ids.now c.requires (λ some. omega arith)))

pub ids-preserved : goal.ids-preserved
ids-preserved c =
    let rest_is : c.ids.rest.now ≡ c.in-Some.id.now ∷ c.in-Some.later.now = c.in-Some.ensures.cases.0 in
    c.in_ok-push_to_hold.ensures c.args.ids.now c.in-Some.later.now
    (subst (λ (rest : List ℕ). IsSearched (FailsWith c.args.scene.now c.args.var (formula_view c.args.f.now)) c.args.ids.now c.ids.found.items rest) rest_is c.ids.invariant)
