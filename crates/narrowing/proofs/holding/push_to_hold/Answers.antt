use Rattle.std.proofs.Common.{List, ℕ, sym, subst}
use Rattle.formula.specs.Tree.{formula_view}
use Rattle.object_store.specs.Searching.{IsSearched}
use Rattle.object_store.proofs.AreaLemmas.{searched_found, searched_lost}
use Rattle.narrowing.specs.Holding.{FailsWith}
use Rattle.narrowing.proofs.holding.push_to_hold.Goals as goal

pub returns-else-can_hold_with : goal.returns-else-can_hold_with
returns-else-can_hold_with c ids rest is =
    searched_lost (FailsWith c.args.scene.now c.args.var (formula_view c.args.f.now)) ids _ rest c.args.id is
    (c.can_hold_with.ensures c.if-can_hold_with.false)

pub returns-in_ok-push : goal.returns-in_ok-push
returns-in_ok-push c ids rest is =
    let Lost : ℕ → Type 0 = FailsWith c.args.scene.now c.args.var (formula_view c.args.f.now) in
    subst (λ (found : List ℕ). IsSearched Lost ids found rest) (sym c.in_ok-push.ensures.items)
    (searched_found Lost ids c.args.found.now.items rest c.args.id is)
