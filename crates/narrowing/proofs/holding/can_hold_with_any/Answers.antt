use Rattle.std.proofs.Common.{◌≡◌, List, ℕ, ◌∷◌, subst}
use Rattle.formula.specs.Tree.{formula_view}
use Rattle.narrowing.specs.Holding.{AreLost, FailsWith}
use Rattle.narrowing.proofs.HoldingLemmas.{lost_first, lost_to_end, none_lost}
use Rattle.narrowing.proofs.holding.can_hold_with_any.Goals as goal

pub ids-init : goal.ids-init
ids-init c = none_lost (FailsWith c.args.scene.now c.args.var (formula_view c.args.f.now)) c.args.ids.now

pub ids-preserved : goal.ids-preserved
ids-preserved c =
    let rest_is : c.ids.rest.now ≡ c.in-Some.id.now ∷ c.in-Some.later.now = c.in-Some.ensures.cases.0 in
    let Lost : ℕ → Type 0 = FailsWith c.args.scene.now c.args.var (formula_view c.args.f.now) in
    lost_first Lost c.args.ids.now c.in-Some.later.now c.in-Some.id.now
    (subst (λ (rest : List ℕ). AreLost Lost c.args.ids.now rest) rest_is c.ids.invariant) (c.can_hold_with.ensures c.if-can_hold_with.false)

pub returns : goal.returns
returns c never =
    lost_to_end (FailsWith c.args.scene.now c.args.var (formula_view c.args.f.now)) c.args.ids.now c.ids.rest.now c.in_default.ensures.cases c.ids.invariant
