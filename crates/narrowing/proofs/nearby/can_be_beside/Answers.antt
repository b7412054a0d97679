use Rattle.std.proofs.Common.{◌≡◌, List, ℕ, ◌∷◌, subst}
use Rattle.narrowing.specs.Beside.{IsApart}
use Rattle.narrowing.specs.Holding.{AreLost}
use Rattle.narrowing.proofs.HoldingLemmas.{lost_first, lost_to_end, none_lost}
use Rattle.narrowing.proofs.nearby.can_be_beside.Goals as goal

pub others-init : goal.others-init
others-init c = none_lost (IsApart c.args.scene.now c.args.most c.args.id) c.args.others.now

pub others-preserved : goal.others-preserved
others-preserved c =
    let rest_is : c.others.rest.now ≡ c.in-Some.other.now ∷ c.in-Some.later.now = c.in-Some.ensures.cases.0 in
    let Lost : ℕ → Type 0 = IsApart c.args.scene.now c.args.most c.args.id in
    lost_first Lost c.args.others.now c.in-Some.later.now c.in-Some.other.now
    (subst (λ (rest : List ℕ). AreLost Lost c.args.others.now rest) rest_is c.others.invariant) (c.can_be_beside_one.ensures c.if-can_be_beside_one.false)

pub returns : goal.returns
returns c never =
    lost_to_end (IsApart c.args.scene.now c.args.most c.args.id) c.args.others.now c.others.rest.now c.in_default.ensures.cases c.others.invariant
