use Rattle.std.proofs.Common.{◌≡◌, List, ℕ, true, ◌∷◌, sym, subst, arith}
use Rattle.std.proofs.lemmas.Bool.{not-false}
use Rattle.narrowing.specs.Beside.{AreFar}
use Rattle.narrowing.specs.Holding.{AreLost}
use Rattle.narrowing.proofs.BesideLemmas.{beside_in_order, far_first, far_more}
use Rattle.narrowing.proofs.HoldingLemmas.{lost_to_end}
use Rattle.narrowing.proofs.nearby.those_beside.Goals as goal

pub others-init : goal.others-init
others-init c =
    subst (λ (ids : List ℕ). AreLost (AreFar c.args.scene.now c.args.class c.args.most ids) c.args.others.now c.args.others.now) (sym c.new-ids.ensures.items)
    (far_first c.args.scene.now c.args.class c.args.most c.args.others.now)

pub others-preserved : goal.others-preserved
others-preserved c =
    let rest_is : c.others.rest.now ≡ c.in-Some.other.now ∷ c.in-Some.later.now = c.in-Some.ensures.cases.0 in
    let told : c.in_ok-are_told.are_told ≡ true = grind (arith, not-false, c.if-not-are_told.false) in
    far_more c.args.scene.now c.args.class c.args.most c.args.others.now c.in-Some.later.now c.others.ids.items c.push_beside.new.ids.items c.in-Some.other.now
    (subst (λ (rest : List ℕ). AreLost (AreFar c.args.scene.now c.args.class c.args.most c.others.ids.items) c.args.others.now rest) rest_is c.others.invariant)
    (c.in_ok-are_told.ensures told)

pub returns : goal.returns
returns c =
    beside_in_order c.args.scene.now c.args.class c.args.most c.args.others.now c.others.ids.items c.in_order.result.items
    (lost_to_end (AreFar c.args.scene.now c.args.class c.args.most c.others.ids.items) c.args.others.now c.others.rest.now c.in_default.ensures.cases c.others.invariant)
    c.in_order.ensures.ascending c.in_order.ensures.all
