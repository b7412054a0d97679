use Rattle.std.proofs.Common.{◌≡◌, cond, nat_le, refl, ap, arith}
use Rattle.nearest.specs.Depth.{count_to, one_if}
use Rattle.nearest.specs.Sights.{is_surely_within}
use Rattle.nearest.proofs.ThinLemmas.{mosts_pushed}
use Rattle.nearest.proofs.thinning.add_most.Goals as goal

pub returns-in_ok-push : goal.returns-in_ok-push
returns-in_ok-push c = λ m.
    let old = c.args.mosts.now.items in
    let most = c.in-Straight.band.most in
    let is : one_if (is_surely_within m c.args.sight.now) ≡ cond (nat_le most m) 1 0 = ap (λ sight. one_if (is_surely_within m sight)) c.in-Straight.is in
    let pushed = mosts_pushed old most m (count_to old m) refl in
    let new = ap (λ numbers. count_to numbers m) c.in_ok-push.ensures.items in
    omega (arith, is, pushed, new)
