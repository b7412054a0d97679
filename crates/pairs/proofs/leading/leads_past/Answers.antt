use Rattle.std.proofs.Common.{◌≡◌, ◌-ℤ◌, arith}
use mir.Syntax.{w64}
use mir.Val.{to_z, of_z}
use Rattle.exact.proofs.Sizes.{steps}
use Rattle.pairs.proofs.FarLemmas.{leads_far}
use Rattle.pairs.proofs.leading.leads_past.Goals as goal

pub returns : goal.returns
returns c =
    let p = c.args.p.now in
    let q = c.args.q.now in
    let x : to_z w64 (of_z w64 c.apart-x.result) ≡ q.at.x -ℤ p.at.x = grind (arith, steps) in
    let y : to_z w64 (of_z w64 c.apart-y.result) ≡ q.at.y -ℤ p.at.y = grind (arith, steps) in
    let dx : to_z w64 (of_z w64 c.step_apart-dx.result) ≡ q.dx -ℤ p.dx = grind (arith, steps) in
    let dy : to_z w64 (of_z w64 c.step_apart-dy.result) ≡ q.dy -ℤ p.dy = grind (arith, steps) in
    λ e. leads_far p q c.args.c _ _ _ _ c.width.result c.turn.result c.width.ensures c.turn.ensures x y dx dy e
