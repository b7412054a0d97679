use Rattle.std.proofs.Common.{◌-ℤ◌}
use Rattle.linear_crossing.specs.Moving.{position_after}
use Rattle.pairs.proofs.FarLemmas.{far_by_first, far_by_second}
use Rattle.pairs.proofs.movers.keep_apart.Goals as goal

pub returns-then-is_past : goal.returns-then-is_past
returns-then-is_past c = λ e positive k inside there.
    let p = position_after c.args.first.now.line k in
    let q = position_after c.args.second.now.line k in
    far_by_first c.args.most (q.x -ℤ p.x) (q.y -ℤ p.y) positive (c.is_past.ensures c.if-is_past.true p.x q.x inside.0 there.0)

pub returns-then-is_past-2 : goal.returns-then-is_past-2
returns-then-is_past-2 c = λ e positive k inside there.
    let p = position_after c.args.first.now.line k in
    let q = position_after c.args.second.now.line k in
    far_by_second c.args.most (q.x -ℤ p.x) (q.y -ℤ p.y) positive (c.is_past-2.ensures c.if-is_past-2.true p.y q.y inside.1 there.1)
