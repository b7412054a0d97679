use Rattle.std.proofs.Common.{◌&&◌, ap, arith}
use Rattle.nearest.specs.Courses.{goes_before}
use Rattle.nearest.specs.Depth.{one_if}
use Rattle.nearest.proofs.pairs.add_unless_known.Goals as goal

pub returns-in-Some : goal.returns-in-Some
returns-in-Some c = λ t inside.
    let same = ap one_if (c.in-Some.ensures c.args.target.now c.args.w c.requires.p_seen c.requires.o_seen t inside) in
    omega (arith, same)

pub returns : goal.returns
returns c = λ t inside.
    let more = c.in_ok-add_before.ensures t in
    let here = ap (λ b. one_if (b && goes_before c.args.target.now c.args.p.now c.args.o.now t)) inside in
    omega (arith, more, here)
