use Rattle.std.proofs.Common.{Some, ap, arith}
use Rattle.std.specs.Prelude.{count_by}
use Rattle.std.proofs.lemmas.List.{take_all}
use Rattle.nearest.specs.Sights.{may_come_within}
use Rattle.nearest.specs.declared.course.Course.{Course}
use Rattle.nearest.proofs.certain.are_few_within.Goals as goal

pub returns : goal.returns
returns c = λ is.
    let f = λ (x : Course). may_come_within (Some c.args.bound) x.sight in
    let all = ap (count_by f) (take_all c.courses.c-index c.args.courses.now (omega arith)) in
    let some = c.courses.invariant.some in
    let counted = c.courses.invariant.counted in
    omega (arith, all, some, counted)
