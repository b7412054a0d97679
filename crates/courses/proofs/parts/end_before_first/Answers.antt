use Rattle.std.proofs.Common.{arith}
use Rattle.courses.proofs.PartLemmas.{late_first, none_begun_before, none_begun_ever, part_before_first, part_never}
use Rattle.courses.proofs.parts.end_before_first.Goals as goal

pub overflow_sub-from : goal.overflow_sub-from
overflow_sub-from c = omega (arith, c.from.ensures.value, late_first c.args.timeline.now c.in-Some.first.now c.args.at (grind arith) c.requires.before)

pub returns-in-Some-clause-part : goal.returns-in-Some-clause-part
returns-in-Some-clause-part c =
    part_before_first c.args.asked c.args.timeline.now c.in-Some.first.now c.args.at c.args.last c.min.result c.requires.rising (grind arith) c.requires.before c.requires.order (grind arith)

pub returns-in-None-clause-part : goal.returns-in-None-clause-part
returns-in-None-clause-part c = part_never c.args.asked c.args.timeline.now c.args.at c.args.last (grind arith) c.requires.order

pub returns-in-Some-clause-begun : goal.returns-in-Some-clause-begun
returns-in-Some-clause-begun c =
    none_begun_before c.args.timeline.now c.in-Some.first.now c.min.result c.requires.rising (grind arith)
    (omega (arith, c.from.ensures.value, c.min.ensures, late_first c.args.timeline.now c.in-Some.first.now c.args.at (grind arith) c.requires.before))

pub returns-in-None-clause-begun : goal.returns-in-None-clause-begun
returns-in-None-clause-begun c = none_begun_ever c.args.timeline.now c.args.last (grind arith)
