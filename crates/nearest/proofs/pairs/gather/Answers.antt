use Rattle.std.proofs.Common.{◌≤◌, sym, ap, ◌∙◌, arith}
use Rattle.std.specs.Prelude.{count_by}
use Rattle.std.proofs.lemmas.List.{take_all}
use Rattle.std.proofs.lemmas.Bool.Decides.{nat_tests}
use Rattle.nearest.specs.Courses.{goes_before, rank_along}
use Rattle.nearest.specs.Depth.{depth_at}
use Rattle.nearest.specs.declared.course.Course.{Course}
use Rattle.nearest.proofs.RowLemmas.{count_more, few_more, one_at_most, too_many}
use Rattle.nearest.proofs.ThinLemmas.{counted_front}
use Rattle.nearest.proofs.SureLemmas.{none_of_few, surely_near}
use Rattle.nearest.proofs.pairs.gather.Goals as goal

pub returns-then-stays_within : goal.returns-then-stays_within
returns-then-stays_within c = λ t inside.
    let w = c.args.w in
    let from : w.lo ≤ t = grind (arith, nat_tests) in
    let up_to : t ≤ w.hi = grind (arith, nat_tests) in
    none_of_few (rank_along c.args.aim.now.target.now c.args.rivals.now.courses.now c.args.o.now t) c.args.aim.now.k (depth_at c.args.stretches.now.items t)
    (ap (λ spans. depth_at spans t) c.requires.none)
    (surely_near c.args.aim.now.target.now c.args.aim.now.k t w c.args.rivals.now.sure c.args.rivals.now.courses.now c.args.o.now c.requires.seen c.requires.o_seen c.requires.sure
    (sym c.stays_within.ensures ∙ c.if-stays_within.true) from up_to)

pub returns-then-throughout-aim : goal.returns-then-throughout-aim
returns-then-throughout-aim c = λ t inside.
    let f = λ (p : Course). goes_before c.args.aim.now.target.now p c.args.o.now t in
    too_many c.args.aim.now.k _ _ _ _ (omega arith) (c.courses.invariant.counted t inside) (counted_front f c.courses.p-index c.args.rivals.now.courses.now)

pub courses-preserved : goal.courses-preserved
courses-preserved c = record {
  few = omega (arith, c.courses.invariant.few, c.with_one-throughout.ensures, one_at_most c.in_ok-before.before);
  counted = λ t inside.
      let f = λ (p : Course). goes_before c.args.aim.now.target.now p c.args.o.now t in
      let so_far = c.courses.invariant.counted t inside in
      let more = c.in_ok-before.ensures t inside in
      let counts = count_more f c.args.rivals.now.courses.now c.courses.p-index c.p-item.result (omega arith) c.p-item.is in
      let one = c.with_one-throughout.ensures in
      omega (arith, so_far, more, counts, one);
}

pub returns : goal.returns
returns c = λ t inside.
    let f = λ (p : Course). goes_before c.args.aim.now.target.now p c.args.o.now t in
    few_more c.args.aim.now.k _ _ _ (c.courses.invariant.counted t inside ∙ ap (count_by f) (take_all c.courses.p-index c.args.rivals.now.courses.now (omega arith)))
