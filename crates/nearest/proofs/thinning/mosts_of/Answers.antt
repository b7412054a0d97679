use Rattle.std.proofs.Common.{arith}
use Rattle.nearest.specs.Sights.{is_surely_within}
use Rattle.nearest.specs.declared.course.Course.{Course}
use Rattle.nearest.proofs.RowLemmas.{count_more}
use Rattle.nearest.proofs.ThinLemmas.{counted_front}
use Rattle.nearest.proofs.thinning.mosts_of.Goals as goal

pub courses-preserved : goal.courses-preserved
courses-preserved c = λ m.
    let more = c.in_ok-add_most.ensures m in
    let left = c.shorten-limit.ensures m in
    let so_far = c.courses.invariant m in
    let counts = count_more (λ (x : Course). is_surely_within m x.sight) c.args.seen.now c.courses.c-index c.c-item.result (omega arith) c.c-item.is in
    omega (arith, more, left, so_far, counts)

pub returns : goal.returns
returns c = λ m.
    let so_far = c.courses.invariant m in
    let all = counted_front (λ (x : Course). is_surely_within m x.sight) c.courses.c-index c.args.seen.now in
    omega (arith, so_far, all)
