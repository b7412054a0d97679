use Rattle.std.proofs.Common.{List, sym, subst, ap, ◌∙◌}
use Rattle.std.specs.Prelude.{All}
use Rattle.std.proofs.lemmas.List.Elements.{All-filter}
use Rattle.nearest.specs.Courses.{HaveAscendingIndexes, index_near}
use Rattle.nearest.specs.Sights.{IsSeenFrom, may_come_within}
use Rattle.nearest.specs.declared.course.Course.{Course}
use Rattle.nearest.proofs.ThinLemmas.{EnoughWithin, ascend_alike, ascend_kept, kept_near, same_bodies}
use Rattle.nearest.proofs.thinning.thinned.Goals as goal

pub returns-clause-seen : goal.returns-clause-seen
returns-clause-seen c =
    subst (λ (few : List Course). All (IsSeenFrom c.args.aim.now.target.now c.args.slice) few) (sym c.kept-few.ensures)
    (All-filter (λ (x : Course). may_come_within c.in_ok-bound.bound x.sight) (IsSeenFrom c.args.aim.now.target.now c.args.slice) c.in_ok-seen.seen.items c.in_ok-seen.ensures.seen)

pub returns-clause-ascending : goal.returns-clause-ascending
returns-clause-ascending c = λ n ascend.
    let seen = c.in_ok-seen.seen.items in
    subst (λ (few : List Course). HaveAscendingIndexes 0 n few) (sym c.kept-few.ensures)
    (ascend_kept (λ (x : Course). may_come_within c.in_ok-bound.bound x.sight) 0 n seen (ascend_alike 0 n seen c.args.courses.now c.in_ok-seen.ensures.bodies ascend))

pub returns-clause-enough : goal.returns-clause-enough
returns-clause-enough c = λ i t begun up_to.
    let seen = c.in_ok-seen.seen.items in
    let from = c.args.aim.now.target.now in
    let k = c.args.aim.now.k in
    let enough : EnoughWithin k c.in_ok-bound.bound seen =
    subst (λ (xs : List Course). EnoughWithin k c.in_ok-bound.bound xs) c.deref.ensures.value c.in_ok-bound.ensures in
    ap (λ (few : List Course). index_near from few k few i t) c.kept-few.ensures
    ∙ kept_near from k t c.args.slice c.in_ok-bound.bound seen c.in_ok-seen.ensures.seen enough begun up_to i
    ∙ same_bodies from seen c.args.courses.now k i t c.in_ok-seen.ensures.bodies
