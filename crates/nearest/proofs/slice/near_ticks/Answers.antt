use Rattle.std.proofs.Common.{◌&&◌, nat_lt, is_some, sym, ap, ◌∙◌}
use Rattle.tick_set.specs.Runs.{spans_have}
use Rattle.tick_set.specs.Ticks.{within}
use Rattle.nearest.specs.Courses.{is_near_along, rank_along, squared_along}
use Rattle.nearest.proofs.PartLemmas.{guarded, straight_there}
use Rattle.nearest.proofs.RowLemmas.{both_inside}
use Rattle.nearest.proofs.slice.near_ticks.Goals as goal

pub returns-then-is_straight : goal.returns-then-is_straight
returns-then-is_straight c = λ t.
    let w = c.args.slice in
    let target = c.args.aim.now.target.now in
    let o = c.args.o.now in
    let few = nat_lt (rank_along target c.args.rivals.now.courses.now o t) c.args.aim.now.k in
    ap (λ spans. spans_have spans t) c.from_runs-few.ensures
    ∙ c.in_ok-below.ensures.ticks t
    ∙ guarded w.lo w.hi t few (is_near_along target c.args.rivals.now.courses.now c.args.aim.now.k o t)
    (λ from up_to.
    sym (λ i. straight_there target o.timeline.now w o.sight (sym c.is_straight.ensures ∙ c.if-is_straight.true) c.requires.o_seen t from up_to i && few))

pub returns : goal.returns
returns c = λ t.
    let w = c.args.slice in
    let target = c.args.aim.now.target.now in
    let o = c.args.o.now in
    c.in_ok-both.ensures.ticks t
    ∙ (λ i. spans_have (c.from_runs-few.ensures i) t && spans_have (c.from_runs-placed.ensures i) t)
    ∙ (λ i. c.in_ok-below.ensures.ticks t i && c.in_ok-there.ensures.ticks t i)
    ∙ both_inside (within w.lo w.hi t) (nat_lt (rank_along target c.args.rivals.now.courses.now o t) c.args.aim.now.k) (is_some (squared_along target o.timeline.now t))
