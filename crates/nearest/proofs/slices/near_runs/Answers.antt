use Rattle.std.proofs.Common.{ℕ, ◌+◌, refl, sym, subst, ◌∙◌, arith}
use Rattle.nearest.specs.Courses.{HaveAscendingIndexes}
use Rattle.nearest.proofs.FoundLemmas.{all_ascend, all_before, all_found, before_any, both_found}
use Rattle.nearest.proofs.slices.near_runs.Goals as goal

pub add_growing-requires-clause-ascending : goal.add_growing-requires-clause-ascending
add_growing-requires-clause-ascending c =
    subst (λ (n : ℕ). HaveAscendingIndexes 0 n c.args.courses.now) (sym c.in_ok-found.ensures.length) (all_ascend c.args.courses.now c.requires)

pub add_growing-requires-clause-before : goal.add_growing-requires-clause-before
add_growing-requires-clause-before c = before_any c.args.w.lo c.in_ok-found.found.items c.in_ok-found.ensures.none

pub add_rest-requires-clause-ascending : goal.add_rest-requires-clause-ascending
add_rest-requires-clause-ascending c =
    subst (λ (n : ℕ). HaveAscendingIndexes 0 n c.args.courses.now) (sym (c.in_ok-until.ensures.length ∙ c.in_ok-found.ensures.length)) (all_ascend c.args.courses.now c.requires)

pub add_rest-requires-clause-before : goal.add_rest-requires-clause-before
add_rest-requires-clause-before c =
    all_before c.args.aim.now.target.now c.args.courses.now c.args.aim.now.k c.args.w.lo c.in_ok-until.until c.in_ok-found.found.items c.add_growing.new.found.items
    c.in_ok-until.ensures.length c.in_ok-until.ensures.bounds.0 (before_any c.args.w.lo c.in_ok-found.found.items c.in_ok-found.ensures.none) c.in_ok-until.ensures.found

pub returns-then-w-until-clause-found : goal.returns-then-w-until-clause-found
returns-then-w-until-clause-found c = λ i t below.
    let last = c.in_ok-until.ensures.bounds.1 in
    let length = c.in_ok-found.ensures.length in
    all_found c.args.aim.now.target.now c.args.courses.now c.args.aim.now.k c.in_ok-until.until c.args.w c.in_ok-found.found.items c.add_growing.new.found.items
    (omega (arith, last)) c.in_ok-found.ensures.none c.in_ok-until.ensures.found i t (omega (arith, below, length))

pub returns-clause-found : goal.returns-clause-found
returns-clause-found c = λ i t below.
    let from = c.args.aim.now.target.now in
    let courses = c.args.courses.now in
    let k = c.args.aim.now.k in
    let w = c.args.w in
    let until = c.in_ok-until.until in
    let none = c.in_ok-found.found.items in
    let between = c.add_growing.new.found.items in
    let new = c.add_rest.new.found.items in
    let length = c.in_ok-found.ensures.length in
    all_found from courses k (w.hi + 1) w none new refl c.in_ok-found.ensures.none
    (both_found from courses k w.lo w.lo until until (w.hi + 1) none between new refl refl c.in_ok-until.ensures.bounds.0 c.in_ok-until.ensures.bounds.1
    c.in_ok-until.ensures.length c.in_ok-until.ensures.found c.in_ok-add_rest.ensures.found)
    i t (omega (arith, below, length))
