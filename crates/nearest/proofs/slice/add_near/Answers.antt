use Rattle.std.proofs.Common.{◌≡◌, ◌<◌, ◌≤◌, ◌&&◌, ◌||◌, true, false, length, take, get_or, sym, ap, ◌∙◌, arith}
use Rattle.std.specs.Prelude.{◌==◌}
use Rattle.std.proofs.lemmas.List.{take_all}
use Rattle.std.proofs.lemmas.List.Folds.{list_any_more}
use Rattle.std.proofs.lemmas.Bool.Decides.{nat_tests}
use Rattle.tick_set.specs.Runs.{spans_have}
use Rattle.tick_set.specs.Ticks.{within}
use Rattle.nearest.specs.Courses.{index_near, is_near_along}
use Rattle.nearest.specs.Found.{runs_at}
use Rattle.nearest.specs.declared.course.Course.{Course}
use Rattle.nearest.proofs.FoundLemmas.{before_slice, found_more, index_below, none_before_it, until_next}
use Rattle.nearest.proofs.slice.add_near.Goals as goal

pub append_at-requires-clause-index : goal.append_at-requires-clause-index
append_at-requires-clause-index c =
    let i = c.objects.o-index in
    let courses = c.args.courses.now in
    let o = c.o-item.result in
    let below = index_below 0 (length c.args.found.now.items) i courses o c.requires.ascending (omega arith) in
    let own : (get_or courses i o).index ≡ o.index = ap (λ (x : Course). x.index) (sym c.o-item.is) in
    let same = c.objects.invariant.count in
    omega (arith, below, own, same)

pub append_at-requires-clause-past : goal.append_at-requires-clause-past
append_at-requires-clause-past c = λ t u had more.
    let i = c.objects.o-index in
    let courses = c.args.courses.now in
    let target = c.args.aim.now.target.now in
    let k = c.args.aim.now.k in
    let slice = c.args.slice in
    let o = c.o-item.result in
    let old = c.args.found.now.items in
    let below = index_below 0 (length old) i courses o c.requires.ascending (omega arith) in
    let own : (get_or courses i o).index ≡ o.index = ap (λ (x : Course). x.index) (sym c.o-item.is) in
    let inside : o.index < length old = omega (arith, below, own) in
    let none : index_near target courses k (take i courses) o.index t ≡ false =
    ap (λ n. index_near target courses k (take i courses) n t) (sym own) ∙ none_before_it target courses k t 0 (length old) i courses o c.requires.ascending (omega arith) in
    let before : t < slice.lo =
    before_slice (spans_have (runs_at old o.index) t) (within slice.lo slice.hi t) (index_near target courses k (take i courses) o.index t) slice.lo t
    (c.requires.before o.index t inside) (sym (c.objects.invariant.found o.index t inside) ∙ had) none in
    let there : (within slice.lo slice.hi u && is_near_along target courses k o u) ≡ true =
    sym (c.in_ok-ticks.ensures u) ∙ sym (ap (λ spans. spans_have spans u) c.spans.ensures.value) ∙ more in
    let from : slice.lo ≤ u = grind (arith, nat_tests) in
    omega (arith, before, from)

pub objects-preserved : goal.objects-preserved
objects-preserved c =
    let i = c.objects.o-index in
    let courses = c.args.courses.now in
    let target = c.args.aim.now.target.now in
    let k = c.args.aim.now.k in
    let slice = c.args.slice in
    let o = c.o-item.result in
    let old = c.args.found.now.items in
    let same = c.objects.invariant.count in
    record {
      count = c.append_at.ensures.length ∙ same;
      found = λ n t below.
          let initial = spans_have (runs_at old n) t in
          let here = within slice.lo slice.hi t in
          let near = is_near_along target courses k o t in
          let so_far = index_near target courses k (take i courses) n t in
          c.in_ok-append_at.ensures.runs n t (omega (arith, same, below))
          ∙ (λ j. c.objects.invariant.found n t below j || ((o.index == n) && (ap (λ spans. spans_have spans t) c.spans.ensures.value ∙ c.in_ok-ticks.ensures t) j))
          ∙ found_more initial so_far here near (o.index == n)
          ∙ ap (λ b. initial || (here && b))
          (ap (λ (x : Course). so_far || ((x.index == n) && is_near_along target courses k x t)) c.o-item.is
          ∙ sym (list_any_more (λ (x : Course). (x.index == n) && is_near_along target courses k x t) courses i o (omega arith)));
    }

pub returns-clause-found : goal.returns-clause-found
returns-clause-found c = λ n t below.
    let courses = c.args.courses.now in
    let target = c.args.aim.now.target.now in
    let k = c.args.aim.now.k in
    let slice = c.args.slice in
    let initial = spans_have (runs_at c.args.found.now.items n) t in
    c.objects.invariant.found n t below
    ∙ ap (λ some. initial || (within slice.lo slice.hi t && index_near target courses k some n t)) (take_all c.objects.o-index courses (omega arith))
    ∙ ap (λ b. initial || b) (until_next slice.lo slice.hi t (index_near target courses k courses n t))
