use Rattle.std.proofs.Common.{◌≡◌, ℕ, ◌+◌, ◌<◌, ◌≤◌, List, length, sym, subst, arith}
use Rattle.std.specs.Prelude.{All}
use Rattle.nearest.specs.Courses.{HaveAscendingIndexes}
use Rattle.nearest.specs.Found.{AreBefore, HaveMore}
use Rattle.nearest.specs.Sights.{IsSeenFrom}
use Rattle.nearest.specs.declared.course.Course.{Course}
use Rattle.nearest.proofs.FoundLemmas.{all_before, both_found, found_by_few}
use Rattle.nearest.proofs.slices.+add_slices.Goals as goal

pub add_slice-requires : goal.add_slice-requires
add_slice-requires t c =
    let n = length c.args.found.now.items in
    record {
      seen = subst (λ (xs : List Course). All (IsSeenFrom c.args.aim.now.target.now c.args.slice) xs) (sym c.deref.ensures.value) c.in_ok-few.ensures.seen;
      ascending = subst (λ (xs : List Course). HaveAscendingIndexes 0 n xs) (sym c.deref.ensures.value) (c.in_ok-few.ensures.ascending n c.requires.ascending);
      before = c.requires.before;
    }

pub returns-then-is_few-clause-found : goal.returns-then-is_few-clause-found
returns-then-is_few-clause-found t c =
    let from = c.args.aim.now.target.now in
    let k = c.args.aim.now.k in
    let slice = c.args.slice in
    let few = c.in_ok-few.few.items in
    let old = c.args.found.now.items in
    let new = c.add_slice.new.found.items in
    let done = c.in_ok-done.done in
    found_by_few from k done slice few c.args.courses.now old new c.in_ok-done.ensures.bounds.1 c.in_ok-few.ensures.enough
    (subst (λ (xs : List Course). HaveMore from xs k slice.lo done old new) c.deref.ensures.value c.in_ok-done.ensures.found)

pub add_slices-requires : goal.add_slices-requires
add_slices-requires t c =
    let slice = c.args.slice in
    let old = c.args.found.now.items in
    let first = c.halves.result.0 in
    let second = c.halves.result.1 in
    let begins : first.lo ≡ slice.lo = c.halves.ensures.begins in
    let meets : second.lo ≡ first.hi + 1 = c.halves.ensures.meets in
    let ends : second.hi ≡ slice.hi = c.halves.ensures.ends in
    let order : second.lo ≤ second.hi = second.ordered in
    let first_order : first.lo ≤ first.hi = first.ordered in (
      omega (arith, c.decreases, begins, meets, ends, order, first_order),
      (
        subst (λ (xs : List Course). HaveAscendingIndexes 0 (length old) xs) (sym c.deref-2.ensures.value)
            (c.in_ok-few.ensures.ascending (length old) c.requires.ascending),
        subst (λ (lo : ℕ). AreBefore lo old) (sym begins) c.requires.before,
      ),
    )

pub returns-then-reached-first-clause-found : goal.returns-then-reached-first-clause-found
returns-then-reached-first-clause-found t c =
    let from = c.args.aim.now.target.now in
    let k = c.args.aim.now.k in
    let slice = c.args.slice in
    let few = c.in_ok-few.few.items in
    let old = c.args.found.now.items in
    let new = c.add_slices.new.found.items in
    let first = c.halves.result.0 in
    let second = c.halves.result.1 in
    let reached = c.in_ok-reached.reached in
    let meets : second.lo ≡ first.hi + 1 = c.halves.ensures.meets in
    let ends : second.hi ≡ slice.hi = c.halves.ensures.ends in
    let order : second.lo ≤ second.hi = second.ordered in
    let bound = c.in_ok-reached.ensures.bounds.1 in
    found_by_few from k reached slice few c.args.courses.now old new (omega (arith, meets, ends, order, bound)) c.in_ok-few.ensures.enough
    (subst (λ (lo : ℕ). HaveMore from few k lo reached old new) c.halves.ensures.begins
    (subst (λ (xs : List Course). HaveMore from xs k first.lo reached old new) c.deref-2.ensures.value c.in_ok-reached.ensures.found))

pub add_slices-requires-2 : goal.add_slices-requires-2
add_slices-requires-2 t c =
    let from = c.args.aim.now.target.now in
    let k = c.args.aim.now.k in
    let slice = c.args.slice in
    let few = c.in_ok-few.few.items in
    let old = c.args.found.now.items in
    let between = c.add_slices.new.found.items in
    let first = c.halves.result.0 in
    let second = c.halves.result.1 in
    let reached = c.in_ok-reached.reached in
    let begins : first.lo ≡ slice.lo = c.halves.ensures.begins in
    let meets : second.lo ≡ first.hi + 1 = c.halves.ensures.meets in
    let ends : second.hi ≡ slice.hi = c.halves.ensures.ends in
    let order : second.lo ≤ second.hi = second.ordered in
    let first_order : first.lo ≤ first.hi = first.ordered in
    let past : first.hi < reached = omega arith in
    let bounds = c.in_ok-reached.ensures.bounds in
    let high = bounds.1 in
    let next : second.lo ≡ reached = omega (arith, meets, past, high) in
    let same = c.in_ok-reached.ensures.length in
    let more : HaveMore from few k first.lo reached old between =
    subst (λ (xs : List Course). HaveMore from xs k first.lo reached old between) c.deref-2.ensures.value c.in_ok-reached.ensures.found in (
      omega (arith, c.decreases, begins, meets, ends, order, first_order),
      (
        subst (λ (xs : List Course). HaveAscendingIndexes 0 (length between) xs) (sym c.deref-3.ensures.value)
            (c.in_ok-few.ensures.ascending (length between) (subst (λ (n : ℕ). HaveAscendingIndexes 0 n c.args.courses.now) (sym same) c.requires.ascending)),
        subst (λ (lo : ℕ). AreBefore lo between) (sym next)
            (all_before from few k first.lo reached old between same bounds.0 (subst (λ (lo : ℕ). AreBefore lo old) (sym begins) c.requires.before) more),
      ),
    )

pub returns-clause-found : goal.returns-clause-found
returns-clause-found t c =
    let from = c.args.aim.now.target.now in
    let k = c.args.aim.now.k in
    let slice = c.args.slice in
    let few = c.in_ok-few.few.items in
    let old = c.args.found.now.items in
    let between = c.add_slices.new.found.items in
    let new = c.add_slices-2.new.found.items in
    let first = c.halves.result.0 in
    let second = c.halves.result.1 in
    let reached = c.in_ok-reached.reached in
    let until = c.in_ok-until.until in
    let begins : first.lo ≡ slice.lo = c.halves.ensures.begins in
    let meets : second.lo ≡ first.hi + 1 = c.halves.ensures.meets in
    let ends : second.hi ≡ slice.hi = c.halves.ensures.ends in
    let past : first.hi < reached = omega arith in
    let bounds = c.in_ok-reached.ensures.bounds in
    let low = bounds.0 in
    let high = bounds.1 in
    let next : second.lo ≡ reached = omega (arith, meets, past, high) in
    let after = c.in_ok-until.ensures.bounds.0 in
    let last = c.in_ok-until.ensures.bounds.1 in
    found_by_few from k until slice few c.args.courses.now old new (omega (arith, last, ends)) c.in_ok-few.ensures.enough
    (both_found from few k slice.lo first.lo reached second.lo until old between new begins next (omega (arith, begins, low)) (omega (arith, next, after))
    c.in_ok-reached.ensures.length
    (subst (λ (xs : List Course). HaveMore from xs k first.lo reached old between) c.deref-2.ensures.value c.in_ok-reached.ensures.found)
    (subst (λ (xs : List Course). HaveMore from xs k second.lo until between new) c.deref-3.ensures.value c.in_ok-until.ensures.found))
