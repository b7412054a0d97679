use Rattle.std.proofs.Common.{◌+◌, List, length, sym, subst, arith}
use Rattle.std.specs.Prelude.{All}
use Rattle.nearest.specs.Courses.{HaveAscendingIndexes}
use Rattle.nearest.specs.Found.{HaveMore}
use Rattle.nearest.specs.Sights.{IsSeenFrom}
use Rattle.nearest.specs.declared.course.Course.{Course}
use Rattle.nearest.proofs.FoundLemmas.{found_by_few}
use Rattle.nearest.proofs.slices.add_rest.Goals as goal

pub add_near-requires : goal.add_near-requires
add_near-requires c =
    let n = length c.args.found.now.items in
    record {
      seen = subst (λ (xs : List Course). All (IsSeenFrom c.args.aim.now.target.now c.args.slice) xs) (sym c.deref.ensures.value) c.in_ok-few.ensures.seen;
      ascending = subst (λ (xs : List Course). HaveAscendingIndexes 0 n xs) (sym c.deref.ensures.value) (c.in_ok-few.ensures.ascending n c.requires.ascending);
      before = c.requires.before;
    }

pub returns-clause-found : goal.returns-clause-found
returns-clause-found c =
    let slice = c.args.slice in
    let few = c.in_ok-few.few.items in
    let old = c.args.found.now.items in
    let new = c.add_near.new.found.items in
    found_by_few c.args.aim.now.target.now c.args.aim.now.k (slice.hi + 1) slice few c.args.courses.now old new (omega arith) c.in_ok-few.ensures.enough
    (subst (λ (xs : List Course). HaveMore c.args.aim.now.target.now xs c.args.aim.now.k slice.lo (slice.hi + 1) old new) c.deref.ensures.value c.in_ok-add_near.ensures.found)
