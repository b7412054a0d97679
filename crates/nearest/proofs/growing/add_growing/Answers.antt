use Rattle.std.proofs.Common.{◌≡◌, ℕ, ◌≤◌, refl, sym, subst, ◌∙◌, arith}
use Rattle.nearest.specs.Courses.{HaveAscendingIndexes}
use Rattle.nearest.specs.Found.{AreBefore}
use Rattle.nearest.proofs.FoundLemmas.{all_before, both_found, nothing_more}
use Rattle.nearest.proofs.growing.add_growing.Goals as goal

pub growing-init : goal.growing-init
growing-init c = record {
  begun = omega arith;
  until = let order : c.args.w.lo ≤ c.args.w.hi = c.args.w.ordered in omega (arith, order);
  count = refl;
  before = c.requires.before;
  added = nothing_more c.args.aim.now.target.now c.args.courses.now c.args.aim.now.k c.args.w.lo c.args.found.now.items;
}

pub add_slices-requires-clause-ascending : goal.add_slices-requires-clause-ascending
add_slices-requires-clause-ascending c =
    subst (λ (n : ℕ). HaveAscendingIndexes 0 n c.args.courses.now) (sym c.growing.invariant.count) c.requires.ascending

pub add_slices-requires-clause-before : goal.add_slices-requires-clause-before
add_slices-requires-clause-before c =
    subst (λ (lo : ℕ). AreBefore lo c.growing.found.items) (sym c.slice_from-slice.ensures.begins) c.growing.invariant.before

pub returns-then-until-slice-clause-found : goal.returns-then-until-slice-clause-found
returns-then-until-slice-clause-found c =
    let at = c.growing.at in
    let lo = c.args.w.lo in
    let slice = c.slice_from-slice.result in
    let until = c.in_ok-until.until in
    let begins : slice.lo ≡ at = c.slice_from-slice.ensures.begins in
    let low = c.in_ok-until.ensures.bounds.0 in
    both_found c.args.aim.now.target.now c.args.courses.now c.args.aim.now.k lo lo at slice.lo until c.args.found.now.items c.growing.found.items c.add_slices.new.found.items
    refl begins c.growing.invariant.begun (omega (arith, begins, low)) c.growing.invariant.count c.growing.invariant.added c.in_ok-until.ensures.found

pub growing-preserved : goal.growing-preserved
growing-preserved c =
    let from = c.args.aim.now.target.now in
    let courses = c.args.courses.now in
    let k = c.args.aim.now.k in
    let at = c.growing.at in
    let lo = c.args.w.lo in
    let slice = c.slice_from-slice.result in
    let until = c.in_ok-until.until in
    let old = c.args.found.now.items in
    let between = c.growing.found.items in
    let new = c.add_slices.new.found.items in
    let begins : slice.lo ≡ at = c.slice_from-slice.ensures.begins in
    let ends : slice.hi ≤ c.args.w.hi = c.slice_from-slice.ensures.ends in
    let begun : lo ≤ at = c.growing.invariant.begun in
    let low = c.in_ok-until.ensures.bounds.0 in
    let high = c.in_ok-until.ensures.bounds.1 in
    let same = c.in_ok-until.ensures.length in
    record {
      begun = omega (arith, begins, begun, low);
      until = omega (arith, ends, high);
      count = same ∙ c.growing.invariant.count;
      before =
          all_before from courses k slice.lo until between new same low
          (subst (λ (n : ℕ). AreBefore n between) (sym begins) c.growing.invariant.before) c.in_ok-until.ensures.found;
      added =
          both_found from courses k lo lo at slice.lo until old between new
          refl begins begun (omega (arith, begins, low)) c.growing.invariant.count c.growing.invariant.added c.in_ok-until.ensures.found;
    }

pub growing-smaller : goal.growing-smaller
growing-smaller c =
    let slice = c.slice_from-slice.result in
    let begins : slice.lo ≡ c.growing.at = c.slice_from-slice.ensures.begins in
    let order : slice.lo ≤ slice.hi = slice.ordered in
    omega (arith, begins, order)
