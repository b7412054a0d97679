use Rattle.std.proofs.Common.{◌≡◌, ℕ, cond, nat_le, ap, arith}
use Rattle.std.proofs.lemmas.List.Sorted.{sum_by-IsPermutation}
use Rattle.nearest.specs.Depth.{count_to}
use Rattle.nearest.proofs.ThinLemmas.{counted_front}
use Rattle.nearest.proofs.thinning.shorten.Goals as goal

pub returns : goal.returns
returns c = λ m.
    let sorted = c.sort_unstable.new.self.items in
    let same : count_to sorted m ≡ count_to c.args.mosts.now.items m = sum_by-IsPermutation (λ u. cond (nat_le u m) 1 0) _ _ c.sort_unstable.ensures.permutation in
    let front = counted_front (λ (u : ℕ). nat_le u m) c.args.k sorted in
    let left = ap (λ numbers. count_to numbers m) c.truncate.ensures.items in
    omega (arith, same, front, left)
