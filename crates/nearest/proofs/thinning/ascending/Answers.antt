use Rattle.std.proofs.Common.{cond, nat_le}
use Rattle.std.proofs.lemmas.List.Sorted.{IsNonDecreasingBy-from_sort, sum_by-IsPermutation}
use Rattle.nearest.proofs.thinning.ascending.Goals as goal

pub returns-clause-sorted : goal.returns-clause-sorted
returns-clause-sorted c = IsNonDecreasingBy-from_sort (λ x. x) _ c.sort_unstable.ensures.sorted

pub returns-clause-counts : goal.returns-clause-counts
returns-clause-counts c = λ t. sum_by-IsPermutation (λ u. cond (nat_le u t) 1 0) _ _ c.sort_unstable.ensures.permutation
