use Rattle.std.proofs.Common.{◌∙◌, ap, arith, rules}
use Rattle.std.proofs.lemmas.List.Sorted.{IsNonDecreasingBy-from_sort_by_key}
use Rattle.tick_set.specs.Runs.{spans_have}
use Rattle.interval_set.proofs.MergeLemmas.{begin_sorted, have_sorted}
use Rattle.interval_set.proofs.merge.union_of_spans.Goals as goal

pub joined-requires : goal.joined-requires
joined-requires c =
    rw c.deref.ensures.value
    (begin_sorted 0 _ (IsNonDecreasingBy-from_sort_by_key (λ s. s.lo) _ c.sort_unstable_by_key.ensures.sorted (λ a r q k. search rules)) (λ d l. omega arith))

pub returns-clause-ticks : goal.returns-clause-ticks
returns-clause-ticks c = λ t.
    c.in_ok-union.ensures.ticks t ∙ ap (λ spans. spans_have spans t) c.deref.ensures.value ∙ have_sorted _ _ c.sort_unstable_by_key.ensures.permutation t
