use Rattle.std.proofs.Common.{arith, rules, leb, ◌+◌}
use Rattle.std.proofs.lemmas.List.Sorted.{IsPartitionedBy-leb, IsPartitionPoint-from_clause}
use Rattle.replica.proofs.FrontLemmas.{ended, ends_rise}
use Rattle.replica.proofs.fronts.ended_count.Goals as goal

pub returns-clause-before : goal.returns-clause-before
returns-clause-before c =
    let parted = IsPartitionedBy-leb (λ s. s.hi + 2) c.args.spans.now c.args.lo (ends_rise c.args.spans.now c.requires) in
    let point = IsPartitionPoint-from_clause (λ s. leb (s.hi + 2) c.args.lo) _ _ c.partition_point.ensures.partitioned parted (λ a r q k. search rules) in
    λ t e. ended c.args.spans.now _ c.args.lo t c.partition_point.ensures.bound (λ k d l. point.0 k d (omega arith) l) e
