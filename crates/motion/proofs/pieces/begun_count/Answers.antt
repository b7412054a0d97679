use Rattle.std.proofs.Common.{arith, rules, leb}
use Rattle.std.proofs.lemmas.List.Sorted.{IsPartitionedBy-leb, IsPartitionPoint-from_clause}
use Rattle.std.proofs.lemmas.Bool.Decides.{nat_tests}
use Rattle.motion.proofs.TimelineLemmas.{closed, from_rises}
use Rattle.motion.proofs.pieces.begun_count.Goals as goal

pub returns : goal.returns
returns c =
    let parted = IsPartitionedBy-leb (λ p. p.from) c.args.epochs.now c.args.t (from_rises c.args.epochs.now c.requires) in
    let point = IsPartitionPoint-from_clause (λ p. leb p.from c.args.t) _ _ c.partition_point.ensures.partitioned parted (λ a r q k. search rules) in
    closed c.args.epochs.now c.args.t _ (record {
      within = c.partition_point.ensures.bound;
      begun = λ k d l. grind (arith, nat_tests, point.0 k d (omega arith) l);
      later = λ k d l m. grind (arith, nat_tests, point.1 k d l m);
    })
