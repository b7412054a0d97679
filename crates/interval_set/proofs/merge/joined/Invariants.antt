use Rattle.std.proofs.Common.{◌+◌, ◌<◌, length}
use Rattle.std.specs.Prelude.{vec_len, vec_capacity}
use Rattle.interval_set.proofs.MergeLemmas.{JoinedSoFar}
use Rattle.interval_set.proofs.merge.joined.Given as goal

abbrev pub invariant-spans : goal.invariant-spans
invariant-spans l = record {
  room : vec_len l.made + length l.rest < vec_capacity l.made;
  so_far : JoinedSoFar l.spans l.made.items l.run l.rest;
}

abbrev pub decreases-spans : goal.decreases-spans
decreases-spans l = length l.rest
