use Rattle.std.proofs.Common.{◌+◌, ◌≤◌, length}
use Rattle.std.specs.Prelude.{vec_len, vec_capacity}
use Rattle.interval_set.proofs.OverlapLemmas.{ClippedSoFar}
use Rattle.interval_set.proofs.overlap.part_in.Given as goal

abbrev pub invariant-loop-s : goal.invariant-loop-s
invariant-loop-s l = record {
  room : vec_len l.made + length l.rest ≤ vec_capacity l.made;
  so_far : ClippedSoFar l.w.lo l.w.hi l.spans l.made.items l.rest;
}

abbrev pub decreases-loop-s : goal.decreases-loop-s
decreases-loop-s l = length l.rest
