use Rattle.std.proofs.Common.{◌+◌, ◌≤◌, length}
use Rattle.std.specs.Prelude.{vec_len, vec_capacity}
use Rattle.interval_set.proofs.GapLemmas.{LeftSoFar}
use Rattle.interval_set.proofs.gaps.rest_of.Given as goal

abbrev pub invariant-loop-s : goal.invariant-loop-s
invariant-loop-s l = record {
  room : vec_len l.made + length l.rest_first + length l.rest_second ≤ vec_capacity l.made;
  so_far : LeftSoFar l.first l.second l.made.items l.rest_first l.rest_second l.from;
}

abbrev pub decreases-loop-s : goal.decreases-loop-s
decreases-loop-s l = length l.rest_first + length l.rest_second
