use Rattle.std.proofs.Common.{◌≡◌, ℕ, ◌+◌, ◌<◌, ◌≤◌, [], length}
use Rattle.std.specs.Prelude.{slice_index, slice_index_or}
use Rattle.motion.specs.Timeline.{AreBegunUpTo}
use Rattle.courses.specs.declared.parts.TheConstants.{MOST_TIMELINES}
use Rattle.courses.specs.Parts.{epochs_of_each}
use Rattle.courses.proofs.parts.move_on.Given as goal

-- those before k are moved on, and the others are as they were
abbrev pub invariant-loop-k : goal.invariant-loop-k
invariant-loop-k l = record {
  size : length l.begun ≡ MOST_TIMELINES;
  moved : (j : ℕ) → j < l.k → AreBegunUpTo (slice_index_or (epochs_of_each l.timelines) j []) (l.end + 1) (slice_index l.begun j);
  kept : (j : ℕ) → l.k ≤ j → slice_index l.begun j ≡ slice_index l.fn.begun j;
}
