use Rattle.std.proofs.Common.{◌≡◌, ℕ, ◌<◌, [], length, take}
use Rattle.std.specs.Prelude.{slice_index, slice_index_or}
use Rattle.motion.specs.Timeline.{AreBegunUpTo}
use Rattle.courses.specs.declared.parts.TheConstants.{MOST_TIMELINES}
use Rattle.courses.specs.Parts.{asked_each, epochs_of_each}
use Rattle.courses.proofs.PartLemmas.{IsCommonTo, AreFilled}
use Rattle.courses.proofs.parts.common_for.Given as goal

-- the part of the timelines so far, their epochs, and how many of them have begun by its end
abbrev pub invariant-loop-k : goal.invariant-loop-k
invariant-loop-k l = record {
  common : IsCommonTo (take l.k (asked_each l.asked (epochs_of_each l.timelines))) l.at l.last l.end;
  size : length l.epochs ≡ MOST_TIMELINES;
  filled : AreFilled (epochs_of_each l.timelines) l.at l.k l.epochs;
  begun : (j : ℕ) → j < l.k → AreBegunUpTo (slice_index_or (epochs_of_each l.timelines) j []) l.end (slice_index l.fn.begun j);
}
