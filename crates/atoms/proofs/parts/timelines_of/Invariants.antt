use Rattle.std.proofs.Common.{◌≡◌, ℕ, ◌+◌, length, map, take}
use Rattle.std.specs.Prelude.{All, slice_index}
use Rattle.courses.specs.declared.parts.TheConstants.{MOST_TIMELINES}
use Rattle.courses.specs.Parts.{epochs_of_each}
use Rattle.meaning.specs.Trace.{trace_of}
use Rattle.motion.specs.Timeline.{state_at}
use Rattle.object_store.specs.Contents.{history_of}
use Rattle.atoms.specs.Parts.{epochs_of}
use Rattle.atoms.proofs.parts.timelines_of.Given as goal

-- the timelines of the first variables
abbrev pub invariant-loop-k : goal.invariant-loop-k
invariant-loop-k g l = record {
  size : length l.timelines ≡ MOST_TIMELINES;
  epochs : take l.k (epochs_of_each l.timelines) ≡ map (λ v. epochs_of l.store (slice_index l.b v)) (take l.k l.variables);
  states : All (λ v. (t : ℕ) → trace_of (history_of l.store) (slice_index l.b) v t ≡ state_at (epochs_of l.store (slice_index l.b v)) t) (take l.k l.variables);
  step : l.reads ≡ l.initial.reads + l.k;
}
