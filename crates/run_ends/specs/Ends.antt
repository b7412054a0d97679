-- How a run may end, by its status, where the source, the sink and the shelf tell what they hold.
use Rattle.std.specs.Prelude.{◌≡◌, ℕ, ◌⊎◌, Bool, true, false, List, ◌++◌, take, Option, Some, option_map}
use Rattle.outside.specs.Faults.{Rose}
use Rattle.outside.specs.Shelf.{Texts}
use Rattle.line_loop.specs.declared.ending.Ending.{Ending}
use Rattle.line_loop.specs.declared.ending.Ending.TheVariants as endings
use Rattle.line_loop.specs.Ending as loop
use Rattle.line_loop.specs.Ending.{Counts}
use Rattle.line_loop.specs.Machine.{Machine, Failures}
use Rattle.line_loop.specs.Stop.{WritesPart}
use Rattle.run_ends.specs.declared.around.Outside.{Outside}
use Rattle.run_ends.specs.declared.status.Status.{Status}
use Rattle.run_ends.specs.declared.status.Status.TheVariants.{Done, BadWords, BadSession, ReadFault, WriteFault, ShelfFault, NoMemory, InputLimit}
use Rattle.run_ends.specs.Whole.{Plan, Says, Answers, Whole, whole_run}

-- what is seen of the outside at one moment: the counts of faults, where the shelf is the context of the read loop, and what
-- each object tells: the bytes that are left to read, those that were written, and the texts by name
pub record Seen : Type 0 where
  pub faults : Counts
  pub left : Option (List ℕ)
  pub written : Option (List ℕ)
  pub texts : Option Texts

-- by the counts of the source, the sink and the shelf, and what each of them tells
abbrev pub seen : ℕ → ℕ → ℕ → Option (List ℕ) → Option (List ℕ) → Option Texts → Seen
seen source sink shelf left written texts = record {
  faults = record { source = source; sink = sink; context = shelf };
  left = left;
  written = written;
  texts = texts;
}

-- by all three as one value, and what each of them tells
abbrev pub seen_by : {S K F : Type 0} → (S → ℕ) → (K → ℕ) → (F → ℕ) → (S → Option (List ℕ)) → (K → Option (List ℕ)) → (F → Option Texts) →
    Outside S K F → Seen
seen_by source sink shelf left written texts o =
    seen (source o.source) (sink o.sink) (shelf o.shelf) (left o.source) (written o.sink) (texts o.shelf)

-- What a run is given: its plan, whether it first fetches a text, the limit, the bytes of the source, what was written
-- before, and the texts.
pub record Setting (T : Type 0) : Type 0 where
  pub plan : Plan T
  pub opens : Bool
  pub limit : ℕ
  pub bytes : List ℕ
  pub written : List ℕ
  pub texts : Texts

-- nothing was read, written or changed
pub record IsAsBefore {T : Type 0} (g : Setting T) (after : Seen) : Type 0 where
  pub unread : after.left ≡ Some g.bytes
  pub unsaid : after.written ≡ Some g.written
  pub texts_stay : after.texts ≡ Some g.texts

-- what was to be said was written, nothing was read, and no text changed
pub record IsSaid {T : Type 0} (g : Setting T) (status : Status) (after : Seen) : Type 0 where
  pub said : List ℕ
  pub plan : g.plan ≡ Says said status
  pub output : after.written ≡ Some (g.written ++ said)
  pub unread : after.left ≡ Some g.bytes
  pub texts_stay : after.texts ≡ Some g.texts

-- a part of it was written that lacks at least the last byte
pub record IsSaidInPart {T : Type 0} (g : Setting T) (after : Seen) : Type 0 where
  pub said : List ℕ
  pub end : Status
  pub plan : g.plan ≡ Says said end
  pub part : WritesPart said g.written after.written
  pub unread : after.left ≡ Some g.bytes
  pub texts_stay : after.texts ≡ Some g.texts

-- the lines of the input were answered from the planned state on, and the read loop ended so; the texts are those that the
-- state of the machine then tells
pub record AnswersUntil {T : Type 0} (m : Machine T) (leaves : Failures T) (tells : T → Texts) (g : Setting T) (ending : Ending) (after : Seen) : Type 0 where
  pub start : T
  pub plan : g.plan ≡ Answers start
  pub state : Option T
  pub texts_are : after.texts ≡ option_map tells state
  pub ends : loop.HasEnding m leaves g.limit (record { state = start; written = g.written }) g.bytes ending state after.written after.left

-- One case a status. Where the shelf fails on the text that is fetched first, nothing was done.
abbrev pub EndsAs : {T : Type 0} → Machine T → Failures T → (T → Texts) → Setting T → Status → Seen → Type 0
EndsAs m leaves tells g Done after = IsSaid g Done after ⊎ AnswersUntil m leaves tells g endings.Done after
EndsAs m leaves tells g BadWords after = IsSaid g BadWords after
EndsAs m leaves tells g BadSession after = IsSaid g BadSession after
EndsAs m leaves tells g ReadFault after = AnswersUntil m leaves tells g endings.ReadFault after
EndsAs m leaves tells g WriteFault after = IsSaidInPart g after ⊎ AnswersUntil m leaves tells g endings.WriteFault after
EndsAs m leaves tells g ShelfFault after = ((g.opens ≡ true) × IsAsBefore g after) ⊎ AnswersUntil m leaves tells g endings.ContextFault after
EndsAs m leaves tells g NoMemory after = (IsAsBefore g after ⊎ IsSaidInPart g after) ⊎ AnswersUntil m leaves tells g endings.NoMemory after
EndsAs m leaves tells g InputLimit after = AnswersUntil m leaves tells g endings.InputLimit after

-- ---- The whole run

abbrev pub whole_run_of : {T : Type 0} → Machine T → (T → Texts) → Setting T → Whole
whole_run_of m tells g = whole_run m tells g.plan g.texts g.limit g.bytes

-- the statuses of a whole run
abbrev pub says_all : Status → Bool
says_all Done = true
says_all BadWords = true
says_all BadSession = true
says_all InputLimit = true
says_all _ = false

-- its status, all its output, and its texts
pub record IsWhole {T : Type 0} (m : Machine T) (tells : T → Texts) (g : Setting T) (status : Status) (after : Seen) : Type 0 where
  pub status_is : status ≡ (whole_run_of m tells g).status
  pub output : after.written ≡ Some (g.written ++ (whole_run_of m tells g).output)
  pub texts_are : after.texts ≡ Some (whole_run_of m tells g).texts

-- a part of its output, or all of it
abbrev pub IsOutputPart : {T : Type 0} → Machine T → (T → Texts) → Setting T → Seen → Type 0
IsOutputPart m tells g after = (count : ℕ) × (after.written ≡ Some (g.written ++ take count (whole_run_of m tells g).output))

-- no count of faults rose
pub record NoneRose (old new : Counts) : Type 0 where
  pub source : ¬ Rose old.source new.source
  pub sink : ¬ Rose old.sink new.sink
  pub context : ¬ Rose old.context new.context

-- the whole run, or there was no memory after a part of it
abbrev pub IsWholeOrPart : {T : Type 0} → Machine T → (T → Texts) → Setting T → Status → Seen → Type 0
IsWholeOrPart m tells g status after = IsWhole m tells g status after ⊎ ((status ≡ NoMemory) × IsOutputPart m tells g after)
