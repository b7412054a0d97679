-- How a run ends.
use Rattle.std.specs.Prelude.{◌≡◌, ℕ, ◌+◌, ◌≤◌, ◌⊎◌, true, false, List, [], length, take, drop, Option, Some}
use Rattle.outside.specs.Faults.{Rose}
use Rattle.line_loop.specs.declared.ending.Ending.{Ending}
use Rattle.line_loop.specs.declared.ending.Ending.TheVariants.{Done, ReadFault, WriteFault, ContextFault, NoMemory, InputLimit}
use Rattle.line_loop.specs.declared.stop.Stop.{Stop}
use Rattle.line_loop.specs.declared.stop.Stop.TheVariants as stops
use Rattle.line_loop.specs.Lines.{ended_lines}
use Rattle.line_loop.specs.Machine.{Machine, Failures, after}
use Rattle.line_loop.specs.Run.{is_cut_off, answered_lines}
use Rattle.line_loop.specs.Stop.{Point, IsAt, point_after, StopsAtWrite, StopsAtContext, StopsForMemory}

-- the ending that a failure leads to
abbrev pub ending_of : Stop → Ending
ending_of stops.Write = WriteFault
ending_of stops.Context = ContextFault
ending_of stops.NoMemory = NoMemory

-- the counts of faults of the three objects outside
pub record Counts : Type 0 where
  pub source : ℕ
  pub sink : ℕ
  pub context : ℕ

-- a fault is blamed only where that count rose and the two others stand; every other ending leaves all three
abbrev pub EndsWithCause : Ending → Counts → Counts → Type 0
EndsWithCause ReadFault old new = Rose old.source new.source × (new.sink ≡ old.sink) × (new.context ≡ old.context)
EndsWithCause WriteFault old new = Rose old.sink new.sink × (new.source ≡ old.source) × (new.context ≡ old.context)
EndsWithCause ContextFault old new = Rose old.context new.context × (new.source ≡ old.source) × (new.sink ≡ old.sink)
EndsWithCause Done old new = new ≡ old
EndsWithCause NoMemory old new = new ≡ old
EndsWithCause InputLimit old new = new ≡ old

-- so many bytes were taken
pub record HasTaken (bytes : List ℕ) (count : ℕ) (left : Option (List ℕ)) : Type 0 where
  pub there : count ≤ length bytes
  pub rest : left ≡ Some (drop count bytes)

-- at most so many bytes were taken
abbrev pub StaysWithin : ℕ → List ℕ → Option (List ℕ) → Type 0
StaysWithin limit bytes left = (count : ℕ) × (count ≤ limit) × HasTaken bytes count left

-- no byte past the limit is taken, but for one where the run ends at the limit
abbrev pub KeepsLimit : ℕ → List ℕ → Ending → Option (List ℕ) → Type 0
KeepsLimit limit bytes InputLimit left = HasTaken bytes (limit + 1) left
KeepsLimit limit bytes Done left = StaysWithin limit bytes left
KeepsLimit limit bytes ReadFault left = StaysWithin limit bytes left
KeepsLimit limit bytes WriteFault left = StaysWithin limit bytes left
KeepsLimit limit bytes ContextFault left = StaysWithin limit bytes left
KeepsLimit limit bytes NoMemory left = StaysWithin limit bytes left

-- the lines that end within the bytes taken make the machine done
pub record IsDoneWithin {T : Type 0} (m : Machine T) (limit : ℕ) (start : Point T) (bytes : List ℕ) (left : Option (List ℕ)) : Type 0 where
  pub count : ℕ
  pub within : count ≤ limit
  pub taken : HasTaken bytes count left
  pub done : m.done (after m start.state (ended_lines (take count bytes))) ≡ true

-- every line that is to be answered was, and all bytes were taken or those that were make the machine done
pub record IsDone {T : Type 0} (m : Machine T) (limit : ℕ) (start : Point T) (bytes : List ℕ) (state : Option T) (written left : Option (List ℕ)) : Type 0 where
  pub whole : is_cut_off m limit start.state bytes ≡ false
  pub reached : IsAt (point_after m start (answered_lines m limit start.state bytes)) state written
  pub finished : (left ≡ Some []) ⊎ IsDoneWithin m limit start bytes left

-- every line that is to be answered was, and one byte past the limit was taken
pub record IsInputLimit {T : Type 0} (m : Machine T) (limit : ℕ) (start : Point T) (bytes : List ℕ) (state : Option T) (written left : Option (List ℕ)) : Type 0 where
  pub cut : is_cut_off m limit start.state bytes ≡ true
  pub reached : IsAt (point_after m start (answered_lines m limit start.state bytes)) state written
  pub taken : HasTaken bytes (limit + 1) left

-- the lines that end within the bytes taken were answered, and the machine isn't done
pub record IsReadFault {T : Type 0} (m : Machine T) (limit : ℕ) (start : Point T) (bytes : List ℕ) (state : Option T) (written left : Option (List ℕ)) : Type 0 where
  pub count : ℕ
  pub within : count ≤ limit
  pub taken : HasTaken bytes count left
  pub reached : IsAt (point_after m start (ended_lines (take count bytes))) state written
  pub going_on : m.done (after m start.state (ended_lines (take count bytes))) ≡ false

-- how a run over these bytes ends under the limit, and what is then told
abbrev pub HasEnding : {T : Type 0} → Machine T → Failures T → ℕ → Point T → List ℕ → Ending → Option T → Option (List ℕ) → Option (List ℕ) → Type 0
HasEnding m leaves limit start bytes Done state written left = IsDone m limit start bytes state written left
HasEnding m leaves limit start bytes InputLimit state written left = IsInputLimit m limit start bytes state written left
HasEnding m leaves limit start bytes ReadFault state written left = IsReadFault m limit start bytes state written left
HasEnding m leaves limit start bytes WriteFault state written left = StopsAtWrite m start (answered_lines m limit start.state bytes) state written
HasEnding m leaves limit start bytes ContextFault state written left = StopsAtContext m leaves start (answered_lines m limit start.state bytes) state written
HasEnding m leaves limit start bytes NoMemory state written left = StopsForMemory m leaves start (answered_lines m limit start.state bytes) state written
