-- Where a machine and its sink stand after some lines, or where a failure stopped them.
use Rattle.std.specs.Prelude.{◌≡◌, ℕ, ◌<◌, ◌≤◌, ◌⊎◌, false, List, [], ◌∷◌, ◌++◌, length, take, Option, Some, Result, MatchResult}
use Rattle.outside.specs.declared.fault.OutFail.TheVariants.{Failed, NoMemory as MemoryFailed}
use Rattle.outside.specs.Faults.{Rose}
use Rattle.line_loop.specs.Machine.{Machine, Failures, after, replies}
use Rattle.line_loop.specs.declared.stop.Stop.{Stop}
use Rattle.line_loop.specs.declared.stop.Stop.TheVariants.{Write, Context, NoMemory}

-- the state of the machine, and what was written to the sink
pub record Point (T : Type 0) : Type 0 where
  pub state : T
  pub written : List ℕ

-- both are told, and are these
pub record IsAt {T : Type 0} (point : Point T) (state : Option T) (written : Option (List ℕ)) : Type 0 where
  pub in_state : state ≡ Some point.state
  pub has_written : written ≡ Some point.written

-- the point after these lines were answered, and their replies written
abbrev pub point_after : {T : Type 0} → Machine T → Point T → List (List ℕ) → Point T
point_after m point lines = record {
  state = after m point.state lines;
  written = point.written ++ replies m point.state lines;
}

-- A write failed. A part of the replies to the lines was written that lacks at least the last byte. The machine has
-- answered some of the lines, whose replies hold all of that part and more.
pub record StopsAtWrite {T : Type 0} (m : Machine T) (start : Point T) (lines : List (List ℕ)) (state : Option T) (written : Option (List ℕ)) : Type 0 where
  pub earlier : List (List ℕ)
  pub later : List (List ℕ)
  pub split : lines ≡ earlier ++ later
  pub in_state : state ≡ Some (after m start.state earlier)
  pub count : ℕ
  pub lacks : count < length (replies m start.state earlier)
  pub proper : count < length (replies m start.state lines)
  pub has_written : written ≡ Some (start.written ++ take count (replies m start.state lines))

-- The context failed on a line. The replies to the lines before it were written.
pub record StopsAtContext {T : Type 0} (m : Machine T) (leaves : Failures T) (start : Point T) (lines : List (List ℕ)) (state : Option T) (written : Option (List ℕ)) : Type 0 where
  pub earlier : List (List ℕ)
  pub line : List ℕ
  pub later : List (List ℕ)
  pub split : lines ≡ earlier ++ line ∷ later
  pub going_on : m.done (after m start.state earlier) ≡ false
  pub failed : leaves Failed (after m start.state earlier) line state
  pub has_written : written ≡ Some (start.written ++ replies m start.state earlier)

-- this state, or what want of memory leaves of it on the next line
abbrev pub IsLeftForMemory : {T : Type 0} → Machine T → Failures T → T → List (List ℕ) → Option T → Type 0
IsLeftForMemory m leaves now [] state = state ≡ Some now
IsLeftForMemory m leaves now (line ∷ lines) state =
    (state ≡ Some now) ⊎ ((m.done now ≡ false) × leaves MemoryFailed now line state)

-- There was no memory. A part of the replies to the lines was written. The machine has answered some of the lines, whose
-- replies hold all of that part.
pub record StopsForMemory {T : Type 0} (m : Machine T) (leaves : Failures T) (start : Point T) (lines : List (List ℕ)) (state : Option T) (written : Option (List ℕ)) : Type 0 where
  pub earlier : List (List ℕ)
  pub later : List (List ℕ)
  pub split : lines ≡ earlier ++ later
  pub lacking : IsLeftForMemory m leaves (after m start.state earlier) later state
  pub count : ℕ
  pub most : count ≤ length (replies m start.state earlier)
  pub has_written : written ≡ Some (start.written ++ take count (replies m start.state lines))

-- what a failure leaves that stops the machine within these lines
abbrev pub Stops : {T : Type 0} → Machine T → Failures T → Point T → List (List ℕ) → Stop → Option T → Option (List ℕ) → Type 0
Stops m leaves start lines Write state written = StopsAtWrite m start lines state written
Stops m leaves start lines Context state written = StopsAtContext m leaves start lines state written
Stops m leaves start lines NoMemory state written = StopsForMemory m leaves start lines state written

-- the lines were answered, or a failure stopped the machine within them
abbrev pub Takes : {T U : Type 0} → Machine T → Failures T → Point T → List (List ℕ) → Result U Stop → Option T → Option (List ℕ) → Type 0
Takes m leaves start lines result state written =
    MatchResult result (λ _. IsAt (point_after m start lines) state written) (λ stop. Stops m leaves start lines stop state written)

-- of these bytes a part was written that lacks at least the last one
abbrev pub WritesPart : List ℕ → List ℕ → Option (List ℕ) → Type 0
WritesPart bytes written told = (count : ℕ) × (count < length bytes) × (told ≡ Some (written ++ take count bytes))

-- all bytes were written, or a part
abbrev pub WritesAll : {T E : Type 0} → List ℕ → List ℕ → Result T E → Option (List ℕ) → Type 0
WritesAll bytes written result told = MatchResult result
    (λ _. told ≡ Some (written ++ bytes))
    (λ _. WritesPart bytes written told)

-- which counts a failure raises, of the sink and of the context
abbrev pub StopCounts : ℕ → ℕ → ℕ → ℕ → Stop → Type 0
StopCounts sink sink' context context' Write = Rose sink sink' × (context' ≡ context)
StopCounts sink sink' context context' Context = (sink' ≡ sink) × Rose context context'
StopCounts sink sink' context context' NoMemory = (sink' ≡ sink) × (context' ≡ context)

-- a fault is blamed only where that count rose and the other stands
abbrev pub StopHasCause : {T : Type 0} → ℕ → ℕ → ℕ → ℕ → Result T Stop → Type 0
StopHasCause sink sink' context context' result = MatchResult result
    (λ _. (sink' ≡ sink) × (context' ≡ context)) (StopCounts sink sink' context context')
