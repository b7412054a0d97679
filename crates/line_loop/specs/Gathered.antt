-- Replies that were gathered, and aren't written yet.
use Rattle.std.specs.Prelude.{◌≡◌, ℕ, List, ◌++◌, Option, Some, Result, MatchResult}
use Rattle.outside.specs.Sink.{Grows}
use Rattle.line_loop.specs.Machine.{Machine, Failures, after, replies}
use Rattle.line_loop.specs.Stop.{Point, Stops, WritesPart}
use Rattle.line_loop.specs.declared.stop.Stop.{Stop}
use Rattle.line_loop.specs.declared.stop.Stop.TheVariants.{Write, Context, NoMemory}

-- These lines were answered. A front of their replies was written, and the others are gathered.
pub record Gathers {T : Type 0} (m : Machine T) (start : Point T) (lines : List (List ℕ)) (state : Option T) (written : Option (List ℕ)) (gathered : List ℕ) : Type 0 where
  pub in_state : state ≡ Some (after m start.state lines)
  pub sent : List ℕ
  pub whole : replies m start.state lines ≡ sent ++ gathered
  pub has_written : written ≡ Some (start.written ++ sent)

-- the lines were answered, or a failure stopped the machine within them
abbrev pub Collects : {T U : Type 0} → Machine T → Failures T → Point T → List (List ℕ) → Result U Stop → Option T → Option (List ℕ) → List ℕ → Type 0
Collects m leaves start lines result state written gathered = MatchResult result
    (λ _. Gathers m start lines state written gathered)
    (λ stop. Stops m leaves start lines stop state written)

-- a write stopped: a part of the bytes was written that lacks at least the last one
abbrev pub SendStops : Stop → List ℕ → Option (List ℕ) → Option (List ℕ) → Type 0
SendStops Write bytes old new = (written : List ℕ) → old ≡ Some written → WritesPart bytes written new
SendStops NoMemory bytes old new = (written : List ℕ) → old ≡ Some written → WritesPart bytes written new
SendStops Context bytes old new = ⊥

-- of the gathered bytes a front was written, and the others are left
abbrev pub Sends : {U : Type 0} → List ℕ → Option (List ℕ) → Result U Stop → List ℕ → Option (List ℕ) → Type 0
Sends gathered old result left new = MatchResult result
    (λ _. (sent : List ℕ) × (gathered ≡ sent ++ left) × Grows old new sent)
    (λ stop. SendStops stop gathered old new)
