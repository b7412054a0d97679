-- What a write does to the bytes that a sink has taken, where they are told. `None` claims nothing.
use Rattle.std.specs.Prelude.{◌≡◌, ℕ, List, ◌++◌, take, Option, Some, Result, MatchResult}

-- what was written grew by these bytes
abbrev pub Grows : Option (List ℕ) → Option (List ℕ) → List ℕ → Type 0
Grows old new bytes = (written : List ℕ) → old ≡ Some written → new ≡ Some (written ++ bytes)

-- n bytes from the front of the piece were appended; a failure appends none
abbrev pub Writes : {E : Type 0} → Option (List ℕ) → Option (List ℕ) → Result ℕ E → List ℕ → Type 0
Writes old new result piece = MatchResult result (λ n. Grows old new (take n piece)) (λ _. new ≡ old)
