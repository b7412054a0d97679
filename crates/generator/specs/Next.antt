-- What the next of some lines is.
use Rattle.std.specs.Prelude.{◌≡◌, ℕ, Bool, true, false, List, [], ◌∷◌}

-- the first of the lines that were left was put into the buffer and the others are left; or none was left and nothing changed
abbrev pub GivesNext : List (List ℕ) → List (List ℕ) → List ℕ → List ℕ → Bool → Type 0
GivesNext left after before line true = left ≡ line ∷ after
GivesNext left after before line false = (left ≡ []) × (after ≡ []) × (line ≡ before)
