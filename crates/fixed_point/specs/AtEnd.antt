-- Bytes at the end of an array of fixed length, with 0 in each place in front of them.
use Rattle.std.specs.Prelude.{◌≡◌, ℕ, ◌-◌, ◌≤◌, List, ◌++◌, length, take, drop, replicate}
use Rattle.std.proofs.Common.{arith, length-drop, take-append-drop}

-- the bytes, and the rest of an array with so much room in front of them
abbrev pub at_end : ℕ → List ℕ → List ℕ
at_end room bytes = replicate (room - length bytes) 0 ++ bytes

-- an array is full, and in front of the start it has zeros alone
pub record IsAtEnd (room : ℕ) (places : List ℕ) (start : ℕ) : Type 0 where
  pub fits : start ≤ room
  pub full : length places ≡ room
  pub unused : take start places ≡ replicate start 0

-- the start again
pub start-drop : (room : ℕ) (places : List ℕ) (start : ℕ) → IsAtEnd room places start → room - length (drop start places) ≡ start
start-drop room places start is = omega (arith, length-drop start places, is.fits, is.full)

-- the array again
pub at_end-drop : (room : ℕ) (places : List ℕ) (start : ℕ) → IsAtEnd room places start → at_end room (drop start places) ≡ places
at_end-drop room places start is = rw (start-drop room places start is, ← is.unused) (take-append-drop start places)
