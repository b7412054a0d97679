-- Items in the front of an array of fixed length, with one filler in each place after them.
use Rattle.std.specs.Prelude.{◌≡◌, ℕ, ◌-◌, ◌≤◌, List, ◌++◌, length, drop, replicate}

-- the items, and the filler after them in the rest of an array with so much room
abbrev pub padded : {A : Type 0} → A → ℕ → List A → List A
padded filler room items = items ++ replicate (room - length items) filler

-- an array is full, and past the count it has the filler alone
pub record IsPadded {A : Type 0} (filler : A) (room : ℕ) (places : List A) (count : ℕ) : Type 0 where
  pub fits : count ≤ room
  pub full : length places ≡ room
  pub unused : drop count places ≡ replicate (room - count) filler
