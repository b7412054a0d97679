-- How the legs that end lie in an array: in its front, before places that aren't used.
use Rattle.std.specs.Prelude.{ℕ, ℤ, pos, List, take, IsTrue}
use Rattle.exact.specs.Padded as exact
use Rattle.motion.specs.declared.legs.TheConstants.{MOST_FIRSTS}
use Rattle.motion.specs.Function.{are_firsts}

abbrev pub padded_legs : List (ℤ × ℕ) → List (ℤ × ℕ)
padded_legs = exact.padded (pos 0, 0) MOST_FIRSTS

-- an array is full, past the count it has places that aren't used alone, and before it legs that a function may have
pub record IsStored (places : List (ℤ × ℕ)) (count : ℕ) : Type 0 where
  pub in_front : exact.IsPadded (pos 0, 0) MOST_FIRSTS places count
  pub legs : IsTrue (are_firsts (take count places))
