-- How a text is read, digit by digit. The byte 48 is `0`.
use Rattle.std.specs.Prelude.{◌≡◌, ℕ, ◌+◌, ◌<◌, List, ◌∷◌, length, ◌==◌, ◌&&◌, not, Bool, slice_index}
use Rattle.std.specs.Str.Parse.{digits_value}

-- a text that begins with a digit
pub record IsFirstDigit (text : List ℕ) (digit : ℕ) (rest : List ℕ) : Type 0 where
  pub below : digit < 10
  pub spelled : text ≡ (48 + digit) ∷ rest

-- the number that digits write, how many they are, and what follows them
abbrev pub written_number : List ℕ × List ℕ → ℕ × ℕ × List ℕ
written_number parts = (digits_value 10 parts.0, length parts.0, parts.1)

-- digits with a zero before them
abbrev pub has_spare_zero : List ℕ → Bool
has_spare_zero digits = slice_index digits 0 == 48 && not (length digits == 1)
