-- Numbers by their digits.
use Rattle.std.proofs.Common.{◌≡◌, ℕ, ◌+◌, ◌-◌, ◌*◌, ◌≤◌, true, List, [], ◌∷◌, arith}
use Rattle.std.specs.Char.{is_ascii_digit, digit_value}
use Rattle.std.specs.Str.Parse.{digits_value_after}
use Rattle.std.proofs.lemmas.Bool.Decides.{nat_tests}

-- more digits make no smaller number
pub digits-ge : (n : ℕ) (digits : List ℕ) → n ≤ digits_value_after 10 n digits
digits-ge n [] = omega arith
digits-ge n (c ∷ cs) = omega (arith, digits-ge (n * 10 + digit_value c) cs)

-- the value of a digit
pub digit_is : (byte : ℕ) → is_ascii_digit byte ≡ true → digit_value byte ≡ byte - 48
digit_is byte h = grind (arith, nat_tests)

pub ruleset whole_steps = (digits-ge, digit_is)
