-- For this crate: a whole number in front of a text, digit by digit from its last one.
use Rattle.std.proofs.Common.{◌≡◌, ℕ, ◌+◌, ◌/◌, ◌%◌, ◌^◌, ◌<◌, ◌≤◌, List, [], ◌∷◌, ◌++◌, length, ap, ◌∙◌, arith, append_assoc, length-append}
use Rattle.std.proofs.lemmas.Fmt.{decimal_digit, decimal_step, decimal_nonempty}
use Rattle.std.specs.Fmt.{decimal}

pub whole_with_digit : (n : ℕ) (text : List ℕ) → 10 ≤ n → n < 2 ^ 64 → decimal n ++ text ≡ decimal (n / 10) ++ (48 + n % 10) ∷ text
whole_with_digit n text more small = ap (λ digits. digits ++ text) (decimal_step n more small) ∙ append_assoc (decimal (n / 10)) ((48 + n % 10) ∷ []) text

pub whole_of_digit : (n : ℕ) (text : List ℕ) → n < 10 → decimal n ++ text ≡ (48 + n) ∷ text
whole_of_digit n text below = ap (λ digits. digits ++ text) (decimal_digit n below)

-- there is room for one digit where there is room for the number
pub room_for_digit : (n : ℕ) (text : List ℕ) → n < 2 ^ 64 → length text + 1 ≤ length (decimal n ++ text)
room_for_digit n text small = omega (arith, length-append (decimal n) text, decimal_nonempty n small)

pub ruleset whole_steps = (whole_with_digit, whole_of_digit, room_for_digit)
