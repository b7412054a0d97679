-- The number that digits at the front of a text write.
use Rattle.std.proofs.Common.{◌≡◌, ℕ, ◌^◌, ◌<◌, ◌≤◌, List, length, take, arith, length-take-le}
use Rattle.std.proofs.lemmas.List.{take_all}
use Rattle.std.proofs.lemmas.Int.Digits.{digits_value-lt}
use Rattle.std.proofs.lemmas.List.Sums.{prefix_len-le-length}
use Rattle.std.proofs.Math.Nat.{pow-le-pow_right}
use Rattle.std.specs.Str.Parse.{digits_value}
use Rattle.fixed_point.specs.Decimal.{AreDigits}
use Rattle.fixed_point.proofs.DigitLemmas.{digit_within, digits_in_front, digits_taken, number_with_digit}

-- the front of at most ten digits writes a number below 10^10
pub digits_below : (digits : List ℕ) (i : ℕ) → AreDigits 0 10 digits → i ≤ length digits → digits_value 10 (take i digits) < 10 ^ 10
digits_below digits i are within =
    let long : length (take i digits) ≡ i = length-take-le i digits within in
    let below : digits_value 10 (take i digits) < 10 ^ length (take i digits) = digits_value-lt 10 (take i digits) (digits_taken i digits are.digits) in
    let few : length (take i digits) ≤ 10 = omega (arith, long, are.few) in
    let most : 10 ^ length (take i digits) ≤ 10 ^ 10 = pow-le-pow_right (omega arith) few in
    omega (arith, below, most)

-- a front is the whole where it is as long
pub whole_below : (digits : List ℕ) (i : ℕ) → AreDigits 0 10 digits → length digits ≤ i → digits_value 10 (take i digits) < 10 ^ length digits
whole_below digits i are whole = rw (take_all i digits whole) (digits_value-lt 10 digits are.digits)

pub ruleset number_steps = (digits_below, digit_within, number_with_digit, whole_below)

pub ruleset front_steps = (digits_in_front, prefix_len-le-length)
