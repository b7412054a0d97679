-- The number that up to nine digits write.
use Rattle.std.proofs.Common.{◌≡◌, ℕ, ◌+◌, ◌-◌, ◌*◌, ◌^◌, ◌<◌, ◌≤◌, true, List, [], length, take, get_or, arith, length-take-le}
use Rattle.std.proofs.lemmas.Bool.Decides.{nat_tests}
use Rattle.std.proofs.lemmas.Int.Digits.{digits_value-lt}
use Rattle.std.proofs.Math.Nat.{pow-le-pow_right}
use Rattle.std.specs.Int.{IsInRange}
use Rattle.std.specs.Str.Parse.{digits_value}
use Rattle.fixed_point.specs.Decimal.{AreDigits}
use Rattle.fixed_point.proofs.DigitLemmas.{digit_within, digits_taken, number_with_digit}
use Rattle.domino_run.specs.Words.{is_short_number}
use Rattle.ftl_parser.proofs.canonical.TextNumbers.{all_digits}

are_digits : (text : List ℕ) → is_short_number text ≡ true → AreDigits 0 10 text
are_digits text h = record { digits = all_digits text (grind (arith, nat_tests, h)); enough = omega arith; few = grind (arith, nat_tests, h) }

-- the fronts of a number stay in range
pub front_below : (digits : List ℕ) (i : ℕ) → is_short_number digits ≡ true → i < length digits → digits_value 10 (take i digits) < 10 ^ 8
front_below digits i is within =
    let are = are_digits digits is in
    let long : length (take i digits) ≡ i = length-take-le i digits (omega (arith, within)) in
    let below : digits_value 10 (take i digits) < 10 ^ length (take i digits)
    = digits_value-lt 10 (take i digits) (digits_taken i digits are.digits) in
    let few : length digits ≤ 9 = grind (arith, nat_tests, is) in
    let few_taken : length (take i digits) ≤ 8 = omega (arith, long, within, few) in
    let most : 10 ^ length (take i digits) ≤ 10 ^ 8 = pow-le-pow_right (omega arith) few_taken in
    omega (arith, below, most)

pub digit_is_within : (digits : List ℕ) (i : ℕ) → is_short_number digits ≡ true → i < length digits → IsInRange 48 57 (get_or digits i 0)
digit_is_within digits i is within = digit_within digits i (are_digits digits is) within

pub one_digit_more : (digits : List ℕ) (i : ℕ) → is_short_number digits ≡ true → i < length digits →
    digits_value 10 (take (i + 1) digits) ≡ digits_value 10 (take i digits) * 10 + (get_or digits i 0 - 48)
one_digit_more digits i is within = number_with_digit digits i (are_digits digits is) within

pub ruleset value_steps = (front_below, digit_is_within, one_digit_more)
