-- For this crate and for the crates above: digits at the front of a text, and the number that they write.
use Rattle.std.proofs.Common.{◌≡◌, ℕ, zero, suc, ◌+◌, ◌-◌, ◌*◌, ◌^◌, ◌<◌, ◌≤◌, Bool, true, false, cond, List, [], ◌∷◌, length, take, drop, get_or, refl, ap, subst, sym, ◌∙◌, arith, length-drop, length-take-le, add_comm, add-one}
use Rattle.std.proofs.lemmas.List.{drop-drop, get_or-drop}
use Rattle.std.proofs.lemmas.Grind.{pow_more}
use Rattle.std.proofs.lemmas.Int.Digits.{digits_value_more}
use Rattle.std.proofs.lemmas.Str.Parse.{digit_at}
use Rattle.std.proofs.lemmas.List.Sums.{prefix_len-le-length}
use Rattle.std.proofs.lemmas.Bool.Decides.{nat_tests}
use Rattle.std.proofs.Math.Nat.{pow-le-pow_right}
use Rattle.std.specs.Char.{is_ascii_digit, digit_value}
use Rattle.std.specs.Int.{IsInRange}
use Rattle.std.specs.List.{prefix_len}
use Rattle.std.specs.Str.Parse.{AllDigits, digits_value}
use Rattle.fixed_point.specs.Decimal.{AreDigits}
use Rattle.fixed_point.specs.Digits.{IsFirstDigit}

pub digit_below_ten : (byte : ℕ) → is_ascii_digit byte ≡ true → digit_value byte < 10
digit_below_ten byte is_digit = grind (arith, nat_tests)

-- a digit's value is its distance from `0`
pub digit_value_is : (byte : ℕ) → IsInRange 48 57 byte → digit_value byte ≡ byte - 48
digit_value_is byte within = grind (arith, nat_tests)

front_with : (is_digit : Bool) (byte : ℕ) (text : List ℕ) → (is_digit ≡ true → digit_value byte < 10) → AllDigits 10 (take (prefix_len is_ascii_digit text) text) → AllDigits 10 (take (cond is_digit (1 + prefix_len is_ascii_digit text) 0) (byte ∷ text))
front_with true byte text below rest = rw (add_comm 1 (prefix_len is_ascii_digit text), add-one) (below refl, rest)
front_with false byte text below rest = tt

pub all_in_front : (text : List ℕ) → AllDigits 10 (take (prefix_len is_ascii_digit text) text)
all_in_front [] = tt
all_in_front (byte ∷ text) = front_with (is_ascii_digit byte) byte text (digit_below_ten byte) (all_in_front text)

-- the front is from one to `most` digits where it has so many bytes
pub digits_in_front : (text : List ℕ) (most : ℕ) → 1 ≤ prefix_len is_ascii_digit text → prefix_len is_ascii_digit text ≤ most → AreDigits 1 most (take (prefix_len is_ascii_digit text) text)
digits_in_front text most some few =
    let long : length (take (prefix_len is_ascii_digit text) text) ≡ prefix_len is_ascii_digit text = length-take-le (prefix_len is_ascii_digit text) text (prefix_len-le-length is_ascii_digit text) in
    record { digits = all_in_front text; enough = omega arith; few = omega arith }

pub digits_taken : (i : ℕ) (digits : List ℕ) → AllDigits 10 digits → AllDigits 10 (take i digits)
digits_taken zero digits are = tt
digits_taken (suc i) [] are = tt
digits_taken (suc i) (digit ∷ digits) are = (are.0, digits_taken i digits are.1)

-- the digit at a place
pub digit_within : (digits : List ℕ) (i : ℕ) → AreDigits 0 10 digits → i < length digits → IsInRange 48 57 (get_or digits i 0)
digit_within digits i are within = digit_at digits i are.digits within

-- the number after one digit more
pub number_with_digit : (digits : List ℕ) (i : ℕ) → AreDigits 0 10 digits → i < length digits → digits_value 10 (take (i + 1) digits) ≡ digits_value 10 (take i digits) * 10 + (get_or digits i 0 - 48)
number_with_digit digits i are within =
    digits_value_more 10 digits i within ∙ ap (λ digit. digits_value 10 (take i digits) * 10 + digit) (digit_value_is (get_or digits i 0) (digit_within digits i are within))

-- what two or three digits write
pub below_hundred : (n k : ℕ) → n < 10 ^ k → k ≡ 2 → n < 100
below_hundred n k below is = let h : n < 10 ^ 2 = subst (λ (j : ℕ). n < 10 ^ j) is below in omega (arith, h)

pub below_thousand : (n k : ℕ) → n < 10 ^ k → k ≤ 3 → n < 1000
below_thousand n k below few =
    let most : 10 ^ k ≤ 10 ^ 3 = pow-le-pow_right (omega arith) few in omega (arith, below, most)

pub ruleset power_steps = (below_hundred, below_thousand)

-- what up to ten digits write
pub ten_digits_are_few : (n k : ℕ) → n < 10 ^ k → k ≤ 10 → n < 10 ^ 10
ten_digits_are_few n k below few =
    let most : 10 ^ k ≤ 10 ^ 10 = pow-le-pow_right (omega arith) few in omega (arith, below, most)

-- A text is read so far: `count` of the digits at its front, the number that they write, and what follows them.
pub record IsReadTo (text : List ℕ) (most number count : ℕ) (rest : List ℕ) : Type 0 where
  pub few : count ≤ most
  pub follows : rest ≡ drop count text
  pub fits : count ≤ length text
  pub digits : prefix_len is_ascii_digit text ≡ count + prefix_len is_ascii_digit rest
  pub valued : number ≡ digits_value 10 (take count text)
  pub small : number < 10 ^ count

is_digit_of : (digit : ℕ) → digit < 10 → is_ascii_digit (48 + digit) ≡ true
is_digit_of digit below = grind (arith, nat_tests)

-- a digit's value is the digit
pub digit_of : (digit : ℕ) → digit < 10 → digit_value (48 + digit) ≡ digit
digit_of digit below = grind (arith, nat_tests)

-- a digit more
pub read_more : (text : List ℕ) (most number count digit : ℕ) (rest later : List ℕ) → IsReadTo text most number count rest → count < most → IsFirstDigit rest digit later
    → IsReadTo text most (number * 10 + digit) (count + 1) later
read_more text most number count digit rest later so_far room first =
    let left : drop count text ≡ (48 + digit) ∷ later = sym so_far.follows ∙ first.spelled in
    let within : count < length text = omega (arith, length-drop count text, ap length left) in
    let read : get_or text count 0 ≡ 48 + digit = ap (λ i. get_or text i 0) (omega arith) ∙ sym (get_or-drop count text 0 0) ∙ ap (λ bytes. get_or bytes 0 0) left in
    record {
      few = omega (arith, room);
      follows = sym (ap (drop 1) left) ∙ drop-drop 1 count text;
      fits = omega (arith, within);
      digits =
          so_far.digits ∙ ap (λ bytes. count + prefix_len is_ascii_digit bytes) first.spelled
          ∙ ap (λ b. count + cond b (1 + prefix_len is_ascii_digit later) 0) (is_digit_of digit first.below) ∙ omega arith;
      valued =
          let more : digits_value 10 (take (count + 1) text) ≡ digits_value 10 (take count text) * 10 + digit_value (48 + digit) =
          digits_value_more 10 text count within ∙ ap (λ byte. digits_value 10 (take count text) * 10 + digit_value byte) read in
          omega (arith, more, so_far.valued, digit_of digit first.below);
      small = omega (arith, pow_more 10 count, so_far.small, first.below);
    }
