-- For this crate and for the crates above: a canonical text is a number by its parts, so it is read.
use Rattle.std.proofs.Common.{◌≡◌, ℕ, ◌+◌, ◌-◌, ◌*◌, ◌/◌, ◌%◌, ◌^◌, ◌<◌, ◌≤◌, Bool, true, false, cond, eqb, List, [], ◌∷◌, ◌++◌, length, take, ℤ, pos, negsuc, unsigned_abs, refl, ap, ◌∙◌, arith, append-nil, append_assoc, length-append}
use Rattle.std.proofs.lemmas.Fmt.{length-decimal-le, decimal_is_IsNumeral}
use Rattle.std.proofs.lemmas.List.{length-take}
use Rattle.std.proofs.lemmas.Bool.Decides.{nat_tests}
use Rattle.std.specs.Fmt.{decimal}
use Rattle.std.specs.Int.{is_negative}
use Rattle.std.specs.List.{suffix_len}
use Rattle.fixed_point.specs.Decimal.{AreDigits, IsDecimal, decimals_text, decimals_value, with_sign}
use Rattle.fixed_point.specs.Canonical.{three_digits, without_last_zeros, fix_text}
use Rattle.fixed_point.specs.Laws.{ReadsPrintedNumber}
use Rattle.fixed_point.proofs.DecimalLemmas.{decimal_law}
use Rattle.fixed_point.proofs.DigitLemmas.{digit_of}
use Rattle.exact.proofs.Naturals.{digit_value_below}

pub point_length : (digits : List ℕ) → length (decimals_text digits) ≤ length digits + 1
point_length [] = omega arith
point_length (digit ∷ digits) = omega arith

decimals_length : (n : ℕ) → length (without_last_zeros (three_digits n)) ≤ 3
decimals_length n =
    let count : ℕ = 3 - suffix_len (λ digit. eqb digit 48) (three_digits n) in
    omega (arith, length-take count (three_digits n))

-- up to 16 digits and up to three decimals leave room for a sign
room_with : (digits decimals : List ℕ) → length digits ≤ 16 → length decimals ≤ 3 → length (digits ++ (decimals_text decimals ++ [])) + 1 ≤ 21
room_with digits decimals short few =
    omega (arith, length-append digits (decimals_text decimals ++ []), length-append (decimals_text decimals) [], point_length decimals)

-- so do the whole part and the decimals of a number
pub room_for_sign : (whole n : ℕ) (text : List ℕ) → text ≡ decimals_text (without_last_zeros (three_digits n)) ++ [] → whole ≤ 10 ^ 15
    → length (decimal whole ++ text) + 1 ≤ 21
room_for_sign whole n text is small =
    let short : length (decimal whole) ≤ 16 = length-decimal-le 16 whole (omega arith) (omega arith) (omega arith) in
    rw is (room_with (decimal whole) (without_last_zeros (three_digits n)) short (decimals_length n))

pub ruleset print_steps = (room_for_sign, append-nil, append_assoc)

-- Three digits without the zeros at their end are up to three digits, and stand for the same thousandths.
record Shortens (a b c : ℕ) (digits : List ℕ) : Type 0 where
  are : AreDigits 0 3 digits
  valued : decimals_value digits ≡ 100 * a + 10 * b + c

-- by which of the digits are zeros
shortened_by : (a b c : ℕ) (no_a no_b no_c : Bool) → a < 10 → b < 10 → c < 10 → (no_a ≡ true → a ≡ 0) → (no_b ≡ true → b ≡ 0) → (no_c ≡ true → c ≡ 0)
    → Shortens a b c (take (3 - cond no_c (1 + cond no_b (1 + cond no_a 1 0) 0) 0) ((48 + a) ∷ (48 + b) ∷ (48 + c) ∷ []))
shortened_by a b c no_a no_b false ha hb hc ea eb ec = record {
  are = record { digits = (digit_value_below a ha, (digit_value_below b hb, (digit_value_below c hc, tt))); enough = omega arith; few = omega arith };
  valued = omega (arith, digit_of a ha, digit_of b hb, digit_of c hc);
}
shortened_by a b c no_a false true ha hb hc ea eb ec = record {
  are = record { digits = (digit_value_below a ha, (digit_value_below b hb, tt)); enough = omega arith; few = omega arith };
  valued = omega (arith, digit_of a ha, digit_of b hb, ec refl);
}
shortened_by a b c false true true ha hb hc ea eb ec = record {
  are = record { digits = (digit_value_below a ha, tt); enough = omega arith; few = omega arith };
  valued = omega (arith, digit_of a ha, eb refl, ec refl);
}
shortened_by a b c true true true ha hb hc ea eb ec = record {
  are = record { digits = tt; enough = omega arith; few = omega arith };
  valued = omega (arith, ea refl, eb refl, ec refl);
}

shortened : (n : ℕ) → n < 1000 → Shortens (n / 100) (n / 10 % 10) (n % 10) (without_last_zeros (three_digits n))
shortened n below = shortened_by (n / 100) (n / 10 % 10) (n % 10) (eqb (48 + n / 100) 48) (eqb (48 + n / 10 % 10) 48) (eqb (48 + n % 10) 48) (omega arith) (omega arith) (omega arith)
    (λ h. grind (arith, nat_tests, h)) (λ h. grind (arith, nat_tests, h)) (λ h. grind (arith, nat_tests, h))

signed_size : (value : ℤ) → value ≡ with_sign (is_negative value) (unsigned_abs value)
signed_size (pos n) = grind (arith, nat_tests)
signed_size (negsuc n) = refl

canonical_is : (value : ℤ) → unsigned_abs value ≤ 10 ^ 12 → IsDecimal (fix_text value) value
unfolding fix_text
canonical_is value within =
    let size : ℕ = unsigned_abs value in
    let whole : ℕ = size / 1000 in
    let number = decimal_is_IsNumeral whole (omega arith) in
    let short : Shortens (size % 1000 / 100) (size % 1000 / 10 % 10) (size % 1000 % 10) (without_last_zeros (three_digits (size % 1000))) = shortened (size % 1000) (omega arith) in
    record {
      negative = is_negative value;
      whole = decimal whole;
      decimals = without_last_zeros (three_digits (size % 1000));
      whole_digits = record { digits = number.0.1; enough = number.0.0; few = length-decimal-le 10 whole (omega arith) (omega arith) (omega arith) };
      decimal_digits = short.are;
      spelled = refl;
      valued = signed_size value ∙ ap (with_sign (is_negative value)) (omega (arith, number.1, short.valued));
    }

pub printed_law : ReadsPrintedNumber
printed_law value within = (decimal_law (10 ^ 12) (fix_text value) value).1 (canonical_is value within, within)
