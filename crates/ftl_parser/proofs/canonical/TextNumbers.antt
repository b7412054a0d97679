-- For this crate and for the crates above: canonical numbers: how long they are, and that they are numbers of the
-- same value.
use Rattle.ftl_parser.proofs.Names.{◌≡◌, ℕ, zero, suc, ◌+◌, ◌-◌, ◌*◌, ◌/◌, ◌%◌, ◌^◌, ◌<◌, ◌≤◌, max, Bool, true, false, ◌&&◌, List, [], ◌∷◌, ◌++◌, take, length, length-append, Option, None, Some, ℤ, pos, unsigned_abs, refl, sym, ap, subst, arith, cond, leb, eqb, neg_ℤ, option_and_then, unwrap_or, list_all, is_ascii_digit, is_negative, decimal, sign_text, AllDigits, digits_value, leb-true, and_parts, length-decimal-le, decimal_digit, thousandths_of, IsDecimal, AreDigits, with_sign, decimals_value, decimals_text, fix_text, three_digits, without_last_zeros, up_to, whole_of}
use Rattle.std.proofs.Math.Dec.{leb-zero}
use Rattle.std.proofs.lemmas.Int.Digits.{digits_value-lt}
use Rattle.std.proofs.Math.Nat.{pow-le-pow_right}
use Rattle.fixed_point.proofs.DecimalLemmas.{decimal_law, size_with_sign}
use Rattle.fixed_point.proofs.DigitLemmas.{digit_below_ten}
use Rattle.exact.proofs.Integers.{size_of_minus}
use Rattle.exact.proofs.Items.{sign_short as one_sign}

-- ---- whole numbers

pub all_digits : (text : List ℕ) → list_all is_ascii_digit text ≡ true → AllDigits 10 text
all_digits [] are = tt
all_digits (byte ∷ text) are =
    let parts = and_parts (is_ascii_digit byte) (list_all is_ascii_digit text) are in
    (digit_below_ten byte parts.0, all_digits text parts.1)

-- the number that digits write is no longer than they are, or has one digit
short_again : (text : List ℕ) → AllDigits 10 text → digits_value 10 text < 2 ^ 64 → length (decimal (digits_value 10 text)) ≤ max 1 (length text)
short_again text are small =
    let below : digits_value 10 text < 10 ^ length text = digits_value-lt 10 text are in
    let room : 10 ^ length text ≤ 10 ^ max 1 (length text) = pow-le-pow_right (omega arith) (omega arith) in
    length-decimal-le (max 1 (length text)) (digits_value 10 text) (omega arith) (omega (arith, below, room)) small

short_zero : (n : ℕ) → length (decimal 0) ≤ max 1 n
short_zero n = rw (decimal_digit 0 (omega arith)) (omega arith)

short_choice : (a c : Bool) (most : ℕ) (text : List ℕ) → most < 2 ^ 64 → list_all is_ascii_digit text ≡ a → leb (digits_value 10 text) most
    ≡ c → length (decimal (unwrap_or (cond (a && c) (Some (digits_value 10 text)) None) 0)) ≤ max 1 (length text)
short_choice true true most text small are within =
    let low : digits_value 10 text ≤ most = leb-true (digits_value 10 text) most within in
    short_again text (all_digits text are) (omega arith)
short_choice true false most text small are within = short_zero (length text)
short_choice false c most text small are within = short_zero (length text)

not_less : (found : Option ℕ) → option_and_then (λ n. cond (leb 0 n) (Some n) None) found ≡ found
not_less None = refl
not_less (Some n) = ap (λ (b : Bool). cond b (Some n) None) (leb-zero n)

-- a whole number from 0 is one up to the most
pub whole_is : (most : ℕ) (text : List ℕ) → whole_of 0 most text ≡ up_to most text
whole_is most text = not_less (up_to most text)

pub whole_short : (most : ℕ) (text : List ℕ) → most < 2 ^ 64 → length (decimal (unwrap_or (whole_of 0 most text) 0)) ≤ max 1 (length text)
whole_short most text small =
    subst (λ (found : Option ℕ). length (decimal (unwrap_or found 0)) ≤ max 1 (length text)) (sym (whole_is most text))
    (short_choice (list_all is_ascii_digit text) (leb (digits_value 10 text) most) most text small refl refl)

-- ---- decimals

-- the last digits are dropped where they are zeros
dropped : (no_a no_b no_c : Bool) (x y z : ℕ) → length (take (3 - cond no_c (1 + cond no_b (1 + cond no_a 1 0) 0) 0) (x ∷ y ∷ z ∷ [])) ≤ 3
dropped true true true x y z = omega arith
dropped false true true x y z = omega arith
dropped no_a false true x y z = omega arith
dropped no_a no_b false x y z = omega arith

dropped_one : (no_a no_b no_c : Bool) (x y z : ℕ) → no_c ≡ true → length (take (3 - cond no_c (1 + cond no_b (1 + cond no_a 1 0) 0) 0) (x ∷ y ∷ z ∷ [])) ≤ 2
dropped_one true true true x y z c = omega arith
dropped_one false true true x y z c = omega arith
dropped_one no_a false true x y z c = omega arith
dropped_one no_a no_b false x y z c = absurd (cc)

dropped_two : (no_a no_b no_c : Bool) (x y z : ℕ) → no_b ≡ true → no_c ≡ true
    → length (take (3 - cond no_c (1 + cond no_b (1 + cond no_a 1 0) 0) 0) (x ∷ y ∷ z ∷ [])) ≤ 1
dropped_two true true true x y z b c = omega arith
dropped_two false true true x y z b c = omega arith
dropped_two no_a false no_c x y z b c = absurd (cc)
dropped_two no_a no_b false x y z b c = absurd (cc)

is_zero : (n : ℕ) → n ≡ 0 → eqb (48 + n) 48 ≡ true
is_zero n none = rw none refl

decimals_short : (decimals : List ℕ) → AreDigits 0 3 decimals → length (without_last_zeros (three_digits (decimals_value decimals))) ≤ length decimals
decimals_short [] are = omega arith
decimals_short (a ∷ []) are =
    let n : ℕ = decimals_value (a ∷ []) in
    let value : n ≡ digits_value 10 (a ∷ []) * 100 = refl in
    dropped_two (eqb (48 + n / 100) 48) (eqb (48 + n / 10 % 10) 48) (eqb (48 + n % 10) 48) (48 + n / 100) (48 + n / 10 % 10) (48 + n % 10)
    (is_zero (n / 10 % 10) (omega (arith, value))) (is_zero (n % 10) (omega (arith, value)))
decimals_short (a ∷ b ∷ []) are =
    let n : ℕ = decimals_value (a ∷ b ∷ []) in
    let value : n ≡ digits_value 10 (a ∷ b ∷ []) * 10 = refl in
    dropped_one (eqb (48 + n / 100) 48) (eqb (48 + n / 10 % 10) 48) (eqb (48 + n % 10) 48) (48 + n / 100) (48 + n / 10 % 10) (48 + n % 10)
    (is_zero (n % 10) (omega (arith, value)))
decimals_short (a ∷ b ∷ c ∷ more) are =
    let n : ℕ = decimals_value (a ∷ b ∷ c ∷ more) in
    let three : length (without_last_zeros (three_digits n)) ≤ 3 =
    dropped (eqb (48 + n / 100) 48) (eqb (48 + n / 10 % 10) 48) (eqb (48 + n % 10) 48) (48 + n / 100) (48 + n / 10 % 10) (48 + n % 10) in
    omega (arith, three)

point_short : (xs ys : List ℕ) → length xs ≤ length ys → length (decimals_text xs) ≤ length (decimals_text ys)
point_short [] ys less = omega arith
point_short (x ∷ xs) [] less = absurd (omega arith)
point_short (x ∷ xs) (y ∷ ys) less = omega arith

decimals_below : (decimals : List ℕ) → AreDigits 0 3 decimals → decimals_value decimals < 1000
decimals_below [] are = omega arith
decimals_below (a ∷ []) are = let below : digits_value 10 (a ∷ []) < 10 ^ 1 = digits_value-lt 10 (a ∷ []) are.digits in omega (arith, below)
decimals_below (a ∷ b ∷ []) are = let below : digits_value 10 (a ∷ b ∷ []) < 10 ^ 2 = digits_value-lt 10 (a ∷ b ∷ []) are.digits in omega (arith, below)
decimals_below (a ∷ b ∷ c ∷ []) are = let below : digits_value 10 (a ∷ b ∷ c ∷ []) < 10 ^ 3 =
    digits_value-lt 10 (a ∷ b ∷ c ∷ []) are.digits in omega (arith, below)
decimals_below (a ∷ b ∷ c ∷ d ∷ more) are = absurd (omega (arith, are.few))

sign_short : (negative : Bool) (size : ℕ) → length (sign_text (is_negative (with_sign negative size))) ≤ length (sign_text negative)
sign_short false size = grind arith
sign_short true zero = omega arith
sign_short true (suc size) = omega arith

-- ---- numbers with decimals

pub fix_text_is : (value : ℤ) → fix_text value ≡ sign_text (is_negative value) ++ decimal (unsigned_abs value / 1000) ++ decimals_text
    (without_last_zeros (three_digits (unsigned_abs value % 1000)))
unfolding fix_text
fix_text_is value = refl

-- the text of a number, by the parts from which it was read
parts_short : (negative : Bool) (whole decimals : List ℕ) → AreDigits 1 10 whole → AreDigits 0 3 decimals
    → length (fix_text (with_sign negative (1000 * digits_value 10 whole + decimals_value decimals)))
    ≤ length (sign_text negative ++ whole ++ decimals_text decimals)
parts_short negative whole decimals are behind =
    let size : ℕ = 1000 * digits_value 10 whole + decimals_value decimals in
    let below : decimals_value decimals < 1000 = decimals_below decimals behind in
    let front : size / 1000 ≡ digits_value 10 whole = omega arith in
    let back : size % 1000 ≡ decimals_value decimals = omega arith in
    let value : digits_value 10 whole < 10 ^ length whole = digits_value-lt 10 whole are.digits in
    let few : 10 ^ length whole ≤ 10 ^ 10 = pow-le-pow_right (omega arith) are.few in
    let digits_are : length (decimal (digits_value 10 whole)) ≤ length whole =
    length-decimal-le (length whole) (digits_value 10 whole) (omega (arith, are.enough)) value (omega (arith, value, few)) in
    let point : length (decimals_text (without_last_zeros (three_digits (decimals_value decimals)))) ≤ length (decimals_text decimals) =
    point_short (without_last_zeros (three_digits (decimals_value decimals))) decimals (decimals_short decimals behind) in
    let sign : length (sign_text (is_negative (with_sign negative size))) ≤ length (sign_text negative) = sign_short negative size in
    rw (fix_text_is (with_sign negative size), size_with_sign negative size, front, back) (simp length-append (omega (arith, digits_are, point, sign)))

zero_text : fix_text (pos 0) ≡ 48 ∷ []
unfolding fix_text
zero_text = rw (decimal_digit 0 (omega arith)) refl

decimal_short : (text : List ℕ) (value : ℤ) → IsDecimal text value → length (fix_text value) ≤ length text
decimal_short text value number =
    let short = parts_short number.negative number.whole number.decimals number.whole_digits number.decimal_digits in
    let same_text : length text ≡ length (sign_text number.negative ++ number.whole ++ decimals_text number.decimals) = ap length number.spelled in
    let same_value : length (fix_text value) ≡ length (fix_text
    (with_sign number.negative (1000 * digits_value 10 number.whole + decimals_value number.decimals))) =
    ap (λ v. length (fix_text v)) number.valued in
    omega (arith, short, same_text, same_value)

found_short : (limit : ℕ) (text : List ℕ) (found : Option ℤ) → thousandths_of limit text ≡ found
    → length (fix_text (unwrap_or found (pos 0))) ≤ max 1 (length text)
found_short limit text None is = rw zero_text (omega arith)
found_short limit text (Some value) is =
    let same : length (fix_text value) ≤ length text = decimal_short text value ((decimal_law limit text value).0 is).0 in
    omega (arith, same)

pub fix_short : (limit : ℕ) (text : List ℕ) → length (fix_text (unwrap_or (thousandths_of limit text) (pos 0))) ≤ max 1 (length text)
fix_short limit text = found_short limit text (thousandths_of limit text) refl

-- a sign is one byte
pub minus_short : (value : ℤ) → length (fix_text (neg_ℤ value)) ≤ length (fix_text value) + 1
minus_short value =
    rw (fix_text_is value, fix_text_is (neg_ℤ value), size_of_minus value) (simp length-append (omega (arith, one_sign (is_negative (neg_ℤ value)))))
