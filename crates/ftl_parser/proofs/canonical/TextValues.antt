-- For this crate and for the crates above: canonical numbers are number tokens, and stand for their values.
use Rattle.ftl_parser.proofs.Names.{◌≡◌, ℕ, suc, ◌+◌, ◌-◌, ◌/◌, ◌%◌, ◌^◌, ◌<◌, ◌≤◌, Bool, true, false, not, ◌&&◌, List, [], ◌∷◌, ◌++◌, drop, length, append-nil, length-append, Option, Some, ℤ, pos, negsuc, IsTrue, refl, sym, ap, subst, ◌∙◌, arith, cond, leb, eqb, unwrap_or, is_some, list_all, suffix_len, is_ascii_digit, is_negative, decimal, sign_text, AllDigits, nat_tests, decimal_is_IsNumeral, READ_LIMIT, thousandths_of, IsDecimal, decimals_text, fix_text, three_digits, without_last_zeros, digits_len, fraction_len, number_len, is_number, RADIUS_LIMIT, LAST_TICK, TIMES_LIMIT, whole_of, literal, radius_of, ticks, times, is_number_fit, Literal, Radius, Times}
use Rattle.std.proofs.Math.Seq.{drop-append_seam}
use Rattle.fixed_point.proofs.DecimalLemmas.{decimal_law}
use Rattle.fixed_point.proofs.CanonicalLemmas.{printed_law}
use Rattle.fixed_point.proofs.DigitLemmas.{digits_taken}
use Rattle.ftl_parser.specs.Number.{Ticks}
use Rattle.ftl_parser.proofs.canonical.TextNumbers.{fix_text_is}
use Rattle.exact.proofs.Naturals.{digit_value_below, is_digit_by_value}

-- ---- digits are counted

digits_counted : (digits rest : List ℕ) → AllDigits 10 digits → digits_len rest ≡ 0 → digits_len (digits ++ rest) ≡ length digits
digits_counted [] rest are none = none
digits_counted (digit ∷ digits) rest are none =
    ap (λ b. cond b (1 + digits_len (digits ++ rest)) 0) (is_digit_by_value digit are.0)
    ∙ ap (λ n. 1 + n) (digits_counted digits rest are.1 none) ∙ omega arith

digits_alone : (digits : List ℕ) → AllDigits 10 digits → digits_len digits ≡ length digits
digits_alone digits are = ap digits_len (sym (append-nil digits)) ∙ digits_counted digits [] are refl

some_counted : (n : ℕ) → cond (eqb (suc n) 0) 0 (1 + suc n) ≡ suc (suc n)
some_counted n = grind (arith, nat_tests)

point_counted : (decimals : List ℕ) → AllDigits 10 decimals → fraction_len (decimals_text decimals) ≡ length (decimals_text decimals)
point_counted [] are = refl
point_counted (digit ∷ decimals) are = rw (digits_alone (digit ∷ decimals) are) (some_counted (length decimals))

no_digit_first : (decimals : List ℕ) → digits_len (decimals_text decimals) ≡ 0
no_digit_first [] = refl
no_digit_first (digit ∷ decimals) = refl

both_hold : (front all size : ℕ) → 0 < front → all ≡ size → (not (eqb front 0) && eqb all size) ≡ true
both_hold front all size some same = grind (arith, nat_tests)

parts_are_number : (whole decimals : List ℕ) → AllDigits 10 whole → 0 < length whole → AllDigits 10 decimals → IsTrue (is_number (whole ++ decimals_text decimals))
parts_are_number whole decimals are some behind =
    let front : digits_len (whole ++ decimals_text decimals) ≡ length whole = digits_counted whole (decimals_text decimals) are (no_digit_first decimals) in
    let back : fraction_len (drop (length whole) (whole ++ decimals_text decimals)) ≡ length (decimals_text decimals) =
    ap fraction_len (drop-append_seam whole (decimals_text decimals)) ∙ point_counted decimals behind in
    let all : number_len (whole ++ decimals_text decimals) ≡ length (whole ++ decimals_text decimals) =
    ap (λ (n : ℕ). n + fraction_len (drop n (whole ++ decimals_text decimals))) front ∙ ap (λ (n : ℕ). length whole + n) back
    ∙ sym (length-append whole (decimals_text decimals)) in
    both_hold (digits_len (whole ++ decimals_text decimals)) (number_len (whole ++ decimals_text decimals))
    (length (whole ++ decimals_text decimals)) (omega (arith, front, some)) all

pub decimal_is_number : (n : ℕ) → n < 2 ^ 64 → IsTrue (is_number (decimal n))
decimal_is_number n small =
    let number = decimal_is_IsNumeral n small in
    subst (λ (text : List ℕ). IsTrue (is_number text)) (append-nil (decimal n)) (parts_are_number (decimal n) [] number.0.1 number.0.0 tt)

-- ---- a number without a sign

not_negative : (n : ℕ) → is_negative (pos n) ≡ false
not_negative n = grind (arith, nat_tests)

three_are_digits : (n : ℕ) → n < 1000 → AllDigits 10 (three_digits n)
three_are_digits n below = (digit_value_below (n / 100) (omega arith), (digit_value_below (n / 10 % 10) (omega arith), (digit_value_below (n % 10) (omega arith), tt)))

plain_text : (n : ℕ) → fix_text (pos n) ≡ decimal (n / 1000) ++ decimals_text (without_last_zeros (three_digits (n % 1000)))
plain_text n = fix_text_is (pos n) ∙ ap (λ (b : Bool). sign_text b ++ decimal (n / 1000) ++ decimals_text
    (without_last_zeros (three_digits (n % 1000)))) (not_negative n)

pub minus_text : (n : ℕ) → fix_text (negsuc n) ≡ 45 ∷ fix_text (pos (suc n))
minus_text n = fix_text_is (negsuc n) ∙ ap (λ (text : List ℕ). 45 ∷ text) (sym (plain_text (suc n)))

pub fix_is_number : (n : ℕ) → n ≤ READ_LIMIT → IsTrue (is_number (fix_text (pos n)))
fix_is_number n within =
    let number = decimal_is_IsNumeral (n / 1000) (omega arith) in
    let three : List ℕ = three_digits (n % 1000) in
    let behind : AllDigits 10 (without_last_zeros three) = digits_taken (length three - suffix_len (λ digit. eqb digit 48) three) three
    (three_are_digits (n % 1000) (omega arith)) in
    subst (λ (text : List ℕ). IsTrue (is_number text)) (sym (plain_text n))
    (parts_are_number (decimal (n / 1000)) (without_last_zeros three) number.0.1 number.0.0 behind)

pub read_again : (limit n : ℕ) → n ≤ limit → limit ≤ READ_LIMIT → thousandths_of limit (fix_text (pos n)) ≡ Some (pos n)
read_again limit n within small =
    let number : IsDecimal (fix_text (pos n)) (pos n) =
    ((decimal_law READ_LIMIT (fix_text (pos n)) (pos n)).0 (printed_law (pos n) (omega (arith, within, small)))).0 in
    (decimal_law limit (fix_text (pos n)) (pos n)).1 (number, within)

pub literal_again : (n : ℕ) → n ≤ READ_LIMIT → literal (fix_text (pos n)) ≡ pos n
literal_again n within = ap (λ (found : Option ℤ). unwrap_or found (pos 0)) (read_again READ_LIMIT n within (omega arith))

pub literal_fits : (n : ℕ) → n ≤ READ_LIMIT → is_number_fit Literal (fix_text (pos n)) ≡ true
literal_fits n within = ap (λ (found : Option ℤ). is_some found) (read_again READ_LIMIT n within (omega arith))

pub radius_again : (n : ℕ) → n ≤ RADIUS_LIMIT → radius_of (fix_text (pos n)) ≡ pos n
radius_again n within = ap (λ (found : Option ℤ). unwrap_or found (pos 0)) (read_again RADIUS_LIMIT n within (omega arith))

pub radius_fits : (n : ℕ) → n ≤ RADIUS_LIMIT → is_number_fit Radius (fix_text (pos n)) ≡ true
radius_fits n within = ap (λ (found : Option ℤ). is_some found) (read_again RADIUS_LIMIT n within (omega arith))

-- ---- whole numbers

all_pass : (text : List ℕ) → AllDigits 10 text → list_all is_ascii_digit text ≡ true
all_pass [] are = refl
all_pass (byte ∷ text) are = rw (is_digit_by_value byte are.0) (all_pass text are.1)

pub from_again : (least most n : ℕ) → least ≤ n → n ≤ most → most < 2 ^ 64 → whole_of least most (decimal n) ≡ Some n
from_again least most n above within small =
    let number = decimal_is_IsNumeral n (omega (arith, within, small)) in
    let high : leb n most ≡ true = grind (arith, nat_tests, within) in
    let low : leb least n ≡ true = grind (arith, nat_tests, above) in
    rw (all_pass (decimal n) number.0.1, number.1, high, low) refl

pub ticks_again : (n : ℕ) → n ≤ LAST_TICK → ticks (decimal n) ≡ n
ticks_again n within = ap (λ (found : Option ℕ). unwrap_or found 0) (from_again 0 LAST_TICK n (omega arith) within (omega arith))

pub ticks_fit : (n : ℕ) → n ≤ LAST_TICK → is_number_fit Ticks (decimal n) ≡ true
ticks_fit n within = ap (λ (found : Option ℕ). is_some found) (from_again 0 LAST_TICK n (omega arith) within (omega arith))

pub times_again : (n : ℕ) → n ≤ TIMES_LIMIT → times (decimal n) ≡ n
times_again n within = ap (λ (found : Option ℕ). unwrap_or found 0) (from_again 0 TIMES_LIMIT n (omega arith) within (omega arith))

pub times_fit : (n : ℕ) → n ≤ TIMES_LIMIT → is_number_fit Times (decimal n) ≡ true
times_fit n within = ap (λ (found : Option ℕ). is_some found) (from_again 0 TIMES_LIMIT n (omega arith) within (omega arith))
