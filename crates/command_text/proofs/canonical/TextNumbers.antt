-- Numbers in the ranges of their places: as they are read, how long they are when they are printed, and that they are read back.
use Rattle.command_text.proofs.Names.{◌≡◌, ℕ, zero, suc, ◌+◌, ◌^◌, ◌<◌, ◌≤◌, max, Bool, true, false, ◌&&◌, List, length, Option, None, Some, ℤ, pos, negsuc, unsigned_abs, IsTrue, refl, sym, ap, subst, ◌∙◌, arith, cond, leb, neg_ℤ, unwrap_or, is_some, option_map, option_and_then, int_le, list_all, is_ascii_digit, decimal, digits_value, leb-true, nat_tests, READ_LIMIT, fix_text, is_number, RADIUS_LIMIT, LAST_TICK, up_to, whole_of, IsUnsigned, CAPACITY_LIMIT, WholePlace, Span, Steps, Capacity, Nearest, whole_in, radius_in, SignedPlace, Value, Rate, Width, negated, signed_in, whole_at, radius_at, signed_at, IsFrom, IsWidth, IsWholeIn, IsSignedIn, []}
use Rattle.std.proofs.lemmas.Int.{ints}
use Rattle.fixed_point.specs.declared.number.TheConstants.{SLOPE_LIMIT}
use Rattle.fixed_point.specs.Decimal.{thousandths_of, unsigned_thousandths}
use Rattle.fixed_point.proofs.DecimalLemmas.{decimal_law}
use Rattle.ftl_parser.proofs.canonical.TextShapes.{radius_within}
use Rattle.ftl_parser.proofs.canonical.TextValues.{from_again, read_again}
use Rattle.ftl_parser.proofs.canonical.TextNumbers.{whole_is, whole_short, fix_short, minus_short}
use Rattle.command_text.specs.declared.ranges.TheConstants.{NEAREST_LIMIT}
use Rattle.exact.proofs.Integers.{size_of_minus}

-- what holds of what is found holds of what is there, where something is
of_found : {X : Type 0} (P : X → Type 0) (found : Option X) (other : X) → ((x : X) → found ≡ Some x → P x) → is_some found ≡ true → P (unwrap_or found other)
of_found P None other holds is = absurd (cc)
of_found P (Some x) other holds is = holds x refl

-- ---- numbers that are read are in range

choice_is : (a c : Bool) (value most n : ℕ) → leb value most ≡ c → cond (a && c) (Some value) None ≡ Some n → n ≤ most
choice_is true true value most n is found = let same : value ≡ n = cc in omega (arith, leb-true value most is, same)
choice_is true false value most n is found = absurd (cc)
choice_is false c value most n is found = absurd (cc)

least_is : (b : Bool) (least value n : ℕ) → leb least value ≡ b → cond b (Some value) None ≡ Some n → (least ≤ n) × (value ≡ n)
least_is true least value n is found = let same : value ≡ n = cc in (omega (arith, leb-true least value is, same), same)
least_is false least value n is found = absurd (cc)

from_is : (least most n : ℕ) (found : Option ℕ) → ((m : ℕ) → found ≡ Some m → m ≤ most)
    → option_and_then (λ m. cond (leb least m) (Some m) None) found ≡ Some n → IsFrom least most n
from_is least most n None within is = absurd (cc)
from_is least most n (Some m) within is =
    let parts = least_is (leb least m) least m n refl is in
    (parts.0, omega (arith, parts.1, within m refl))

whole_from : (least most : ℕ) (text : List ℕ) (n : ℕ) → whole_of least most text ≡ Some n → IsFrom least most n
whole_from least most text n is =
    from_is least most n (up_to most text) (λ m e. choice_is (list_all is_ascii_digit text) (leb (digits_value 10 text) most)
    (digits_value 10 text) most m refl e) is

whole_found : (place : WholePlace) (text : List ℕ) (n : ℕ) → whole_in place text ≡ Some n → IsWholeIn place n
whole_found Span text n is = whole_from 0 LAST_TICK text n is
whole_found Steps text n is = whole_from 1 LAST_TICK text n is
whole_found Capacity text n is = whole_from 1 CAPACITY_LIMIT text n is
whole_found Nearest text n is = whole_from 1 NEAREST_LIMIT text n is

pub whole_in_range : (place : WholePlace) (text : List ℕ) → is_some (whole_in place text) ≡ true → IsWholeIn place (whole_at place text)
whole_in_range place text is = of_found (IsWholeIn place) (whole_in place text) 0 (λ n e. whole_found place text n e) is

signed_within : (limit : ℕ) (minus : Bool) (found : Option ℤ) (v : ℤ) → ((w : ℤ) → found ≡ Some w → unsigned_abs w ≤ limit)
    → negated minus found ≡ Some v → unsigned_abs v ≤ limit
signed_within limit false found v within is = within v is
signed_within limit true None v within is = absurd (cc)
signed_within limit true (Some w) v within is =
    let same : neg_ℤ w ≡ v = cc in
    subst (λ (u : ℤ). unsigned_abs u ≤ limit) same (subst (λ (n : ℕ). n ≤ limit) (sym (size_of_minus w)) (within w refl))

read_within : (limit : ℕ) (text : List ℕ) (minus : Bool) (v : ℤ) → negated minus (thousandths_of limit text) ≡ Some v → unsigned_abs v ≤ limit
read_within limit text minus v is = signed_within limit minus (thousandths_of limit text) v (λ w e. ((decimal_law limit text w).0 e).1) is

width_is : (v : ℤ) → unsigned_abs v ≤ READ_LIMIT → int_le (pos 1) v ≡ true → IsWidth v
width_is (pos n) within least = (grind (arith, ints, nat_tests), within)
width_is (negsuc n) within least = absurd (cc)

width_found : (found : Option ℤ) (v : ℤ) → ((w : ℤ) → found ≡ Some w → unsigned_abs w ≤ READ_LIMIT)
    → option_and_then (λ n. cond (int_le (pos 1) n) (Some n) None) found ≡ Some v → IsWidth v
width_found None v within is = absurd (cc)
width_found (Some w) v within is = chosen (int_le (pos 1) w) refl is
  where
    chosen : (b : Bool) → int_le (pos 1) w ≡ b → cond b (Some w) None ≡ Some v → IsWidth v
    chosen true least found = let same : w ≡ v = cc in subst IsWidth same (width_is w (within w refl) least)
    chosen false least found = absurd (cc)

signed_found : (place : SignedPlace) (minus : Bool) (text : List ℕ) (v : ℤ) → signed_in place minus text ≡ Some v → IsSignedIn place v
signed_found Value minus text v is = read_within READ_LIMIT text minus v is
signed_found Rate minus text v is = read_within SLOPE_LIMIT text minus v is
signed_found Width minus text v is = width_found (negated minus (thousandths_of READ_LIMIT text)) v (λ w e. read_within READ_LIMIT text minus w e) is

pub signed_in_range : (place : SignedPlace) (minus : Bool) (text : List ℕ) → is_some (signed_in place minus text) ≡ true
    → IsSignedIn place (signed_at place minus text)
signed_in_range place minus text is = of_found (IsSignedIn place) (signed_in place minus text) (pos 0) (λ v e. signed_found place minus text v e) is

pub radius_in_range : (text : List ℕ) → IsTrue (is_number text) → is_some (radius_in text) ≡ true → IsUnsigned RADIUS_LIMIT (radius_at text)
radius_in_range text number is = radius_within text number

-- ---- numbers are printed with no more bytes than they were written, or with one byte

from_one : (found : Option ℕ) → unwrap_or (option_and_then (λ n. cond (leb 1 n) (Some n) None) found) 0 ≡ unwrap_or found 0
from_one None = refl
from_one (Some zero) = refl
from_one (Some (suc n)) = grind (arith, nat_tests)

from_one_short : (most : ℕ) (text : List ℕ) → most < 2 ^ 64 → length (decimal (unwrap_or (whole_of 1 most text) 0)) ≤ max 1 (length text)
from_one_short most text small =
    subst (λ (n : ℕ). length (decimal n) ≤ max 1 (length text))
    (ap (λ (found : Option ℕ). unwrap_or found 0) (whole_is most text) ∙ sym (from_one (up_to most text)))
    (whole_short most text small)

pub whole_is_short : (place : WholePlace) (text : List ℕ) → length (decimal (whole_at place text)) ≤ max 1 (length text)
whole_is_short Span text = whole_short LAST_TICK text (omega arith)
whole_is_short Steps text = from_one_short LAST_TICK text (omega arith)
whole_is_short Capacity text = from_one_short CAPACITY_LIMIT text (omega arith)
whole_is_short Nearest text = from_one_short NEAREST_LIMIT text (omega arith)

pub radius_is_short : (text : List ℕ) → length (fix_text (radius_at text)) ≤ max 1 (length text)
radius_is_short text = fix_short RADIUS_LIMIT text

pub zero_is_short : length (fix_text (pos 0)) ≤ 1
unfolding thousandths_of unsigned_thousandths
zero_is_short = fix_short READ_LIMIT []

-- the bytes of a sign
abbrev pub sign_size : Bool → ℕ
sign_size true = 1
sign_size false = 0

signed_short : (minus : Bool) (found : Option ℤ) (most : ℕ) → 1 ≤ most → length (fix_text (unwrap_or found (pos 0))) ≤ most
    → length (fix_text (unwrap_or (negated minus found) (pos 0))) ≤ most + sign_size minus
signed_short false found most some short = omega (arith, short)
signed_short true None most some short = omega (arith, short)
signed_short true (Some v) most some short = omega (arith, short, minus_short v)

width_short : (found : Option ℤ) (most : ℕ) → 1 ≤ most → length (fix_text (unwrap_or found (pos 0))) ≤ most
    → length (fix_text (unwrap_or (option_and_then (λ n. cond (int_le (pos 1) n) (Some n) None) found) (pos 0))) ≤ most
width_short None most some short = short
width_short (Some v) most some short = chosen (int_le (pos 1) v)
  where
    chosen : (b : Bool) → length (fix_text (unwrap_or (cond b (Some v) None) (pos 0))) ≤ most
    chosen true = short
    chosen false = omega (arith, zero_is_short, some)

pub signed_is_short : (place : SignedPlace) (minus : Bool) (text : List ℕ) → length (fix_text (signed_at place minus text))
    ≤ max 1 (length text) + sign_size minus
signed_is_short Value minus text = signed_short minus (thousandths_of READ_LIMIT text) (max 1 (length text)) (omega arith) (fix_short READ_LIMIT text)
signed_is_short Rate minus text = signed_short minus (thousandths_of SLOPE_LIMIT text) (max 1 (length text)) (omega arith) (fix_short SLOPE_LIMIT text)
signed_is_short Width minus text =
    width_short (negated minus (thousandths_of READ_LIMIT text)) (max 1 (length text) + sign_size minus) (omega arith)
    (signed_short minus (thousandths_of READ_LIMIT text) (max 1 (length text)) (omega arith) (fix_short READ_LIMIT text))

-- ---- printed numbers are read back

pub whole_again : (place : WholePlace) (n : ℕ) → IsWholeIn place n → whole_in place (decimal n) ≡ Some n
whole_again Span n within = from_again 0 LAST_TICK n within.0 within.1 (omega arith)
whole_again Steps n within = from_again 1 LAST_TICK n within.0 within.1 (omega arith)
whole_again Capacity n within = from_again 1 CAPACITY_LIMIT n within.0 within.1 (omega arith)
whole_again Nearest n within = from_again 1 NEAREST_LIMIT n within.0 within.1 (omega arith)

pub whole_small : (place : WholePlace) (n : ℕ) → IsWholeIn place n → n < 2 ^ 64
whole_small Span n within = omega (arith, within.1)
whole_small Steps n within = omega (arith, within.1)
whole_small Capacity n within = omega (arith, within.1)
whole_small Nearest n within = omega (arith, within.1)

pub radius_again : (n : ℕ) → n ≤ RADIUS_LIMIT → radius_in (fix_text (pos n)) ≡ Some (pos n)
radius_again n within = read_again RADIUS_LIMIT n within (omega arith)

width_again : (n : ℕ) (found : Option ℤ) → found ≡ Some (pos n) → 1 ≤ n → option_and_then (λ v. cond (int_le (pos 1) v) (Some v) None) found ≡ Some (pos n)
width_again n found is least =
    let low : int_le (pos 1) (pos n) ≡ true = grind (arith, ints, nat_tests) in
    rw (is, low) refl

pub plain_again : (place : SignedPlace) (n : ℕ) → IsSignedIn place (pos n) → signed_in place false (fix_text (pos n)) ≡ Some (pos n)
plain_again Value n within = read_again READ_LIMIT n within (omega arith)
plain_again Rate n within = read_again SLOPE_LIMIT n within (omega arith)
plain_again Width n within = width_again n (thousandths_of READ_LIMIT (fix_text (pos n))) (read_again READ_LIMIT n within.1 (omega arith)) within.0

pub minus_again : (place : SignedPlace) (n : ℕ) → IsSignedIn place (negsuc n) → signed_in place true (fix_text (pos (suc n))) ≡ Some (negsuc n)
minus_again Value n within = ap (option_map neg_ℤ) (read_again READ_LIMIT (suc n) within (omega arith))
minus_again Rate n within = ap (option_map neg_ℤ) (read_again SLOPE_LIMIT (suc n) within (omega arith))
minus_again Width n within = absurd within

pub plain_small : (place : SignedPlace) (n : ℕ) → IsSignedIn place (pos n) → n ≤ READ_LIMIT
plain_small Value n within = within
plain_small Rate n within = omega (arith, within)
plain_small Width n within = within.1

pub minus_small : (place : SignedPlace) (n : ℕ) → IsSignedIn place (negsuc n) → suc n ≤ READ_LIMIT
minus_small Value n within = within
minus_small Rate n within = omega (arith, within)
minus_small Width n within = absurd within
