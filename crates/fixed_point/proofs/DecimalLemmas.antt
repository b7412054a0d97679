-- For this crate and for the crates above: what is read is a number by its parts, and each such number is read.
use Rattle.std.proofs.Common.{◌≡◌, ℕ, zero, suc, ◌+◌, ◌*◌, ◌≤◌, Bool, true, false, cond, eqb, leb, ◌&&◌, List, [], ◌∷◌, ◌++◌, length, take, drop, get_or, Option, Some, None, ℤ, unsigned_abs, refl, ap, subst, sym, ◌∙◌, arith, append_assoc, append-nil, take-append-drop}
use Rattle.std.proofs.lemmas.Option.{cond_some, same_Some, none-some}
use Rattle.std.proofs.lemmas.List.{nil_from_length}
use Rattle.std.proofs.lemmas.Bool.Decides.{nat_tests}
use Rattle.std.proofs.Math.Seq.{take-append_seam, drop-append_seam}
use Rattle.std.specs.Char.{is_ascii_digit}
use Rattle.std.specs.Fmt.{sign_text}
use Rattle.std.specs.List.{prefix_len}
use Rattle.std.specs.Str.Parse.{AllDigits, digits_value}
use Rattle.exact.specs.Options.{◌>>=◌}
use Rattle.exact.proofs.Naturals.{is_digit_by_value}
use Rattle.exact.proofs.Truths.{both_true}
use Rattle.exact.proofs.Items.{bind_some}
use Rattle.fixed_point.specs.Decimal.{digits_at, decimals_value, decimals_of, unsigned_thousandths, with_sign, thousandths_of, AreDigits, decimals_text, IsDecimal}
use Rattle.fixed_point.specs.Laws.{ReadsEachDecimal}
use Rattle.fixed_point.proofs.DigitLemmas.{digits_in_front}

-- ---- What is read is a number.

-- where a guarded step has an answer, the guard holds
guarded : {A : Type 0} (b : Bool) (o : Option A) (y : A) → cond b o None ≡ Some y → (b ≡ true) × (o ≡ Some y)
guarded true o y is = (refl, is)
guarded false o y is = absurd (none-some y is)

-- what is split off is digits, and nothing is lost
record Splits (most : ℕ) (text : List ℕ) (parts : List ℕ × List ℕ) : Type 0 where
  digits : AreDigits 1 most parts.0
  joined : text ≡ parts.0 ++ parts.1

split_is : (most : ℕ) (text : List ℕ) (parts : List ℕ × List ℕ) → digits_at most text ≡ Some parts → Splits most text parts
split_is most text parts is =
    let count : ℕ = prefix_len is_ascii_digit text in
    let found : ((leb 1 count && leb count most) ≡ true) × (◌≡◌ {A = List ℕ × List ℕ} (take count text, drop count text) parts) = cond_some (leb 1 count && leb count most) (take count text, drop count text) parts is in
    let enough : 1 ≤ count = grind (arith, nat_tests, both_true (leb 1 count) (leb count most) found.0) in
    let few : count ≤ most = grind (arith, nat_tests, both_true (leb 1 count) (leb count most) found.0) in
    let P : List ℕ × List ℕ → Type 0 = Splits most text in
    subst P found.1 (record { digits = digits_in_front text most enough few; joined = sym (take-append-drop count text) })

record AreDecimals (text : List ℕ) (value : ℕ) : Type 0 where
  decimals : List ℕ
  digits : AreDigits 0 3 decimals
  spelled : text ≡ decimals_text decimals
  valued : value ≡ decimals_value decimals

-- a point before digits
point_before : (digits : List ℕ) → 1 ≤ length digits → decimals_text digits ≡ 46 ∷ digits
point_before [] some = absurd (omega arith)
point_before (digit ∷ digits) some = refl

decimals_are : (text : List ℕ) (value : ℕ) → decimals_of text ≡ Some value → AreDecimals text value
unfolding decimals_of
decimals_are [] value is = record { decimals = []; digits = record { digits = tt; enough = omega arith; few = omega arith }; spelled = refl; valued = sym (same_Some 0 value is) }
decimals_are (byte ∷ rest) value is =
    let split = bind_some (cond (eqb byte 46) (digits_at 3 rest) None) (λ (decimals : List ℕ × List ℕ). cond (eqb (length decimals.1) 0) (Some (decimals_value decimals.0)) None) value is in
    let parts : List ℕ × List ℕ = split.0 in
    let point : (eqb byte 46 ≡ true) × (digits_at 3 rest ≡ Some parts) = guarded (eqb byte 46) (digits_at 3 rest) parts split.1 in
    let splits : Splits 3 rest parts = split_is 3 rest parts point.1 in
    let ends : (eqb (length parts.1) 0 ≡ true) × (decimals_value parts.0 ≡ value) = cond_some (eqb (length parts.1) 0) (decimals_value parts.0) value split.2 in
    let nothing : parts.1 ≡ [] = nil_from_length parts.1 (grind (arith, nat_tests, ends.0)) in
    let is_point : byte ≡ 46 = grind (arith, nat_tests, point.0) in
    record {
      decimals = parts.0;
      digits = record { digits = splits.digits.digits; enough = omega arith; few = splits.digits.few };
      spelled = ap (λ b. b ∷ rest) is_point ∙ ap (λ bytes. 46 ∷ bytes) (splits.joined ∙ ap (λ bytes. parts.0 ++ bytes) nothing ∙ append-nil parts.0) ∙ sym (point_before parts.0 splits.digits.enough);
      valued = sym ends.1;
    }

record IsUnsigned (text : List ℕ) (size : ℕ) : Type 0 where
  whole : List ℕ
  decimals : List ℕ
  whole_digits : AreDigits 1 10 whole
  decimal_digits : AreDigits 0 3 decimals
  spelled : text ≡ whole ++ decimals_text decimals
  valued : size ≡ 1000 * digits_value 10 whole + decimals_value decimals

unsigned_is : (text : List ℕ) (size : ℕ) → unsigned_thousandths text ≡ Some size → IsUnsigned text size
unfolding unsigned_thousandths
unsigned_is text size is =
    let first = bind_some (digits_at 10 text) (λ (whole : List ℕ × List ℕ). decimals_of whole.1 >>= λ (decimals : ℕ). Some (1000 * digits_value 10 whole.0 + decimals)) size is in
    let parts : List ℕ × List ℕ = first.0 in
    let splits : Splits 10 text parts = split_is 10 text parts first.1 in
    let second = bind_some (decimals_of parts.1) (λ (decimals : ℕ). Some (1000 * digits_value 10 parts.0 + decimals)) size first.2 in
    let are : AreDecimals parts.1 second.0 = decimals_are parts.1 second.0 second.1 in
    record {
      whole = parts.0;
      decimals = are.decimals;
      whole_digits = splits.digits;
      decimal_digits = are.digits;
      spelled = splits.joined ∙ ap (λ bytes. parts.0 ++ bytes) are.spelled;
      valued = sym (same_Some (1000 * digits_value 10 parts.0 + second.0) size second.2) ∙ ap (λ decimals. 1000 * digits_value 10 parts.0 + decimals) are.valued;
    }

-- the text after the sign
behind_sign : (negative : Bool) (text : List ℕ) → eqb (get_or text 0 0) 45 ≡ negative → text ≡ sign_text negative ++ cond negative (drop 1 text) text
behind_sign false text is = refl
behind_sign true [] is = absurd (grind (arith, nat_tests))
behind_sign true (byte ∷ text) is = let e : byte ≡ 45 = grind (arith, nat_tests) in ap (λ b. b ∷ text) e

pub size_with_sign : (negative : Bool) (size : ℕ) → unsigned_abs (with_sign negative size) ≡ size
size_with_sign false size = refl
size_with_sign true zero = refl
size_with_sign true (suc size) = refl

decimal_is : (limit : ℕ) (text : List ℕ) (value : ℤ) → thousandths_of limit text ≡ Some value → IsDecimal text value × (unsigned_abs value ≤ limit)
unfolding thousandths_of
decimal_is limit text value is =
    let negative : Bool = eqb (get_or text 0 0) 45 in
    let sized = bind_some (unsigned_thousandths (cond negative (drop 1 text) text)) (λ (size : ℕ). cond (leb size limit) (Some (with_sign negative size)) None) value is in
    let size : ℕ = sized.0 in
    let signed : (leb size limit ≡ true) × (with_sign negative size ≡ value) = cond_some (leb size limit) (with_sign negative size) value sized.2 in
    let unsigned : IsUnsigned (cond negative (drop 1 text) text) size = unsigned_is (cond negative (drop 1 text) text) size sized.1 in
    let abs : unsigned_abs value ≡ size = ap unsigned_abs (sym signed.1) ∙ size_with_sign negative size in
    let small : size ≤ limit = grind (arith, nat_tests, signed.0) in (
      record {
        negative = negative;
        whole = unsigned.whole;
        decimals = unsigned.decimals;
        whole_digits = unsigned.whole_digits;
        decimal_digits = unsigned.decimal_digits;
        spelled = behind_sign negative text refl ∙ ap (λ bytes. sign_text negative ++ bytes) unsigned.spelled ∙ sym (append_assoc (sign_text negative) unsigned.whole (decimals_text unsigned.decimals));
        valued = sym signed.1 ∙ ap (with_sign negative) unsigned.valued;
      },
      omega (arith, abs, small),
    )

-- ---- Each number is read.

-- no digit in front
record IsNoDigit (text : List ℕ) : Type 0 where
  none : prefix_len is_ascii_digit text ≡ 0

count_of_digits : (digits rest : List ℕ) → AllDigits 10 digits → IsNoDigit rest → prefix_len is_ascii_digit (digits ++ rest) ≡ length digits
count_of_digits [] rest are ends = ends.none
count_of_digits (digit ∷ digits) rest are ends =
    ap (λ b. cond b (1 + prefix_len is_ascii_digit (digits ++ rest)) 0) (is_digit_by_value digit are.0)
    ∙ ap (λ n. 1 + n) (count_of_digits digits rest are.1 ends) ∙ omega arith

-- digits are split off, whatever follows that is no digit
split_again : (most : ℕ) (digits rest : List ℕ) → AreDigits 1 most digits → IsNoDigit rest → digits_at most (digits ++ rest) ≡ Some (digits, rest)
split_again most digits rest are ends =
    let enough : leb 1 (length digits) ≡ true = grind (arith, nat_tests, are.enough) in
    let few : leb (length digits) most ≡ true = grind (arith, nat_tests, are.few) in
    rw (count_of_digits digits rest are.digits ends, take-append_seam digits rest, drop-append_seam digits rest, enough, few) refl

no_digit_in_point : (decimals : List ℕ) → IsNoDigit (decimals_text decimals)
no_digit_in_point [] = record { none = refl }
no_digit_in_point (digit ∷ decimals) = record { none = refl }

decimals_again : (decimals : List ℕ) → AreDigits 0 3 decimals → decimals_of (decimals_text decimals) ≡ Some (decimals_value decimals)
unfolding decimals_of
decimals_again [] are = refl
decimals_again (digit ∷ decimals) are =
    let all : AreDigits 1 3 (digit ∷ decimals) = record { digits = are.digits; enough = omega arith; few = are.few } in
    let split : digits_at 3 (digit ∷ decimals) ≡ Some (digit ∷ decimals, []) = ap (digits_at 3) (sym (append-nil (digit ∷ decimals))) ∙ split_again 3 (digit ∷ decimals) [] all (record { none = refl }) in
    ap (λ (parts : Option (List ℕ × List ℕ)). parts >>= λ (p : List ℕ × List ℕ). cond (eqb (length p.1) 0) (Some (decimals_value p.0)) None) split

unsigned_again : (whole decimals : List ℕ) → AreDigits 1 10 whole → AreDigits 0 3 decimals → unsigned_thousandths (whole ++ decimals_text decimals) ≡ Some (1000 * digits_value 10 whole + decimals_value decimals)
unfolding unsigned_thousandths
unsigned_again whole decimals are behind =
    ap (λ (parts : Option (List ℕ × List ℕ)). parts >>= λ (p : List ℕ × List ℕ). decimals_of p.1 >>= λ (n : ℕ). Some (1000 * digits_value 10 p.0 + n)) (split_again 10 whole (decimals_text decimals) are (no_digit_in_point decimals))
    ∙ ap (λ (n : Option ℕ). n >>= λ (m : ℕ). Some (1000 * digits_value 10 whole + m)) (decimals_again decimals behind)

-- a sign is found, and only a sign
sign_found : (negative : Bool) (whole rest : List ℕ) → AreDigits 1 10 whole → eqb (get_or (sign_text negative ++ (whole ++ rest)) 0 0) 45 ≡ negative
sign_found true whole rest are = refl
sign_found false [] rest are = absurd (omega (arith, are.enough))
sign_found false (digit ∷ digits) rest are = grind (arith, nat_tests, are.digits.0)

without_sign : (negative : Bool) (text : List ℕ) → cond negative (drop 1 (sign_text negative ++ text)) (sign_text negative ++ text) ≡ text
without_sign true text = refl
without_sign false text = refl

-- the parts are read as their value
parts_again : (limit : ℕ) (negative : Bool) (whole decimals : List ℕ) → AreDigits 1 10 whole → AreDigits 0 3 decimals → 1000 * digits_value 10 whole + decimals_value decimals ≤ limit → thousandths_of limit (sign_text negative ++ (whole ++ decimals_text decimals)) ≡ Some (with_sign negative (1000 * digits_value 10 whole + decimals_value decimals))
unfolding thousandths_of
parts_again limit negative whole decimals are behind within =
    let unsigned : List ℕ = whole ++ decimals_text decimals in
    let text : List ℕ = sign_text negative ++ unsigned in
    let size : ℕ = 1000 * digits_value 10 whole + decimals_value decimals in
    let sign : eqb (get_or text 0 0) 45 ≡ negative = sign_found negative whole (decimals_text decimals) are in
    let sized : unsigned_thousandths (cond (eqb (get_or text 0 0) 45) (drop 1 text) text) ≡ Some size =
    ap (λ b. unsigned_thousandths (cond b (drop 1 text) text)) sign ∙ ap unsigned_thousandths (without_sign negative unsigned) ∙ unsigned_again whole decimals are behind in
    let small : leb size limit ≡ true = grind (arith, nat_tests, within) in
    ap (λ (o : Option ℕ). o >>= λ (n : ℕ). cond (leb n limit) (Some (with_sign (eqb (get_or text 0 0) 45) n)) None) sized
    ∙ ap (λ b. cond b (Some (with_sign (eqb (get_or text 0 0) 45) size)) None) small
    ∙ ap (λ b. Some (with_sign b size)) sign

read_again : (limit : ℕ) (text : List ℕ) (value : ℤ) → IsDecimal text value → unsigned_abs value ≤ limit → thousandths_of limit text ≡ Some value
read_again limit text value is within =
    let size : ℕ = 1000 * digits_value 10 is.whole + decimals_value is.decimals in
    let abs : unsigned_abs value ≡ size = ap unsigned_abs is.valued ∙ size_with_sign is.negative size in
    ap (thousandths_of limit) (is.spelled ∙ append_assoc (sign_text is.negative) is.whole (decimals_text is.decimals))
    ∙ parts_again limit is.negative is.whole is.decimals is.whole_digits is.decimal_digits (omega (arith, abs, within))
    ∙ ap Some (sym is.valued)

pub decimal_law : ReadsEachDecimal
decimal_law limit text value = (decimal_is limit text value, λ both. read_again limit text value both.0 both.1)
