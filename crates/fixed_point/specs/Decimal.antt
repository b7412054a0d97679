-- Numbers as they are written, with up to three decimals, and the thousandths that they stand for. The byte 45 is `-`, and 46 is the point.
use Rattle.std.specs.Prelude.{◌≡◌, ℕ, ◌+◌, ◌-◌, ◌*◌, ◌^◌, ◌≤◌, Bool, ◌&&◌, ◌==◌, nat_le, if◌then◌else◌, List, [], ◌∷◌, ◌++◌, length, take, drop, slice_index, Option, Some, None, ℤ, pos, neg_ℤ}
use Rattle.std.specs.Char.{is_ascii_digit}
use Rattle.std.specs.List.{prefix_len}
use Rattle.std.specs.Str.Parse.{AllDigits, digits_value}
use Rattle.std.specs.Fmt.{sign_text}
use Rattle.exact.specs.Options.{◌>>=◌}
use Rattle.fixed_point.specs.declared.reading.TheConstants.{WHOLE_DIGITS_LIMIT, DECIMALS_LIMIT}

-- the digits at the front and what follows them, if there are from one to `most` digits
abbrev pub digits_at : ℕ → List ℕ → Option (List ℕ × List ℕ)
digits_at most text =
    let count = prefix_len is_ascii_digit text in
    if nat_le 1 count && nat_le count most then Some (take count text, drop count text) else None

-- the thousandths that up to three digits after a point stand for: `5` is 500, and `05` is 50
abbrev pub decimals_value : List ℕ → ℕ
decimals_value digits = digits_value 10 digits * 10 ^ (DECIMALS_LIMIT - length digits)

-- the thousandths that stand after the whole part: nothing, or a point and from one to three digits
unfoldable pub decimals_of : List ℕ → Option ℕ
decimals_of [] = Some 0
decimals_of (byte ∷ rest) = do
  decimals ← if byte == 46 then digits_at DECIMALS_LIMIT rest else None
  if length decimals.1 == 0 then Some (decimals_value decimals.0) else None

-- the thousandths of a number without a sign
unfoldable pub unsigned_thousandths : List ℕ → Option ℕ
unsigned_thousandths text = do
  whole ← digits_at WHOLE_DIGITS_LIMIT text
  decimals ← decimals_of whole.1
  Some (1000 * digits_value 10 whole.0 + decimals)

-- a size with its sign
abbrev pub with_sign : Bool → ℕ → ℤ
with_sign negative size = if negative then neg_ℤ (pos size) else pos size

-- the thousandths of a number, if they are within `limit` of 0
unfoldable pub thousandths_of : ℕ → List ℕ → Option ℤ
thousandths_of limit text =
    let negative = slice_index text 0 == 45 in
    do
      size ← unsigned_thousandths (if negative then drop 1 text else text)
      if nat_le size limit then Some (with_sign negative size) else None

-- from `least` to `most` digits
pub record AreDigits (least most : ℕ) (text : List ℕ) : Type 0 where
  pub digits : AllDigits 10 text
  pub enough : least ≤ length text
  pub few : length text ≤ most

-- a point and the decimals, or nothing where there are none
abbrev pub decimals_text : List ℕ → List ℕ
decimals_text [] = []
decimals_text (digit ∷ digits) = 46 ∷ digit ∷ digits

-- The text is a number: a sign or none, from one to ten digits, and a point with from one to three decimals, or none.
pub record IsDecimal (text : List ℕ) (value : ℤ) : Type 0 where
  pub negative : Bool
  pub whole : List ℕ
  pub decimals : List ℕ
  pub whole_digits : AreDigits 1 WHOLE_DIGITS_LIMIT whole
  pub decimal_digits : AreDigits 0 DECIMALS_LIMIT decimals
  pub spelled : text ≡ sign_text negative ++ whole ++ decimals_text decimals
  pub valued : value ≡ with_sign negative (1000 * digits_value 10 whole + decimals_value decimals)
