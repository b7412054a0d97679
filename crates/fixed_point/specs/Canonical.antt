-- The canonical text of a number of thousandths.
use Rattle.std.specs.Prelude.{ℕ, ◌+◌, ◌-◌, ◌/◌, ◌%◌, ◌==◌, List, [], ◌∷◌, ◌++◌, length, take, ℤ, unsigned_abs}
use Rattle.std.specs.Int.{is_negative}
use Rattle.std.specs.List.{suffix_len}
use Rattle.std.specs.Fmt.{decimal, sign_text}
use Rattle.fixed_point.specs.Decimal.{decimals_text}

-- a number below 1000 in three digits; 48 is `0`
abbrev pub three_digits : ℕ → List ℕ
three_digits n = (48 + n / 100) ∷ (48 + n / 10 % 10) ∷ (48 + n % 10) ∷ []

abbrev pub without_last_zeros : List ℕ → List ℕ
without_last_zeros digits = take (length digits - suffix_len (λ digit. digit == 48) digits) digits

-- a `-` or none, the whole part, and a point and the decimals where they are not all zeros
unfoldable pub fix_text : ℤ → List ℕ
fix_text thousandths =
    let size = unsigned_abs thousandths in
    sign_text (is_negative thousandths) ++ decimal (size / 1000) ++ decimals_text (without_last_zeros (three_digits (size % 1000)))
