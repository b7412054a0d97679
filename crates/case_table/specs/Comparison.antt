-- What the six comparisons mean.
use Rattle.std.specs.Prelude.{ℕ, ℤ, Bool, true, false, not, int_lt, int_le}
use Rattle.std.specs.Ordering.{int_eq}
use Rattle.case_table.specs.declared.compare.Op.{Op}
use Rattle.case_table.specs.declared.compare.Op.TheVariants.{Lt, Le, Eq, Ne, Ge, Gt}
use Rattle.case_table.specs.SignRows.{by_sign}

-- x op y
abbrev pub compares : Op → ℤ → ℤ → Bool
compares Lt x y = int_lt x y
compares Le x y = int_le x y
compares Eq x y = int_eq x y
compares Ne x y = not (int_eq x y)
compares Ge x y = int_le y x
compares Gt x y = int_lt y x

-- the comparisons of which none holds where the left is greater
abbrev pub is_at_most : Op → Bool
is_at_most Lt = true
is_at_most Le = true
is_at_most Eq = true
is_at_most Ne = false
is_at_most Ge = false
is_at_most Gt = false

-- the comparison, by the sign of left minus right
abbrev pub sign_holds : Op → ℤ → Bool
sign_holds Lt = by_sign true false false
sign_holds Le = by_sign true true false
sign_holds Eq = by_sign false true false
sign_holds Ne = by_sign true false true
sign_holds Ge = by_sign false true true
sign_holds Gt = by_sign false false true

-- the place of a comparison in the order in which they are declared
abbrev pub op_code : Op → ℕ
op_code Lt = 0
op_code Le = 1
op_code Eq = 2
op_code Ne = 3
op_code Ge = 4
op_code Gt = 5
