-- For this crate and for the crates above: tests of natural numbers, and sums and products of them.
use Rattle.std.proofs.Common.{Bool, ap, arith, eqb, false, inl, inr, nat_lt, refl, subst, suc, sym, true, zero, ℕ, ⊎_elim, ◌*◌, ◌+◌, ◌-◌, ◌<◌, ◌||◌, ◌∙◌, ◌≡◌, ◌≤◌, ◌⊎◌}
use Rattle.std.specs.Prelude.{nat_le, ◌==◌}
use Rattle.std.proofs.lemmas.Bool.Decides.{nat_tests}
use Rattle.std.specs.Char.{digit_value, is_ascii_digit}
use Rattle.std.specs.Int.{div_ceil}
use Rattle.std.proofs.Math.Nat.{mul-le-mul_left}
use Rattle.std.proofs.lemmas.Bool.{cases_lt}
use Rattle.std.proofs.lemmas.Grind.{div_ceil_times}

pub below_next : (b : Bool) (k place : ℕ) → ((b || nat_lt k place) || (k == place)) ≡ (b || nat_lt k (place + 1))
below_next b k place = grind (arith, nat_tests)

pub equals_itself : (v : ℕ) → (v == v) ≡ true
equals_itself v = grind (arith, nat_tests)

pub is_digit_by_value : (byte : ℕ) → digit_value byte < 10 → is_ascii_digit byte ≡ true
is_digit_by_value byte below = grind (arith, nat_tests)

pub digit_value_below : (digit : ℕ) → digit < 10 → digit_value (48 + digit) < 10
digit_value_below digit below = grind (arith, nat_tests)

pub at_most_itself : (n : ℕ) → n ≤ n
at_most_itself n = omega arith

pub same_from_equal : (u w : ℕ) → (u == w) ≡ true → u ≡ w
same_from_equal u w h = grind (arith, nat_tests, h)

pub above_from_test : (a b : ℕ) → nat_le a b ≡ false → b < a
above_from_test a b h = grind (arith, nat_tests, h)

pub at_most_from_test : (t e : ℕ) → nat_le t e ≡ true → t ≤ e
at_most_from_test t e h = grind (arith, nat_tests, h)

pub at_most_from_not_below : (a b : ℕ) → nat_lt a b ≡ false → b ≤ a
at_most_from_not_below a b h = grind (arith, nat_tests, h)

pub below_from_test : (s n : ℕ) → nat_lt s n ≡ true → s < n
below_from_test s n h = grind (arith, nat_tests)

pub differs_below : (m n : ℕ) → m < n → (m == n) ≡ false
differs_below m n h = grind (arith, nat_tests)

pub equal_if_same : (m n : ℕ) → m ≡ n → (m == n) ≡ true
equal_if_same m n h = grind (arith, nat_tests)

pub test_at_most : (m n : ℕ) → m ≤ n → nat_le m n ≡ true
test_at_most m n h = grind (arith, nat_tests)

pub factor_above : (r s n : ℕ) → 0 < s → s ≤ r * n → 0 < r
factor_above zero s n p most = omega (arith, p, most)
factor_above (suc r) s n p most = omega arith

pub times_at_most : (m n c : ℕ) → m ≤ n → m * c ≤ n * c
times_at_most m n c h = grind (arith, h)

pub at_most_in_turn : (old mid new : ℕ) → old ≤ mid → mid ≤ new → old ≤ new
at_most_in_turn old mid new h l = omega (arith, h, l)

pub rounded_few : (r s f n : ℕ) → 0 < r → s ≤ r * n → f ≡ div_ceil s r → f ≤ n
rounded_few r s f n p most e =
    let P : ℕ → Type 0 = λ g. (s ≤ g * r) × (g * r < s + r) in
    let b = subst P (sym e) (div_ceil_times s r p) in
    ⊎_elim
    (λ (l : n < f). let far : r * suc n ≤ r * f = mul-le-mul_left r l in grind (arith, b, far, most))
    (λ (l : f ≤ n). l)
    (cases_lt n f)

pub sum_within : (a b m n : ℕ) → a ≤ m → b ≤ n → a + b ≤ m + n
sum_within a b m n first second = omega (arith, first, second)

pub differs_before : (m n : ℕ) → (suc m == suc n) ≡ false → (m == n) ≡ false
differs_before m n other = grind (arith, nat_tests)

pub same_or_other : (n m : ℕ) → (n ≡ m) ⊎ (n ≡ m → ⊥)
same_or_other zero zero = inl refl
same_or_other zero (suc m) = inr (λ h. omega arith)
same_or_other (suc n) zero = inr (λ h. omega arith)
same_or_other (suc n) (suc m) = elim (same_or_other n m) [ inl h ↦ inl (omega arith) | inr h ↦ inr (λ e. h (omega arith)) ]

pub eqb-suc : (a b : ℕ) → eqb (suc a) (suc b) ≡ eqb a b
eqb-suc a b = grind (arith, nat_tests)

pub test_below : (u w : ℕ) → u < w → nat_lt u w ≡ true
test_below u w h = grind (arith, nat_tests, h)

pub above_fails_nat_test : (n m : ℕ) → m < n → nat_le n m ≡ false
above_fails_nat_test n m h = grind (arith, nat_tests)

pub steps_within : (start now i n c : ℕ) → now ≤ start + i * c → i ≤ n → now ≤ start + n * c
steps_within start now i n c most less =
    let whole : n ≡ i + (n - i) = omega arith in
    let more : n * c ≡ i * c + (n - i) * c = ap (λ z. z * c) whole ∙ grind arith in
    omega (arith, most, more)

pub not_itself : {A : Type 0} (n : ℕ) → (n == n) ≡ false → A
not_itself n other = absurd (grind (arith, nat_tests))
