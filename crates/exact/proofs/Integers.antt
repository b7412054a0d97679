-- For this crate and for the crates above: tests of integers, and signs, sums and products of them.
use Rattle.std.proofs.Common.{arith, false, inl, inr, int_le, neg_ℤ, negsuc, pos, refl, suc, true, unsigned_abs, zero, ℕ, ℤ, ◌*ℤ◌, ◌+ℤ◌, ◌+◌, ◌-ℤ◌, ◌<ℤ◌, ◌≡◌, ◌≤ℤ◌, ◌≤◌, ◌⊎◌}
use Rattle.std.proofs.lemmas.Int.{ints}
use Rattle.std.proofs.lemmas.Bool.{cases_Bool}
use Rattle.std.proofs.lemmas.Bool.Decides.{nat_tests}
use Rattle.std.specs.Prelude.{int_lt}
use Rattle.exact.proofs.Ring.{difference, number, opposite, part, product, same, sum}

pub opposite_rise : (d : ℤ) (k : ℕ) → neg_ℤ d *ℤ pos k ≡ neg_ℤ (d *ℤ pos k)
opposite_rise d k = same (product (opposite (part d)) (number k)) (opposite (product (part d) (number k))) (omega arith)

pub within_size : (x : ℤ) (w : ℕ) → unsigned_abs x ≤ w → (neg_ℤ (pos w) ≤ℤ x) × (x ≤ℤ pos w)
within_size (pos n) w h = (omega (arith, ints), omega (arith, ints))
within_size (negsuc n) w h = (omega (arith, ints), omega (arith, ints))

pub not_negative : (c : ℤ) → int_le (pos 0) c ≡ true → pos 0 ≤ℤ c
not_negative c e = grind (arith, ints)

pub opposite_most : (a : ℤ) → pos 0 ≤ℤ neg_ℤ a → a ≤ℤ pos 0
opposite_most a p = omega (arith, ints)

pub size_of_minus : (value : ℤ) → unsigned_abs (neg_ℤ value) ≡ unsigned_abs value
size_of_minus (pos zero) = refl
size_of_minus (pos (suc n)) = refl
size_of_minus (negsuc n) = refl

pub opposite_least : (a : ℤ) → a <ℤ pos 0 → pos 0 ≤ℤ neg_ℤ a
opposite_least a n = omega (arith, ints)

pub line_later : (x d : ℤ) (k m : ℕ) → x +ℤ d *ℤ pos (k + m) ≡ (x +ℤ d *ℤ pos k) +ℤ d *ℤ pos m
line_later x d k m =
    same (sum (part x) (product (part d) (number (k + m)))) (sum (sum (part x) (product (part d) (number k))) (product (part d) (number m))) (omega arith)

pub int_le_or_lt : (a b : ℤ) → (a ≤ℤ b) ⊎ (b <ℤ a)
int_le_or_lt a b =
    elim (cases_Bool (int_le a b)) [
      | inl e ↦ inl (grind (arith, ints, nat_tests))
      | inr e ↦ inr (grind (arith, ints, nat_tests))
    ]

pub above_from_int_test : (a b : ℤ) → int_le a b ≡ false → b <ℤ a
above_from_int_test a b h = grind (arith, ints)

pub at_most_from_int_test : (a b : ℤ) → int_le a b ≡ true → a ≤ℤ b
at_most_from_int_test a b h = grind (arith, ints)

pub below_from_int_test : (a b : ℤ) → int_lt a b ≡ true → a <ℤ b
below_from_int_test a b e = grind (arith, ints)

pub less_by : (a b : ℤ) → pos 0 <ℤ (b -ℤ a) → a <ℤ b
less_by a b l = omega (arith, ints)

pub product_least : (a b : ℤ) → pos 0 ≤ℤ a → pos 0 ≤ℤ b → pos 0 ≤ℤ (a *ℤ b)
product_least (pos m) (pos n) p q = omega (arith, ints)
product_least (pos m) (negsuc n) p q = absurd (omega (arith, ints))
product_least (negsuc m) b p q = absurd (omega (arith, ints))

pub product_one_less : (a b : ℤ) → a *ℤ b ≡ (a -ℤ pos 1) *ℤ (b -ℤ pos 1) +ℤ (a -ℤ pos 1) +ℤ (b -ℤ pos 1) +ℤ pos 1
product_one_less a b =
    let u = difference (part a) (number 1) in let v = difference (part b) (number 1) in
    same (product (part a) (part b)) (sum (sum (sum (product u v) u) v) (number 1)) (omega arith)

pub below_passes_at_most : (s v : ℤ) → s <ℤ v → int_le s v ≡ true
below_passes_at_most s v l = grind (arith, ints)

pub above_fails_at_most : (s v : ℤ) → s <ℤ v → int_le v s ≡ false
above_fails_at_most s v l = grind (arith, ints)

pub below_passes_less : (s v : ℤ) → s <ℤ v → int_lt s v ≡ true
below_passes_less s v l = grind (arith, ints)

pub above_fails_less : (s v : ℤ) → s <ℤ v → int_lt v s ≡ false
above_fails_less s v l = grind (arith, ints)

pub at_most_passes : (a b : ℤ) → a ≤ℤ b → int_le a b ≡ true
at_most_passes a b h = grind (arith, ints)

pub opposite_above : (c v : ℤ) → v <ℤ neg_ℤ c → c <ℤ neg_ℤ v
opposite_above c v l = omega (arith, ints)

pub above_fails_test : (x y : ℤ) → y <ℤ x → int_le x y ≡ false
above_fails_test x y l = grind (arith, ints)

pub sum_above_by_first : (s u v : ℤ) → s <ℤ u → pos 0 ≤ℤ v → s <ℤ (u +ℤ v)
sum_above_by_first s u v l p = omega (arith, ints)

pub sum_above_by_second : (s u v : ℤ) → s <ℤ v → pos 0 ≤ℤ u → s <ℤ (u +ℤ v)
sum_above_by_second s u v l p = omega (arith, ints)

pub times_one : (w : ℤ) → w *ℤ pos 1 ≡ w
times_one w = omega (arith, ints)
