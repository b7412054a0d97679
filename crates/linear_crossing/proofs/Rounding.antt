-- A quotient that is rounded up is the first number at which a product reaches a bound.
use Rattle.std.proofs.Common.{◌≡◌, ℕ, suc, ◌+◌, ◌*◌, ◌<◌, ◌≤◌, ⊎_elim, ℤ, pos, ◌+ℤ◌, ◌<ℤ◌, nat_le, int_le, unsigned_abs, subst, sym, arith}
use Rattle.std.specs.Int.{div_ceil}
use Rattle.std.proofs.Math.Nat.{mul-le-mul_left}
use Rattle.std.proofs.lemmas.Bool.{cases_lt}
use Rattle.std.proofs.lemmas.Bool.Decides.{nat_tests}
use Rattle.std.proofs.lemmas.Grind.{div_ceil_times}
use Rattle.std.proofs.lemmas.Int.{ints}

reached : (s r f k : ℕ) → s ≤ f * r → f * r < s + r → nat_le f k ≡ nat_le s (r * k)
reached s r f k below above =
    ⊎_elim
    (λ (l : k < f). let far : r * suc k ≤ r * f = mul-le-mul_left r l in grind (arith, nat_tests))
    (λ (l : f ≤ k). let near : r * f ≤ r * k = mul-le-mul_left r l in grind (arith, nat_tests))
    (cases_lt k f)

-- the function begins at a negative start, -s, and rises by r from number to number
pub rounded_up : (r s f k : ℕ) (start : ℤ) → 0 < r → start <ℤ pos 0 → s ≡ unsigned_abs start → f ≡ div_ceil s r
    → int_le (pos 0) (pos (r * k) +ℤ start) ≡ nat_le f k
rounded_up r s f k start p n d e =
    let P : ℕ → Type 0 = λ g. (s ≤ g * r) × (g * r < s + r) in
    let b = subst P (sym e) (div_ceil_times s r p) in
    let at : nat_le f k ≡ nat_le s (r * k) = reached s r f k b.0 b.1 in
    grind (arith, ints, nat_tests)
