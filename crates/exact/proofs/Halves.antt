-- For this crate and for the crates above: a bisection in steps that are counted: what is left halves with each,
-- so n steps are enough for fewer than `2 ^ n`.
use Rattle.std.proofs.Common.{◌≡◌, ℕ, suc, zero, ◌+◌, ◌-◌, ◌*◌, ◌^◌, ◌≤◌, ◌<◌, refl, subst, sym, arith}
use Rattle.std.proofs.Math.Nat.{pow-suc}

halved : (n i m d e : ℕ) → n - i ≡ m → d < 2 ^ m → 0 < d → 2 * e ≤ d → (i + 1 ≤ n) × (e < 2 ^ (n - (i + 1)))
halved n i zero d e p h l q = absurd (omega arith)
halved n i (suc m) d e p h l q =
    let same : n - (i + 1) ≡ m = omega arith in
    (omega arith, subst (λ k. e < 2 ^ k) (sym same) (omega (arith, pow-suc 2 m)))

-- after i steps d are left, and a further step leaves e
pub halves : (n i d e : ℕ) → d < 2 ^ (n - i) → 0 < d → 2 * e ≤ d → (i + 1 ≤ n) × (e < 2 ^ (n - (i + 1)))
halves n i d e h l q = halved n i (n - i) d e refl h l q
