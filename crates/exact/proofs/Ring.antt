-- For this crate and for the crates above: equations and orders between polynomials over ℤ, as the parabola of a
-- moving point.
-- A signed number is read as a difference of two naturals, and so is each sum and product of such. An equation of
-- polynomials over ℤ is then one over ℕ, where `omega` multiplies out. `same (..) (..) (omega arith)` proves it, with
-- both sides written out by `part`, `number`, `sum`, `difference`, `product` and `opposite`.
use Rattle.std.proofs.Common.{◌≡◌, ℕ, ◌+◌, ◌*◌, ◌≤◌, ℤ, pos, ◌+ℤ◌, ◌-ℤ◌, ◌*ℤ◌, neg_ℤ, ◌≤ℤ◌, ap, arith}
use Rattle.std.proofs.lemmas.Int.{ints}
use borrow.Author.Differences.{up, down, product_is}

-- z is `more - less`
pub record Parts (z : ℤ) : Type 0 where
  pub more : ℕ
  pub less : ℕ
  pub is : up z + less ≡ down z + more

abbrev pub part : (z : ℤ) → Parts z
part z = record { more = up z; less = down z; is = omega arith }

abbrev pub number : (n : ℕ) → Parts (pos n)
number n = record { more = n; less = 0; is = omega arith }

pub is-sum : (a b : ℤ) (u v d e : ℕ) → up a + d ≡ down a + u → up b + e ≡ down b + v → up (a +ℤ b) + (d + e) ≡ down (a +ℤ b) + (u + v)
is-sum a b u v d e h k = omega (arith, ints)

pub is-difference : (a b : ℤ) (u v d e : ℕ) → up a + d ≡ down a + u → up b + e ≡ down b + v → up (a -ℤ b) + (d + v) ≡ down (a -ℤ b) + (u + e)
is-difference a b u v d e h k = omega (arith, ints)

pub is-opposite : (a : ℤ) (u d : ℕ) → up a + d ≡ down a + u → up (neg_ℤ a) + u ≡ down (neg_ℤ a) + d
is-opposite a u d h = omega (arith, ints)

-- (p - q) (v - e) is (u - d) (v - e), for p - q ≡ u - d
turned : (p q u d v e : ℕ) → p + d ≡ q + u → p * v + q * e + (u * e + d * v) ≡ p * e + q * v + (u * v + d * e)
turned p q u d v e h = omega (arith, ap (λ n. n * v) h, ap (λ n. n * e) h)

pub is-product : (a b : ℤ) (u v d e : ℕ) → up a + d ≡ down a + u → up b + e ≡ down b + v → up (a *ℤ b) + (u * e + d * v) ≡ down (a *ℤ b) + (u * v + d * e)
is-product a b u v d e h k = omega (arith, product_is a b, turned (up a) (down a) u d (up b) (down b) h, turned (up b) (down b) v e u d k)

abbrev pub sum : {a b : ℤ} → Parts a → Parts b → Parts (a +ℤ b)
sum {a} {b} p q = record { more = p.more + q.more; less = p.less + q.less; is = is-sum a b p.more q.more p.less q.less p.is q.is }

abbrev pub difference : {a b : ℤ} → Parts a → Parts b → Parts (a -ℤ b)
difference {a} {b} p q = record { more = p.more + q.less; less = p.less + q.more; is = is-difference a b p.more q.more p.less q.less p.is q.is }

abbrev pub opposite : {a : ℤ} → Parts a → Parts (neg_ℤ a)
opposite {a} p = record { more = p.less; less = p.more; is = is-opposite a p.more p.less p.is }

abbrev pub product : {a b : ℤ} → Parts a → Parts b → Parts (a *ℤ b)
product {a} {b} p q = record { more = p.more * q.more + p.less * q.less; less = p.more * q.less + p.less * q.more; is = is-product a b p.more q.more p.less q.less p.is q.is }

pub same : {a b : ℤ} (p : Parts a) (q : Parts b) → p.more + q.less ≡ q.more + p.less → a ≡ b
same {a} {b} p q h = let k = p.is in let l = q.is in omega (arith, ints)

pub at_most : {a b : ℤ} (p : Parts a) (q : Parts b) → p.more + q.less ≤ q.more + p.less → a ≤ℤ b
at_most {a} {b} p q h = let k = p.is in let l = q.is in omega (arith, ints)
