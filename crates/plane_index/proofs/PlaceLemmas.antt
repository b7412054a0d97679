-- Counts of places.
use Rattle.std.proofs.Common.{◌≡◌, ℕ, zero, suc, ◌+◌, ◌-◌, ◌≤◌, Bool, cond, [], sym, ap, ◌∙◌, arith}
use Rattle.std.specs.Prelude.{count_by}
use Rattle.std.specs.List.{range_with_len}
use Rattle.std.proofs.lemmas.List.Sums.{sum_by-cons}
use Rattle.tick_set.specs.Ticks.{between}

abbrev one_where : Bool → ℕ
one_where b = cond b 1 0

swapped : (x : ℕ) → x + 0 ≡ 0 + x
swapped x = omega arith

regrouped : (x y z : ℕ) → x + (y + z) ≡ x + y + z
regrouped x y z = omega arith

counted : (p : ℕ → Bool) (n a : ℕ) → count_by p (range_with_len a (suc n)) ≡ count_by p (range_with_len a n) + one_where (p (a + n))
counted p zero a =
    let e : a ≡ a + 0 = omega arith in
    sum_by-cons (λ k. one_where (p k)) a [] ∙ (λ i. one_where (p (e i)) + 0) ∙ swapped (one_where (p (a + 0)))
counted p (suc n) a =
    let e : a + 1 + n ≡ a + suc n = omega arith in
    let rest = range_with_len (a + 1) n in
    sum_by-cons (λ k. one_where (p k)) a (range_with_len (a + 1) (suc n))
    ∙ ap (λ m. one_where (p a) + m) (counted p n (a + 1))
    ∙ regrouped (one_where (p a)) (count_by p rest) (one_where (p (a + 1 + n)))
    ∙ (λ i. sym (sum_by-cons (λ k. one_where (p k)) a rest) i + one_where (p (e i)))

pub count_more : (p : ℕ → Bool) (n : ℕ) → count_by p (between 0 (n + 1)) ≡ count_by p (between 0 n) + one_where (p n)
unfolding between
count_more p n =
    let more : n + 1 - 0 ≡ suc n = omega arith in
    let none : n ≡ n - 0 = omega arith in
    let at : 0 + n ≡ n = omega arith in
    ap (λ m. count_by p (range_with_len 0 m)) more
    ∙ counted p n 0
    ∙ (λ i. count_by p (range_with_len 0 (none i)) + one_where (p (at i)))

count_up : (p : ℕ → Bool) (n more : ℕ) → count_by p (between 0 n) ≤ count_by p (between 0 (n + more))
count_up p n zero =
    let none : n + 0 ≡ n = omega arith in
    let same = ap (λ m. count_by p (between 0 m)) none in
    omega (arith, same)
count_up p n (suc more) =
    let next : n + suc more ≡ n + more + 1 = omega arith in
    let same = ap (λ m. count_by p (between 0 m)) next ∙ count_more p (n + more) in
    let before = count_up p n more in
    omega (arith, same, before)

-- no fewer among more
pub count_grows : (p : ℕ → Bool) (n m : ℕ) → n ≤ m → count_by p (between 0 n) ≤ count_by p (between 0 m)
count_grows p n m order =
    let split : n + (m - n) ≡ m = omega (arith, order) in
    let same = ap (λ e. count_by p (between 0 e)) split in
    let up = count_up p n (m - n) in
    omega (arith, same, up)
