-- What the size of a number that moves along a line is at least between two ticks.
use Rattle.std.proofs.Common.{◌≡◌, ℕ, ◌+◌, ◌-◌, ◌*◌, ◌≤◌, ℤ, pos, ◌+ℤ◌, ◌*ℤ◌, ◌≤ℤ◌, inl, inr, subst, sym, arith}
use Rattle.std.proofs.lemmas.Int.{ints, by_lt_z}
use Rattle.std.proofs.lemmas.Nat.{mul-le}
use Rattle.exact.proofs.Integers.{line_later}
use Rattle.blur.specs.Widened.{IsBetween, widened}
use Rattle.distance_crossing.proofs.FarLemmas.{fall_most, rise_least}

-- ---- a number that begins at x and changes by d at each tick lies between its ends

rises : (x u : ℤ) → pos 0 ≤ℤ u → x ≤ℤ (x +ℤ u)
rises x u p = omega (arith, ints, p)

falls : (x u : ℤ) → u ≤ℤ pos 0 → (x +ℤ u) ≤ℤ x
falls x u n = omega (arith, ints, n)

between_ends : (x d : ℤ) (k m : ℕ) → IsBetween x (x +ℤ d *ℤ pos (k + m)) (x +ℤ d *ℤ pos k)
between_ends x d k m =
    let at = x +ℤ d *ℤ pos k in
    by_lt_z d (pos 0)
    (λ n. inr (subst (λ (z : ℤ). z ≤ℤ at) (sym (line_later x d k m)) (falls at (d *ℤ pos m) (fall_most d m n)), falls x (d *ℤ pos k) (fall_most d k n)))
    (λ p. inl (rises x (d *ℤ pos k) (rise_least d k p), subst (λ (z : ℤ). at ≤ℤ z) (sym (line_later x d k m)) (rises at (d *ℤ pos m) (rise_least d m p))))

pub is_between : (x d : ℤ) (k last : ℕ) → k ≤ last → IsBetween x (x +ℤ d *ℤ pos last) (x +ℤ d *ℤ pos k)
is_between x d k last up_to =
    let whole : k + (last - k) ≡ last = omega arith in
    subst (λ (n : ℕ). IsBetween x (x +ℤ d *ℤ pos n) (x +ℤ d *ℤ pos k)) whole (between_ends x d k (last - k))

-- the same of its ends as they are passed on
pub passed_between : (x d : ℤ) (k last : ℕ) (first end : ℤ) → first ≡ x → end ≡ x +ℤ d *ℤ pos last → k ≤ last → IsBetween first end (x +ℤ d *ℤ pos k)
passed_between x d k last first end e h up_to =
    subst (λ (a : ℤ). IsBetween a end (x +ℤ d *ℤ pos k)) (sym e)
    (subst (λ (b : ℤ). IsBetween x b (x +ℤ d *ℤ pos k)) (sym h) (is_between x d k last up_to))

-- ---- sizes

pub least_passed : (n more less : ℕ) (x d first step : ℤ) (k : ℕ) → first ≡ x → step ≡ d → n ≤ widened more less (first +ℤ step *ℤ pos k)
    → n ≤ widened more less (x +ℤ d *ℤ pos k)
least_passed n more less x d first step k e h least =
    subst (λ (a : ℤ). n ≤ widened more less (a +ℤ d *ℤ pos k)) e
    (subst (λ (b : ℤ). n ≤ widened more less (first +ℤ b *ℤ pos k)) h least)

pub squares_least : (x y u v : ℕ) (s : ℤ) → s ≡ pos x *ℤ pos x +ℤ pos y *ℤ pos y → x ≤ u → y ≤ v → s ≤ℤ pos (u * u + v * v)
squares_least x y u v s is least_x least_y =
    let of_x = mul-le x x u u least_x least_x in
    let of_y = mul-le y y v v least_y least_y in
    omega (arith, ints, is, of_x, of_y)
