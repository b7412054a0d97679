-- The square of a distance is convex: where it is as large between two ticks as at both, the motions keep their distance.
use Rattle.std.proofs.Common.{◌≡◌, ℕ, suc, zero, ◌+◌, ◌-◌, ◌*◌, ◌<◌, ◌≤◌, ℤ, pos, negsuc, unsigned_abs, ◌+ℤ◌, ◌*ℤ◌, ◌≤ℤ◌, refl, ap, sym, ◌∙◌, arith}
use Rattle.std.proofs.lemmas.Int.{ints}
use Rattle.std.proofs.lemmas.Nat.{mul-le}
use Rattle.exact.proofs.Ring.{part, number, sum, product, same}
use Rattle.exact.proofs.Integers.{line_later}
use Rattle.geometry.proofs.Squares.{square_is}
use Rattle.geometry.specs.Plane.{square}
use Rattle.linear_crossing.specs.Relative.{Relative, squared_distance_at}

-- one coordinate that is u at first and moves by d, at three ticks
chord_of_coordinate : (u d : ℤ) (a b : ℕ)
    → pos b *ℤ square u +ℤ pos a *ℤ square (u +ℤ d *ℤ pos (a + b)) ≡ pos (a + b) *ℤ square (u +ℤ d *ℤ pos a) +ℤ pos (a * b * (a + b)) *ℤ square d
chord_of_coordinate u d a b =
    let middle = sum (part u) (product (part d) (number a)) in
    let last = sum (part u) (product (part d) (number (a + b))) in
    same
    (sum (product (number b) (product (part u) (part u))) (product (number a) (product last last)))
    (sum (product (number (a + b)) (product middle middle)) (product (number (a * b * (a + b))) (product (part d) (part d)))) (omega arith)

-- the square of the coordinate k ticks after the first, and that of the motion's way at each tick, as natural numbers
abbrev pub square_at : ℤ → ℤ → ℕ → ℕ
square_at x d k = unsigned_abs (square (x +ℤ d *ℤ pos k))

square_later : (x d : ℤ) (i a : ℕ) → square ((x +ℤ d *ℤ pos i) +ℤ d *ℤ pos a) ≡ pos (square_at x d (i + a))
square_later x d i a = ap square (sym (line_later x d i a)) ∙ sym (square_is (x +ℤ d *ℤ pos (i + a)))

chord : (x d : ℤ) (i a b : ℕ)
    → b * square_at x d i + a * square_at x d (i + (a + b)) ≡ (a + b) * square_at x d (i + a) + a * b * (a + b) * unsigned_abs (square d)
chord x d i a b =
    let u = x +ℤ d *ℤ pos i in
    let left : pos b *ℤ square u +ℤ pos a *ℤ square (u +ℤ d *ℤ pos (a + b)) ≡ pos (b * square_at x d i + a * square_at x d (i + (a + b)))
    = λ k. pos b *ℤ sym (square_is u) k +ℤ pos a *ℤ square_later x d i (a + b) k in
    let right : pos (a + b) *ℤ square (u +ℤ d *ℤ pos a) +ℤ pos (a * b * (a + b)) *ℤ square d
    ≡ pos ((a + b) * square_at x d (i + a) + a * b * (a + b) * unsigned_abs (square d))
    = λ k. pos (a + b) *ℤ square_later x d i a k +ℤ pos (a * b * (a + b)) *ℤ sym (square_is d) k in
    ap unsigned_abs (sym left ∙ chord_of_coordinate u d a b ∙ right)

-- ---- both coordinates
abbrev pub value_at : Relative → ℕ → ℕ
value_at m k = square_at m.x m.dx k + square_at m.y m.dy k

abbrev pub speed : Relative → ℕ
speed m = unsigned_abs (square m.dx) + unsigned_abs (square m.dy)

value_is : (m : Relative) (k : ℕ) → pos (value_at m k) ≡ squared_distance_at m k
value_is m k = λ i. square_is (m.x +ℤ m.dx *ℤ pos k) i +ℤ square_is (m.y +ℤ m.dy *ℤ pos k) i

added : (a b c n p q r v p' q' r' v' : ℕ) → b * p + a * r ≡ c * q + n * v → b * p' + a * r' ≡ c * q' + n * v' → b * (p + p') + a * (r + r') ≡ c * (q + q') + n * (v + v')
added a b c n p q r v p' q' r' v' e f = omega (arith, e, f)

chord_of_values : (m : Relative) (i a b : ℕ)
    → b * value_at m i + a * value_at m (i + (a + b)) ≡ (a + b) * value_at m (i + a) + a * b * (a + b) * speed m
chord_of_values m i a b =
    added a b (a + b) (a * b * (a + b)) (square_at m.x m.dx i) (square_at m.x m.dx (i + a)) (square_at m.x m.dx (i + (a + b))) (unsigned_abs (square m.dx))
    (square_at m.y m.dy i) (square_at m.y m.dy (i + a)) (square_at m.y m.dy (i + (a + b))) (unsigned_abs (square m.dy))
    (chord m.x m.dx i a b) (chord m.y m.dy i a b)

-- ---- no speed
at_least_itself : (n v : ℕ) → 0 < n → v ≤ n * v
at_least_itself n v l = let h = mul-le 1 v n v l (omega arith) in omega (arith, h)

product_above : (a b : ℕ) → 0 < a → 0 < b → 0 < a * b * (a + b)
product_above a b l k =
    let h = mul-le 1 1 a b l k in
    let g = mul-le 1 1 (a * b) (a + b) (omega (arith, h)) (omega arith) in
    omega (arith, g)

no_speed : (a b n p q r v : ℕ) → 0 < n → b * p + a * r ≡ (a + b) * q + n * v → p ≤ q → r ≤ q → v ≡ 0
no_speed a b n p q r v l e g h =
    let first = mul-le b p b q (omega arith) g in
    let last = mul-le a r a q (omega arith) h in
    let own = at_least_itself n v l in
    omega (arith, e, first, last, own)

no_way : (d : ℤ) → unsigned_abs (square d) ≡ 0 → d ≡ pos 0
no_way (pos zero) e = refl
no_way (pos (suc n)) e = absurd (omega (arith, e))
no_way (negsuc n) e = absurd (omega (arith, e))

still : (x d : ℤ) (k t : ℕ) → d ≡ pos 0 → square_at x d k ≡ square_at x d t
still x d k t e =
    let nothing : (u : ℕ) → 0 * u ≡ 0 = λ u. omega arith in
    let place : (u : ℕ) → d *ℤ pos u ≡ pos 0 = λ u. ap (λ z. z *ℤ pos u) e ∙ ap pos (nothing u) in
    ap (λ z. unsigned_abs (square (x +ℤ z))) (place k ∙ sym (place t))

keeps : (m : Relative) (k t : ℕ) → speed m ≡ 0 → value_at m t ≡ value_at m k
keeps m k t e =
    λ i. still m.x m.dx t k (no_way m.dx (omega (arith, e))) i + still m.y m.dy t k (no_way m.dy (omega (arith, e))) i

-- where the value between two ticks is at least those at both, it is the same at all ticks
keeps_by_parts : (m : Relative) (i a b t : ℕ) → 0 < a → 0 < b → value_at m i ≤ value_at m (i + a) → value_at m (i + (a + b)) ≤ value_at m (i + a)
    → value_at m t ≡ value_at m (i + a)
keeps_by_parts m i a b t l k g h =
    keeps m (i + a) t
    (no_speed a b (a * b * (a + b)) (value_at m i) (value_at m (i + a)) (value_at m (i + (a + b))) (speed m) (product_above a b l k) (chord_of_values m i a b) g h)

natural : (m : Relative) (j k : ℕ) (s : ℤ) → squared_distance_at m j ≤ℤ s → s ≤ℤ squared_distance_at m k → value_at m j ≤ value_at m k
natural m j k s g h =
    let low = value_is m j in
    let high = value_is m k in
    omega (arith, ints)

pub keeps_distance : (m : Relative) (s : ℤ) (first k end t : ℕ) → first < k → k < end → squared_distance_at m first ≤ℤ s → squared_distance_at m end ≤ℤ s
    → s ≤ℤ squared_distance_at m k → squared_distance_at m t ≡ squared_distance_at m k
keeps_distance m s first k end t l n g h e =
    let a = k - first in
    let b = end - k in
    let at : first + a ≡ k = omega arith in
    let past : first + (a + b) ≡ end = omega arith in
    let low = ap (value_at m) at in
    let high = ap (value_at m) past in
    let same_values = keeps_by_parts m first a b t (omega arith) (omega arith) (omega (arith, natural m first k s g e, low)) (omega (arith, natural m end k s h e, low, high)) in
    sym (value_is m t) ∙ ap pos (same_values ∙ low) ∙ value_is m k
