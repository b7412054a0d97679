-- Triangles in whole numbers: the cross product of two sides is at most the product of their lengths, and no side is longer than the diameter of the circle through the corners.
use Rattle.std.proofs.Common.{◌≡◌, ℕ, ◌+◌, ◌*◌, ◌<◌, ◌≤◌, ⊎_elim, Bool, true, false, ℤ, pos, ◌+ℤ◌, ◌-ℤ◌, ◌*ℤ◌, ◌≤ℤ◌, ◌<ℤ◌, int_le, unsigned_abs, if◌then◌else◌, refl, ap, sym, ◌∙◌, subst, arith}
use Rattle.std.proofs.Math.Nat.{mul-le-mul_left, mul-lt-mul_of_pos_left}
use Rattle.std.proofs.lemmas.Bool.{cases_lt}
use Rattle.std.proofs.lemmas.Int.{ints, clamps, unsigned_abs-mul}
use borrow.Author.Differences.{up, down}
use Rattle.exact.proofs.Ring.{part, sum, difference, product, same}
use Rattle.exact.proofs.Integers.{above_fails_test, at_most_passes, product_least}
use Rattle.fixed_point.specs.declared.number.Point.{Point}
use Rattle.geometry.proofs.Squares.{square_is}
use Rattle.geometry.specs.Circle.{two_fit, three_fit, sides_fit, largest, is_wide, squared_width}
use Rattle.geometry.specs.Plane.{square, squared_distance, cross}

-- the square of the cross product and that of the dot product make up the product of the squares
lagrange : (x y u v : ℤ) → square (x *ℤ v -ℤ y *ℤ u) +ℤ square (x *ℤ u +ℤ y *ℤ v) ≡ (square x +ℤ square y) *ℤ (square u +ℤ square v)
lagrange x y u v =
    let c = difference (product (part x) (part v)) (product (part y) (part u)) in
    let d = sum (product (part x) (part u)) (product (part y) (part v)) in
    same (sum (product c c) (product d d))
    (product (sum (product (part x) (part x)) (product (part y) (part y))) (sum (product (part u) (part u)) (product (part v) (part v)))) (omega arith)

not_negative : (p : ℤ) → pos (unsigned_abs p) ≡ p → pos 0 ≤ℤ p
not_negative p e = omega (arith, ints)

sum_not_negative : (p q : ℤ) → pos (unsigned_abs p) ≡ p → pos (unsigned_abs q) ≡ q → pos 0 ≤ℤ (p +ℤ q)
sum_not_negative p q e f = omega (arith, ints)

pub squares_not_negative : (p q : Point) → pos 0 ≤ℤ squared_distance p q
squares_not_negative p q = sum_not_negative (square (q.x -ℤ p.x)) (square (q.y -ℤ p.y)) (square_is (q.x -ℤ p.x)) (square_is (q.y -ℤ p.y))

part_of_sum : (p q r : ℤ) → pos (unsigned_abs p) ≡ p → pos (unsigned_abs q) ≡ q → p +ℤ q ≡ r → unsigned_abs p ≤ unsigned_abs r
part_of_sum p q r e f g = omega (arith, ints)

-- n is the cross product of two vectors, and a and b are the squares of their lengths
cross_size : (n x y u v : ℤ) → n ≡ x *ℤ v -ℤ y *ℤ u
    → unsigned_abs n * unsigned_abs n ≤ unsigned_abs (square x +ℤ square y) * unsigned_abs (square u +ℤ square v)
cross_size n x y u v e =
    let whole = part_of_sum (square (x *ℤ v -ℤ y *ℤ u)) (square (x *ℤ u +ℤ y *ℤ v)) ((square x +ℤ square y) *ℤ (square u +ℤ square v))
    (square_is (x *ℤ v -ℤ y *ℤ u)) (square_is (x *ℤ u +ℤ y *ℤ v)) (lagrange x y u v) in
    let P : ℕ → Type 0 = λ m. m ≤ unsigned_abs (square x +ℤ square y) * unsigned_abs (square u +ℤ square v) in
    let Q : ℕ → Type 0 = λ m. unsigned_abs (square (x *ℤ v -ℤ y *ℤ u)) ≤ m in
    subst P (ap (λ z. unsigned_abs (square z)) (sym e) ∙ unsigned_abs-mul n n) (subst Q (unsigned_abs-mul (square x +ℤ square y) (square u +ℤ square v)) whole)

-- the cross product at each corner is the same
cross_b : (p q s : Point) → cross p q s ≡ (q.x -ℤ p.x) *ℤ (s.y -ℤ q.y) -ℤ (q.y -ℤ p.y) *ℤ (s.x -ℤ q.x)
cross_b p q s =
    let px = part p.x in let py = part p.y in let qx = part q.x in let qy = part q.y in let sx = part s.x in let sy = part s.y in
    same (difference (product (difference qx px) (difference sy py)) (product (difference qy py) (difference sx px)))
    (difference (product (difference qx px) (difference sy qy)) (product (difference qy py) (difference sx qx))) (omega arith)

cross_c : (p q s : Point) → cross p q s ≡ (s.x -ℤ q.x) *ℤ (p.y -ℤ s.y) -ℤ (s.y -ℤ q.y) *ℤ (p.x -ℤ s.x)
cross_c p q s =
    let px = part p.x in let py = part p.y in let qx = part q.x in let qy = part q.y in let sx = part s.x in let sy = part s.y in
    same (difference (product (difference qx px) (difference sy py)) (product (difference qy py) (difference sx px)))
    (difference (product (difference sx qx) (difference py sy)) (product (difference sy qy) (difference px sx))) (omega arith)

cross_a : (p q s : Point) → cross p q s ≡ (p.x -ℤ s.x) *ℤ (q.y -ℤ p.y) -ℤ (p.y -ℤ s.y) *ℤ (q.x -ℤ p.x)
cross_a p q s =
    let px = part p.x in let py = part p.y in let qx = part q.x in let qy = part q.y in let sx = part s.x in let sy = part s.y in
    same (difference (product (difference qx px) (difference sy py)) (product (difference qy py) (difference sx px)))
    (difference (product (difference px sx) (difference qy py)) (product (difference py sy) (difference qx px))) (omega arith)

pub size_at_q : (p q s : Point) → unsigned_abs (cross p q s) * unsigned_abs (cross p q s) ≤ unsigned_abs (squared_distance p q) * unsigned_abs (squared_distance q s)
size_at_q p q s = cross_size (cross p q s) (q.x -ℤ p.x) (q.y -ℤ p.y) (s.x -ℤ q.x) (s.y -ℤ q.y) (cross_b p q s)

pub size_at_s : (p q s : Point) → unsigned_abs (cross p q s) * unsigned_abs (cross p q s) ≤ unsigned_abs (squared_distance q s) * unsigned_abs (squared_distance s p)
size_at_s p q s = cross_size (cross p q s) (s.x -ℤ q.x) (s.y -ℤ q.y) (p.x -ℤ s.x) (p.y -ℤ s.y) (cross_c p q s)

pub size_at_p : (p q s : Point) → unsigned_abs (cross p q s) * unsigned_abs (cross p q s) ≤ unsigned_abs (squared_distance s p) * unsigned_abs (squared_distance p q)
size_at_p p q s = cross_size (cross p q s) (p.x -ℤ s.x) (p.y -ℤ s.y) (q.x -ℤ p.x) (q.y -ℤ p.y) (cross_a p q s)

-- ---- a side that is longer than the diameter
-- w is the square of the diameter, k that of the cross product
too_long : (a b c w k : ℕ) → k ≤ a * b → 0 < a → 0 < b → w < c → w * k < a * b * c
too_long a b c w k h p q l =
    let more = mul-lt-mul_of_pos_left q p in
    let some : 0 < a * b = omega (arith, more) in
    let first = mul-le-mul_left w h in
    let second = mul-le-mul_left (a * b) l in
    omega (arith, first, second, some)

-- l is the largest of a, b and c, and less than the two others together
sharp : (a b c w k l : ℕ) → a ≤ l → b ≤ l → c ≤ l → (a < l → b < l → l ≤ c) → l + l < a + b + c → w < l
    → k ≤ a * b → k ≤ b * c → k ≤ c * a → w * k < a * b * c
sharp a b c w k l ha hb hc top angle far ab bc ca =
    ⊎_elim
    (λ (p : a < l). ⊎_elim
    (λ (q : b < l). let is : l ≤ c = top p q in too_long a b c w k ab (omega arith) (omega arith) (omega arith))
    (λ (q : l ≤ b). let found = too_long c a b w k ca (omega arith) (omega arith) (omega arith) in omega (arith, found))
    (cases_lt b l))
    (λ (p : l ≤ a). let found = too_long b c a w k bc (omega arith) (omega arith) (omega arith) in omega (arith, found))
    (cases_lt a l)

cases_of : (x y z : Bool) → (x ≡ true → y ≡ false) → (x ≡ false → z ≡ false) → false ≡ (if x then y else z)
cases_of true y z h g = sym (h refl)
cases_of false y z h g = sym (g refl)

if_then : (x y z : Bool) → x ≡ true → true ≡ y → true ≡ (if x then y else z)
if_then true y z e h = h
if_then false y z e h = absurd (cc)

if_else : (x y z v : Bool) → x ≡ false → v ≡ z → v ≡ (if x then y else z)
if_else true y z v e h = absurd (cc)
if_else false y z v e h = h

above : (x y : ℤ) → pos 0 ≤ℤ x → pos 0 ≤ℤ y → unsigned_abs y < unsigned_abs x → int_le x y ≡ false
above x y p q l = grind (arith, ints)

-- a triangle by the squares of its sides, as whole numbers, and of the cross product
module _ (a b c area : ℤ) (a_least : pos 0 ≤ℤ a) (b_least : pos 0 ≤ℤ b) (c_least : pos 0 ≤ℤ c)
    (ab : unsigned_abs area * unsigned_abs area ≤ unsigned_abs a * unsigned_abs b)
    (bc : unsigned_abs area * unsigned_abs area ≤ unsigned_abs b * unsigned_abs c)
    (ca : unsigned_abs area * unsigned_abs area ≤ unsigned_abs c * unsigned_abs a) where
  longer : (w : ℤ) → pos 0 ≤ℤ w → w <ℤ largest a b c → is_wide a b c ≡ false
      → unsigned_abs w * (unsigned_abs area * unsigned_abs area) < unsigned_abs a * unsigned_abs b * unsigned_abs c
  longer w p l n =
      let angle : largest a b c <ℤ (a +ℤ b +ℤ c -ℤ largest a b c) = grind (arith, ints) in
      sharp (unsigned_abs a) (unsigned_abs b) (unsigned_abs c) (unsigned_abs w) (unsigned_abs area * unsigned_abs area) (unsigned_abs (largest a b c))
      (omega (arith, ints, clamps)) (omega (arith, ints, clamps)) (omega (arith, ints, clamps)) (λ d e. omega (arith, ints, clamps))
      (omega (arith, ints, clamps)) (omega (arith, ints, clamps)) ab bc ca

  circle_too_wide : (w : ℤ) → pos 0 ≤ℤ w → w <ℤ largest a b c → is_wide a b c ≡ false → int_le (a *ℤ b *ℤ c) (w *ℤ square area) ≡ false
  circle_too_wide w p l n =
      let sides : unsigned_abs (a *ℤ b *ℤ c) ≡ unsigned_abs a * unsigned_abs b * unsigned_abs c = unsigned_abs-mul (a *ℤ b) c ∙ ap (λ m. m * unsigned_abs c) (unsigned_abs-mul a b) in
      let circle : unsigned_abs (w *ℤ square area) ≡ unsigned_abs w * (unsigned_abs area * unsigned_abs area) = unsigned_abs-mul w (square area) ∙ ap (λ m. unsigned_abs w * m) (unsigned_abs-mul area area) in
      let P : ℕ → Type 0 = λ m. m < unsigned_abs (a *ℤ b *ℤ c) in
      let Q : ℕ → Type 0 = λ m. unsigned_abs w * (unsigned_abs area * unsigned_abs area) < m in
      above (a *ℤ b *ℤ c) (w *ℤ square area)
      (product_least (a *ℤ b) c (product_least a b a_least b_least) c_least)
      (product_least w (square area) p (not_negative (square area) (square_is area)))
      (subst P (sym circle) (subst Q (sym sides) (longer w p l n)))

  -- a longest side that is longer than the diameter is refused by either rule
  pub too_wide : (r w l : ℤ) → w ≡ squared_width r → pos 0 ≤ℤ w → l ≡ largest a b c → w <ℤ l → false ≡ sides_fit r a b c area
  too_wide r w l e p f above_it =
      let P : ℤ → Type 0 = λ z. z <ℤ largest a b c in
      let Q : ℤ → Type 0 = λ z. w <ℤ z in
      let R : ℤ → Type 0 = λ z. pos 0 ≤ℤ z in
      let long : squared_width r <ℤ largest a b c = subst P e (subst Q f above_it) in
      cases_of (is_wide a b c) (int_le (largest a b c) (squared_width r)) (int_le (a *ℤ b *ℤ c) (squared_width r *ℤ square area))
      (λ h. above_fails_test (largest a b c) (squared_width r) long) (λ h. circle_too_wide (squared_width r) (subst R e p) long h)

-- where the longest side is at most the diameter, so is each
pub sides_most : (a b c l w : ℤ) → l ≡ largest a b c → pos 0 ≤ℤ a → pos 0 ≤ℤ b → pos 0 ≤ℤ c → l ≤ℤ w → unsigned_abs w ≤ 4000000000000
    → (unsigned_abs a ≤ 4000000000000) × (unsigned_abs b ≤ 4000000000000) × (unsigned_abs c ≤ 4000000000000)
sides_most a b c l w e p q r h m = (omega (arith, ints, clamps), omega (arith, ints, clamps), omega (arith, ints, clamps))

pub wide_fits : (r a b c area w l : ℤ) → w ≡ squared_width r → l ≡ largest a b c → l ≤ℤ w → true ≡ int_le (a +ℤ b +ℤ c -ℤ l) l → true ≡ sides_fit r a b c area
wide_fits r a b c area w l e f low wide =
    let P : ℤ → Type 0 = λ z. int_le (a +ℤ b +ℤ c -ℤ z) z ≡ true in
    let R : ℤ → Type 0 = λ z. true ≡ int_le l z in
    let S : ℤ → Type 0 = λ z. true ≡ int_le z (squared_width r) in
    if_then (is_wide a b c) (int_le (largest a b c) (squared_width r)) _ (subst P f (sym wide)) (subst S f (subst R e (sym (at_most_passes l w low))))

pub sharp_fits : (r a b c area w l : ℤ) (v : Bool) → w ≡ squared_width r → l ≡ largest a b c → false ≡ int_le (a +ℤ b +ℤ c -ℤ l) l
    → v ≡ int_le (a *ℤ b *ℤ c) (w *ℤ square area) → v ≡ sides_fit r a b c area
sharp_fits r a b c area w l v e f narrow h =
    let P : ℤ → Type 0 = λ z. int_le (a +ℤ b +ℤ c -ℤ z) z ≡ false in
    let R : ℤ → Type 0 = λ z. v ≡ int_le (a *ℤ b *ℤ c) (z *ℤ square area) in
    if_else (is_wide a b c) _ (int_le (a *ℤ b *ℤ c) (squared_width r *ℤ square area)) v (subst P f (sym narrow)) (subst R e h)

four_times : (q : ℤ) → pos (unsigned_abs q) ≡ q → pos 0 ≤ℤ (pos 4 *ℤ q)
four_times q e = omega (arith, ints)

pub width_least : (r w : ℤ) → w ≡ squared_width r → pos 0 ≤ℤ w
width_least r w e = let P : ℤ → Type 0 = λ z. pos 0 ≤ℤ z in subst P (sym e) (four_times (square r) (square_is r))

-- ---- triangles that fit
each_most : (a b c w : ℤ) → largest a b c ≤ℤ w → (int_le a w ≡ true) × (int_le b w ≡ true) × (int_le c w ≡ true)
each_most a b c w h = (
  at_most_passes a w (omega (arith, ints, clamps)),
  at_most_passes b w (omega (arith, ints, clamps)),
  at_most_passes c w (omega (arith, ints, clamps)),
)

distance_swap : (p q : Point) → squared_distance p q ≡ squared_distance q p
distance_swap p q =
    let x = difference (part q.x) (part p.x) in let y = difference (part q.y) (part p.y) in
    let u = difference (part p.x) (part q.x) in let v = difference (part p.y) (part q.y) in
    same (sum (product x x) (product y y)) (sum (product u u) (product v v)) (omega arith)

at_most_unless : (x y : ℤ) (v : Bool) → (y <ℤ x → false ≡ v) → v ≡ true → x ≤ℤ y
at_most_unless x y v h e =
    ⊎_elim
    (λ (l : down x + up y < up x + down y). absurd (cc (h (omega (arith, ints)))))
    (λ (l : up x + down y ≤ down x + up y). omega (arith, ints))
    (cases_lt (down x + up y) (up x + down y))

-- each two of three points that fit do so
pub three_pairs : (r : ℤ) (p q s : Point) → three_fit r p q s ≡ true → (two_fit r p q ≡ true) × (two_fit r q s ≡ true) × (two_fit r p s ≡ true)
three_pairs r p q s h =
    let a = squared_distance p q in
    let b = squared_distance q s in
    let c = squared_distance s p in
    let w = squared_width r in
    let most : largest a b c ≤ℤ w =
    at_most_unless (largest a b c) w (sides_fit r a b c (cross p q s))
    (λ l. too_wide a b c (cross p q s) (squares_not_negative p q) (squares_not_negative q s) (squares_not_negative s p)
    (size_at_q p q s) (size_at_s p q s) (size_at_p p q s) r w (largest a b c) refl (width_least r w refl) refl l) h in
    let parts = each_most a b c w most in
    let P : ℤ → Type 0 = λ z. int_le z w ≡ true in
    (parts.0, parts.1, subst P (distance_swap s p) parts.2)
