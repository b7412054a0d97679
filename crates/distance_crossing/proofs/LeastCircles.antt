-- The least circle round three points: where one side is at least as long as the two others together, squared, it is a diameter. Any other is the circle through the corners.
use Rattle.std.proofs.Common.{◌≡◌, Bool, true, false, ℤ, pos, ◌+ℤ◌, ◌-ℤ◌, ◌*ℤ◌, ◌≤ℤ◌, ◌<ℤ◌, int_le, if◌then◌else◌, refl, subst, ap, sym, ◌∙◌, arith}
use Rattle.std.specs.Int.{int_max}
use Rattle.std.proofs.lemmas.Int.{ints, clamps, by_lt_z}
use Rattle.exact.proofs.Ring.{part, number, sum, difference, product, same}
use Rattle.exact.proofs.Integers.{product_least, times_one}
use Rattle.fixed_point.specs.declared.number.Point.{Point}
use Rattle.geometry.specs.Circle.{is_wide, largest, squared_width, three_fit}
use Rattle.geometry.specs.Plane.{square, squared_distance, cross}
use Rattle.distance_crossing.specs.LeastCircle.{least_over, least_under}
use Rattle.distance_crossing.proofs.Signs.{product_above, square_least, cancel_least, cancel_above}
use Rattle.distance_crossing.proofs.Centres.{away, room, excess, Centre, Weights}

-- ---- the points in another order
pub centre_turned : (p q s : Point) (over under : ℤ) → Centre p q s over under → Centre q s p over under
centre_turned p q s over under h = record { x = h.x; y = h.y; z = h.z; unit = h.unit; first = h.second; second = h.third; third = h.first }

turned_sum : (a b c : ℤ) → b +ℤ c +ℤ a ≡ a +ℤ b +ℤ c
turned_sum a b c = omega (arith, ints)

excess_turned : (over z l m n a b c : ℤ) → pos 0 ≤ℤ excess over z l m n a b c → pos 0 ≤ℤ excess over z m n l b c a
excess_turned over z l m n a b c h = let P : ℤ → Type 0 = λ k. pos 0 ≤ℤ (pos 2 *ℤ k -ℤ z *ℤ over) in subst P (sym (turned_sum (l *ℤ a) (m *ℤ b) (n *ℤ c))) h

pub weights_turned : (p q s : Point) (over under : ℤ) → Weights p q s over under → Weights q s p over under
weights_turned p q s over under h = record {
  l = h.m;
  m = h.n;
  n = h.l;
  l_least = h.m_least;
  m_least = h.n_least;
  n_least = h.l_least;
  whole = turned_sum h.l h.m h.n ∙ h.whole;
  covers = λ x y z. excess_turned over (square z) h.l h.m h.n (away x y z p) (away x y z q) (away x y z s) (h.covers x y z);
}

-- ---- the side from p to q is a diameter
first_end : (a b : ℤ) → square (pos 2 *ℤ a -ℤ (a +ℤ b)) ≡ square (b -ℤ a)
first_end a b =
    let x = difference (product (number 2) (part a)) (sum (part a) (part b)) in let d = difference (part b) (part a) in
    same (product x x) (product d d) (omega arith)

second_end : (a b : ℤ) → square (pos 2 *ℤ b -ℤ (a +ℤ b)) ≡ square (b -ℤ a)
second_end a b =
    let x = difference (product (number 2) (part b)) (sum (part a) (part b)) in let d = difference (part b) (part a) in
    same (product x x) (product d d) (omega arith)

other_point : (a b c : ℤ) → square (pos 2 *ℤ c -ℤ (a +ℤ b)) ≡ pos 2 *ℤ (square (c -ℤ b) +ℤ square (a -ℤ c)) -ℤ square (b -ℤ a)
other_point a b c =
    let x = difference (product (number 2) (part c)) (sum (part a) (part b)) in
    let d = difference (part b) (part a) in let e = difference (part c) (part b) in let f = difference (part a) (part c) in
    same (product x x) (difference (product (number 2) (sum (product e e) (product f f))) (product d d)) (omega arith)

room_for : (over way : ℤ) → way ≤ℤ over → pos 0 ≤ℤ room over (pos 1) (square (pos 2)) way
room_for over way h = omega (arith, ints)

sums_same : (a b c d : ℤ) → a ≡ c → b ≡ d → (a +ℤ b) ≤ℤ (c +ℤ d)
sums_same a b c d e f = omega (arith, ints)

other_sum : (a a' b b' c c' d d' : ℤ) → a ≡ pos 2 *ℤ (b +ℤ c) -ℤ d → a' ≡ pos 2 *ℤ (b' +ℤ c') -ℤ d' → ((b +ℤ b') +ℤ (c +ℤ c')) ≤ℤ (d +ℤ d') → (a +ℤ a') ≤ℤ (d +ℤ d')
other_sum a a' b b' c c' d d' e f h = omega (arith, ints)

pub wide_centre : (p q s : Point) → (squared_distance q s +ℤ squared_distance s p) ≤ℤ squared_distance p q → Centre p q s (squared_distance p q) (pos 1)
wide_centre p q s h =
    let x = p.x +ℤ q.x in let y = p.y +ℤ q.y in
    record {
      x = x;
      y = y;
      z = pos 2;
      unit = omega (arith, ints);
      first = room_for (squared_distance p q) (away x y (pos 2) p) (sums_same _ _ _ _ (first_end p.x q.x) (first_end p.y q.y));
      second = room_for (squared_distance p q) (away x y (pos 2) q) (sums_same _ _ _ _ (second_end p.x q.x) (second_end p.y q.y));
      third = room_for (squared_distance p q) (away x y (pos 2) s)
          (other_sum _ _ (square (s.x -ℤ q.x)) (square (s.y -ℤ q.y)) (square (p.x -ℤ s.x)) (square (p.y -ℤ s.y)) (square (q.x -ℤ p.x)) (square (q.y -ℤ p.y))
          (other_point p.x q.x s.x) (other_point p.y q.y s.y) h);
    }

-- the sum of two squares and the square of their difference
parallelogram : (x z a b : ℤ) → pos 2 *ℤ (square (z *ℤ a -ℤ x) +ℤ square (z *ℤ b -ℤ x)) ≡ square z *ℤ square (b -ℤ a) +ℤ square ((z *ℤ a -ℤ x) +ℤ (z *ℤ b -ℤ x))
parallelogram x z a b =
    let f = difference (product (part z) (part a)) (part x) in let g = difference (product (part z) (part b)) (part x) in
    let d = difference (part b) (part a) in
    same (product (number 2) (sum (product f f) (product g g))) (sum (product (product (part z) (part z)) (product d d)) (product (sum f g) (sum f g))) (omega arith)

spread_product : (z d e : ℤ) → z *ℤ (d +ℤ e) ≡ z *ℤ d +ℤ z *ℤ e
spread_product z d e = same (product (part z) (sum (part d) (part e))) (sum (product (part z) (part d)) (product (part z) (part e))) (omega arith)

covers_by : (z a a' b b' c d d' e e' : ℤ) → pos 2 *ℤ (a +ℤ b) ≡ z *ℤ d +ℤ e → pos 2 *ℤ (a' +ℤ b') ≡ z *ℤ d' +ℤ e' → pos 0 ≤ℤ e → pos 0 ≤ℤ e'
    → pos 0 ≤ℤ excess (d +ℤ d') z (pos 1) (pos 1) (pos 0) (a +ℤ a') (b +ℤ b') c
covers_by z a a' b b' c d d' e e' f g p q = let parts = spread_product z d d' in omega (arith, ints)

pub wide_weights : (p q s : Point) → Weights p q s (squared_distance p q) (pos 1)
wide_weights p q s = record {
  l = pos 1;
  m = pos 1;
  n = pos 0;
  l_least = omega (arith, ints);
  m_least = omega (arith, ints);
  n_least = omega (arith, ints);
  whole = refl;
  covers = λ x y z. covers_by (square z) (square (z *ℤ p.x -ℤ x)) (square (z *ℤ p.y -ℤ y)) (square (z *ℤ q.x -ℤ x)) (square (z *ℤ q.y -ℤ y)) (away x y z s)
      (square (q.x -ℤ p.x)) (square (q.y -ℤ p.y)) (square ((z *ℤ p.x -ℤ x) +ℤ (z *ℤ q.x -ℤ x))) (square ((z *ℤ p.y -ℤ y) +ℤ (z *ℤ q.y -ℤ y)))
      (parallelogram x z p.x q.x) (parallelogram y z p.y q.y) (square_least ((z *ℤ p.x -ℤ x) +ℤ (z *ℤ q.x -ℤ x))) (square_least ((z *ℤ p.y -ℤ y) +ℤ (z *ℤ q.y -ℤ y)));
}

-- ---- two sides (ux, uy) and (vx, vy) from one corner
cross_dot : (x y u v : ℤ) → square (x *ℤ v -ℤ y *ℤ u) +ℤ square (x *ℤ u +ℤ y *ℤ v) ≡ (square x +ℤ square y) *ℤ (square u +ℤ square v)
cross_dot x y u v =
    let c = difference (product (part x) (part v)) (product (part y) (part u)) in
    let d = sum (product (part x) (part u)) (product (part y) (part v)) in
    same (sum (product c c) (product d d))
    (product (sum (product (part x) (part x)) (product (part y) (part y))) (sum (product (part u) (part u)) (product (part v) (part v)))) (omega arith)

-- the product of two cross products
cross_cross : (a b c d e f g h : ℤ) → (a *ℤ d -ℤ b *ℤ c) *ℤ (e *ℤ h -ℤ f *ℤ g) ≡ (e *ℤ a +ℤ f *ℤ b) *ℤ (g *ℤ c +ℤ h *ℤ d) -ℤ (a *ℤ g +ℤ b *ℤ h) *ℤ (e *ℤ c +ℤ f *ℤ d)
cross_cross a b c d e f g h =
    same
    (product (difference (product (part a) (part d)) (product (part b) (part c))) (difference (product (part e) (part h)) (product (part f) (part g))))
    (difference (product (sum (product (part e) (part a)) (product (part f) (part b))) (sum (product (part g) (part c)) (product (part h) (part d))))
    (product (sum (product (part a) (part g)) (product (part b) (part h))) (sum (product (part e) (part c)) (product (part f) (part d))))) (omega arith)

weights_whole : (A B C : ℤ) → (A +ℤ B -ℤ pos 2 *ℤ C) *ℤ C +ℤ B *ℤ (A -ℤ C) +ℤ A *ℤ (B -ℤ C) ≡ pos 2 *ℤ (A *ℤ B -ℤ C *ℤ C)
weights_whole A B C =
    let a = part A in let b = part B in let c = part C in
    same (sum (sum (product (difference (sum a b) (product (number 2) c)) c) (product b (difference a c))) (product a (difference b c)))
    (product (number 2) (difference (product a b) (product c c))) (omega arith)

weights_sides : (A B C : ℤ) → B *ℤ (A -ℤ C) *ℤ A +ℤ A *ℤ (B -ℤ C) *ℤ B ≡ A *ℤ (A +ℤ B -ℤ pos 2 *ℤ C) *ℤ B
weights_sides A B C =
    let a = part A in let b = part B in let c = part C in
    same (sum (product (product b (difference a c)) a) (product (product a (difference b c)) b))
    (product (product a (difference (sum a b) (product (number 2) c))) b) (omega arith)

weights_ways : (A B C f g : ℤ) → B *ℤ (A -ℤ C) *ℤ f +ℤ A *ℤ (B -ℤ C) *ℤ g ≡ A *ℤ (f *ℤ B -ℤ C *ℤ g) -ℤ B *ℤ (f *ℤ C -ℤ A *ℤ g)
weights_ways A B C f g =
    let a = part A in let b = part B in let c = part C in
    same (sum (product (product b (difference a c)) (part f)) (product (product a (difference b c)) (part g)))
    (difference (product a (difference (product (part f) b) (product c (part g)))) (product b (difference (product (part f) c) (product a (part g))))) (omega arith)

normal_length : (A B x y u v : ℤ) → square (A *ℤ v -ℤ B *ℤ y) +ℤ square (B *ℤ x -ℤ A *ℤ u)
    ≡ A *ℤ A *ℤ (square u +ℤ square v) -ℤ pos 2 *ℤ (A *ℤ B) *ℤ (x *ℤ u +ℤ y *ℤ v) +ℤ B *ℤ B *ℤ (square x +ℤ square y)
normal_length A B x y u v =
    let a = part A in let b = part B in
    let f = difference (product a (part v)) (product b (part y)) in let g = difference (product b (part x)) (product a (part u)) in
    same (sum (product f f) (product g g))
    (sum (difference (product (product a a) (sum (product (part u) (part u)) (product (part v) (part v)))) (product (product (number 2) (product a b)) (sum (product (part x) (part u)) (product (part y) (part v)))))
    (product (product b b) (sum (product (part x) (part x)) (product (part y) (part y))))) (omega arith)

normal_sides : (A B C : ℤ) → A *ℤ A *ℤ B -ℤ pos 2 *ℤ (A *ℤ B) *ℤ C +ℤ B *ℤ B *ℤ A ≡ A *ℤ (A +ℤ B -ℤ pos 2 *ℤ C) *ℤ B
normal_sides A B C =
    let a = part A in let b = part B in let c = part C in
    same (sum (difference (product (product a a) b) (product (product (number 2) (product a b)) c)) (product (product b b) a))
    (product (product a (difference (sum a b) (product (number 2) c))) b) (omega arith)

along_normal : (A B D x y i j u v : ℤ)
    → D *ℤ (i *ℤ (A *ℤ v -ℤ B *ℤ y) +ℤ j *ℤ (B *ℤ x -ℤ A *ℤ u)) ≡ A *ℤ (D *ℤ (i *ℤ v -ℤ j *ℤ u)) -ℤ B *ℤ (D *ℤ (i *ℤ y -ℤ j *ℤ x))
along_normal A B D x y i j u v =
    let a = part A in let b = part B in let d = part D in
    same (product d (sum (product (part i) (difference (product a (part v)) (product b (part y)))) (product (part j) (difference (product b (part x)) (product a (part u))))))
    (difference (product a (product d (difference (product (part i) (part v)) (product (part j) (part u))))) (product b (product d (difference (product (part i) (part y)) (product (part j) (part x)))))) (omega arith)

shifted_square : (x z u : ℤ) → square (x +ℤ z *ℤ u) ≡ square x +ℤ pos 2 *ℤ (z *ℤ (x *ℤ u)) +ℤ square z *ℤ square u
shifted_square x z u =
    let f = sum (part x) (product (part z) (part u)) in
    same (product f f) (sum (sum (product (part x) (part x)) (product (number 2) (product (part z) (product (part x) (part u))))) (product (product (part z) (part z)) (product (part u) (part u)))) (omega arith)

gathered : (a b z f g w c d : ℤ) → (a +ℤ pos 2 *ℤ (z *ℤ f) +ℤ w *ℤ c) +ℤ (b +ℤ pos 2 *ℤ (z *ℤ g) +ℤ w *ℤ d) ≡ (a +ℤ b) +ℤ pos 2 *ℤ (z *ℤ (f +ℤ g)) +ℤ w *ℤ (c +ℤ d)
gathered a b z f g w c d =
    let line = λ (i j k : ℤ). sum (sum (part i) (product (number 2) (product (part z) (part j)))) (product (part w) (part k)) in
    same (sum (line a f c) (line b g d)) (sum (sum (sum (part a) (part b)) (product (number 2) (product (part z) (sum (part f) (part g))))) (product (part w) (sum (part c) (part d)))) (omega arith)

weighted_ways : (l m n r z f g w A B P : ℤ)
    → pos 2 *ℤ (l *ℤ r +ℤ m *ℤ (r +ℤ pos 2 *ℤ (z *ℤ f) +ℤ w *ℤ A) +ℤ n *ℤ (r +ℤ pos 2 *ℤ (z *ℤ g) +ℤ w *ℤ B)) -ℤ w *ℤ P
    ≡ pos 2 *ℤ (l +ℤ m +ℤ n) *ℤ r +ℤ pos 4 *ℤ z *ℤ (m *ℤ f +ℤ n *ℤ g) +ℤ w *ℤ (pos 2 *ℤ (m *ℤ A +ℤ n *ℤ B) -ℤ P)
weighted_ways l m n r z f g w A B P =
    let line = λ (j k : ℤ). sum (sum (part r) (product (number 2) (product (part z) (part j)))) (product (part w) (part k)) in
    same
    (difference (product (number 2) (sum (sum (product (part l) (part r)) (product (part m) (line f A))) (product (part n) (line g B)))) (product (part w) (part P)))
    (sum (sum (product (product (number 2) (sum (sum (part l) (part m)) (part n))) (part r)) (product (product (number 4) (part z)) (sum (product (part m) (part f)) (product (part n) (part g)))))
    (product (part w) (difference (product (number 2) (sum (product (part m) (part A)) (product (part n) (part B)))) (part P)))) (omega arith)

completed : (D z i j a b : ℤ) → square (pos 2 *ℤ D *ℤ i +ℤ z *ℤ a) +ℤ square (pos 2 *ℤ D *ℤ j +ℤ z *ℤ b)
    ≡ pos 2 *ℤ (pos 2 *ℤ (D *ℤ D)) *ℤ (square i +ℤ square j) +ℤ pos 4 *ℤ z *ℤ (D *ℤ (i *ℤ a +ℤ j *ℤ b)) +ℤ square z *ℤ (square a +ℤ square b)
completed D z i j a b =
    let d = part D in
    let line = λ (k l : ℤ). sum (product (product (number 2) d) (part k)) (product (part z) (part l)) in
    same (sum (product (line i a) (line i a)) (product (line j b) (line j b)))
    (sum (sum (product (product (number 2) (product (number 2) (product d d))) (sum (product (part i) (part i)) (product (part j) (part j))))
    (product (product (number 4) (part z)) (product d (sum (product (part i) (part a)) (product (part j) (part b))))))
    (product (product (part z) (part z)) (sum (product (part a) (part a)) (product (part b) (part b))))) (omega arith)

once : (P : ℤ) → pos 2 *ℤ P -ℤ P ≡ P
once P = omega (arith, ints)

cross_is : (A B C D : ℤ) → D *ℤ D +ℤ C *ℤ C ≡ A *ℤ B → A *ℤ B -ℤ C *ℤ C ≡ D *ℤ D
cross_is A B C D h = omega (arith, ints)

module _ (x y u v : ℤ) where
  abbrev A : ℤ
  A = square x +ℤ square y

  abbrev B : ℤ
  B = square u +ℤ square v

  abbrev C : ℤ
  C = x *ℤ u +ℤ y *ℤ v

  abbrev D : ℤ
  D = x *ℤ v -ℤ y *ℤ u

  abbrev third : ℤ
  third = A +ℤ B -ℤ pos 2 *ℤ C

  abbrev a : ℤ
  a = A *ℤ v -ℤ B *ℤ y

  abbrev b : ℤ
  b = B *ℤ x -ℤ A *ℤ u

  pub length-normal : square a +ℤ square b ≡ A *ℤ third *ℤ B
  length-normal = normal_length A B x y u v ∙ normal_sides A B C

  pub whole-sharp : third *ℤ C +ℤ B *ℤ (A -ℤ C) +ℤ A *ℤ (B -ℤ C) ≡ pos 2 *ℤ square D
  whole-sharp = weights_whole A B C ∙ ap (λ k. pos 2 *ℤ k) (cross_is A B C D (cross_dot x y u v))

  ways-normal : (i j : ℤ) → B *ℤ (A -ℤ C) *ℤ (i *ℤ x +ℤ j *ℤ y) +ℤ A *ℤ (B -ℤ C) *ℤ (i *ℤ u +ℤ j *ℤ v) ≡ D *ℤ (i *ℤ a +ℤ j *ℤ b)
  ways-normal i j =
      weights_ways A B C (i *ℤ x +ℤ j *ℤ y) (i *ℤ u +ℤ j *ℤ v)
      ∙ (λ k. A *ℤ sym (cross_cross x y u v i j u v) k -ℤ B *ℤ sym (cross_cross x y u v i j x y) k)
      ∙ sym (along_normal A B D x y i j u v)

  -- the ways from a centre that is (i, j) from the corner, in units of 1 / z
  pub sharp_covers : (i j z : ℤ) → pos 0 ≤ℤ excess (A *ℤ third *ℤ B) (square z) (third *ℤ C) (B *ℤ (A -ℤ C)) (A *ℤ (B -ℤ C))
      (square i +ℤ square j) (square (i +ℤ z *ℤ x) +ℤ square (j +ℤ z *ℤ y)) (square (i +ℤ z *ℤ u) +ℤ square (j +ℤ z *ℤ v))
  sharp_covers i j z =
      let P : ℤ → Type 0 = λ k. pos 0 ≤ℤ k in
      let r = square i +ℤ square j in
      let f = i *ℤ x +ℤ j *ℤ y in
      let g = i *ℤ u +ℤ j *ℤ v in
      let at_q : square (i +ℤ z *ℤ x) +ℤ square (j +ℤ z *ℤ y) ≡ r +ℤ pos 2 *ℤ (z *ℤ f) +ℤ square z *ℤ A =
      (λ k. shifted_square i z x k +ℤ shifted_square j z y k) ∙ gathered (square i) (square j) z (i *ℤ x) (j *ℤ y) (square z) (square x) (square y) in
      let at_s : square (i +ℤ z *ℤ u) +ℤ square (j +ℤ z *ℤ v) ≡ r +ℤ pos 2 *ℤ (z *ℤ g) +ℤ square z *ℤ B =
      (λ k. shifted_square i z u k +ℤ shifted_square j z v k) ∙ gathered (square i) (square j) z (i *ℤ u) (j *ℤ v) (square z) (square u) (square v) in
      let all : excess (A *ℤ third *ℤ B) (square z) (third *ℤ C) (B *ℤ (A -ℤ C)) (A *ℤ (B -ℤ C)) r (square (i +ℤ z *ℤ x) +ℤ square (j +ℤ z *ℤ y)) (square (i +ℤ z *ℤ u) +ℤ square (j +ℤ z *ℤ v))
      ≡ square (pos 2 *ℤ D *ℤ i +ℤ z *ℤ a) +ℤ square (pos 2 *ℤ D *ℤ j +ℤ z *ℤ b) =
      (λ k. excess (A *ℤ third *ℤ B) (square z) (third *ℤ C) (B *ℤ (A -ℤ C)) (A *ℤ (B -ℤ C)) r (at_q k) (at_s k))
      ∙ weighted_ways (third *ℤ C) (B *ℤ (A -ℤ C)) (A *ℤ (B -ℤ C)) r z f g (square z) A B (A *ℤ third *ℤ B)
      ∙ (λ k. pos 2 *ℤ whole-sharp k *ℤ r +ℤ pos 4 *ℤ z *ℤ ways-normal i j k +ℤ square z *ℤ (pos 2 *ℤ weights_sides A B C k -ℤ A *ℤ third *ℤ B))
      ∙ (λ k. pos 2 *ℤ (pos 2 *ℤ square D) *ℤ r +ℤ pos 4 *ℤ z *ℤ (D *ℤ (i *ℤ a +ℤ j *ℤ b)) +ℤ square z *ℤ once (A *ℤ third *ℤ B) k)
      ∙ (λ k. pos 2 *ℤ (pos 2 *ℤ square D) *ℤ r +ℤ pos 4 *ℤ z *ℤ (D *ℤ (i *ℤ a +ℤ j *ℤ b)) +ℤ square z *ℤ sym length-normal k)
      ∙ sym (completed D z i j a b) in
      subst P (sym all) (both_least (pos 2 *ℤ D *ℤ i +ℤ z *ℤ a) (pos 2 *ℤ D *ℤ j +ℤ z *ℤ b))
    where
      both_least : (f g : ℤ) → pos 0 ≤ℤ (square f +ℤ square g)
      both_least f g = let p = square_least f in let q = square_least g in omega (arith, ints)

-- ---- three points whose angles are all sharp
shift : (x z p q : ℤ) → (z *ℤ p -ℤ x) +ℤ z *ℤ (q -ℤ p) ≡ z *ℤ q -ℤ x
shift x z p q =
    let here = λ (k : ℤ). product (part z) (part k) in
    same (sum (difference (here p) (part x)) (product (part z) (difference (part q) (part p)))) (difference (here q) (part x)) (omega arith)

third_least : (A B C : ℤ) → pos 0 ≤ℤ (A -ℤ C) → pos 0 ≤ℤ (B -ℤ C) → pos 0 ≤ℤ (A +ℤ B -ℤ pos 2 *ℤ C)
third_least A B C h g = omega (arith, ints)

sharp_area : (A B C : ℤ) → A *ℤ B -ℤ C *ℤ C ≡ A *ℤ (B -ℤ C) +ℤ C *ℤ (A -ℤ C)
sharp_area A B C =
    let a = part A in let b = part B in let c = part C in
    same (difference (product a b) (product c c)) (sum (product a (difference b c)) (product c (difference a c))) (omega arith)

own_square : (z p a : ℤ) → square (z *ℤ p -ℤ (z *ℤ p +ℤ a)) ≡ square a
own_square z p a =
    let f = difference (product (part z) (part p)) (sum (product (part z) (part p)) (part a)) in
    same (product f f) (product (part a) (part a)) (omega arith)

end_square : (z p q a : ℤ) → square (z *ℤ q -ℤ (z *ℤ p +ℤ a)) ≡ square a +ℤ square z *ℤ square (q -ℤ p) -ℤ pos 2 *ℤ (z *ℤ ((q -ℤ p) *ℤ a))
end_square z p q a =
    let f = difference (product (part z) (part q)) (sum (product (part z) (part p)) (part a)) in
    let d = difference (part q) (part p) in
    same (product f f) (difference (sum (product (part a) (part a)) (product (product (part z) (part z)) (product d d))) (product (number 2) (product (part z) (product d (part a))))) (omega arith)

ends_gathered : (a b w c d z f g : ℤ) → (a +ℤ w *ℤ c -ℤ pos 2 *ℤ (z *ℤ f)) +ℤ (b +ℤ w *ℤ d -ℤ pos 2 *ℤ (z *ℤ g)) ≡ (a +ℤ b) +ℤ w *ℤ (c +ℤ d) -ℤ pos 2 *ℤ (z *ℤ (f +ℤ g))
ends_gathered a b w c d z f g =
    let line = λ (i j k : ℤ). difference (sum (part i) (product (part w) (part j))) (product (number 2) (product (part z) (part k))) in
    same (sum (line a c f) (line b d g))
    (difference (sum (sum (part a) (part b)) (product (part w) (sum (part c) (part d)))) (product (number 2) (product (part z) (sum (part f) (part g))))) (omega arith)

normal_first : (A B x y u v : ℤ) → x *ℤ (A *ℤ v -ℤ B *ℤ y) +ℤ y *ℤ (B *ℤ x -ℤ A *ℤ u) ≡ A *ℤ (x *ℤ v -ℤ y *ℤ u)
normal_first A B x y u v =
    let a = part A in let b = part B in
    same (sum (product (part x) (difference (product a (part v)) (product b (part y)))) (product (part y) (difference (product b (part x)) (product a (part u)))))
    (product a (difference (product (part x) (part v)) (product (part y) (part u)))) (omega arith)

normal_second : (A B x y u v : ℤ) → u *ℤ (A *ℤ v -ℤ B *ℤ y) +ℤ v *ℤ (B *ℤ x -ℤ A *ℤ u) ≡ B *ℤ (x *ℤ v -ℤ y *ℤ u)
normal_second A B x y u v =
    let a = part A in let b = part B in
    same (sum (product (part u) (difference (product a (part v)) (product b (part y)))) (product (part v) (difference (product b (part x)) (product a (part u)))))
    (product b (difference (product (part x) (part v)) (product (part y) (part u)))) (omega arith)

balanced : (P A D : ℤ) → P +ℤ square (pos 2 *ℤ D) *ℤ A -ℤ pos 2 *ℤ (pos 2 *ℤ D *ℤ (A *ℤ D)) ≡ P
balanced P A D =
    let z = product (number 2) (part D) in
    same (difference (sum (part P) (product (product z z) (part A))) (product (number 2) (product z (product (part A) (part D))))) (part P) (omega arith)

corner_room : (P D : ℤ) → room P (square D) (square (pos 2 *ℤ D)) P ≡ pos 0
corner_room P D =
    let z = product (number 2) (part D) in
    same (difference (product (part P) (product z z)) (product (product (number 4) (product (part D) (part D))) (part P))) (number 0) (omega arith)

four_squares : (D : ℤ) → square (pos 2 *ℤ D) ≡ pos 4 *ℤ square D
four_squares D =
    let z = product (number 2) (part D) in
    same (product z z) (product (number 4) (product (part D) (part D))) (omega arith)

corner_unit : (D : ℤ) → pos 0 <ℤ square D → pos 0 <ℤ square (pos 2 *ℤ D)
corner_unit D h = let is = four_squares D in omega (arith, ints)

room_zero : (P D way : ℤ) → way ≡ P → pos 0 ≤ℤ room P (square D) (square (pos 2 *ℤ D)) way
room_zero P D way e = let is = ap (λ k. room P (square D) (square (pos 2 *ℤ D)) k) e ∙ corner_room P D in omega (arith, ints)

pub record IsLeast (p q s : Point) (over under : ℤ) : Type 0 where
  pub above : pos 0 <ℤ under
  pub centre : Centre p q s over under
  pub weights : Weights p q s over under

-- the corner p, its sides to q and s, and the dot product of these
module _ (p q s : Point) where
  abbrev pub dot : ℤ
  dot = (q.x -ℤ p.x) *ℤ (s.x -ℤ p.x) +ℤ (q.y -ℤ p.y) *ℤ (s.y -ℤ p.y)

  abbrev near : ℤ
  near = squared_distance p q

  abbrev far : ℤ
  far = squared_distance p s

  abbrev round : ℤ
  round = near *ℤ (near +ℤ far -ℤ pos 2 *ℤ dot) *ℤ far

  abbrev right : ℤ
  right = near *ℤ (s.y -ℤ p.y) -ℤ far *ℤ (q.y -ℤ p.y)

  abbrev up_by : ℤ
  up_by = far *ℤ (q.x -ℤ p.x) -ℤ near *ℤ (s.x -ℤ p.x)

  module _ (dot_above : pos 0 <ℤ dot) (near_more : pos 0 <ℤ (near -ℤ dot)) (far_more : pos 0 <ℤ (far -ℤ dot)) where
    area_above : pos 0 <ℤ square (cross p q s)
    area_above =
        let is = sharp_area near far dot ∙ refl in
        let area = cross_is near far dot (cross p q s) (cross_dot (q.x -ℤ p.x) (q.y -ℤ p.y) (s.x -ℤ p.x) (s.y -ℤ p.y)) in
        let first = product_above near (far -ℤ dot) (omega (arith, ints)) far_more in
        let second = product_above dot (near -ℤ dot) dot_above near_more in
        omega (arith, ints)

    sharp_weights : Weights p q s round (square (cross p q s))
    sharp_weights = record {
      l = (near +ℤ far -ℤ pos 2 *ℤ dot) *ℤ dot;
      m = far *ℤ (near -ℤ dot);
      n = near *ℤ (far -ℤ dot);
      l_least = product_least (near +ℤ far -ℤ pos 2 *ℤ dot) dot (third_least near far dot (omega (arith, ints)) (omega (arith, ints))) (omega (arith, ints));
      m_least = product_least far (near -ℤ dot) (omega (arith, ints)) (omega (arith, ints));
      n_least = product_least near (far -ℤ dot) (omega (arith, ints)) (omega (arith, ints));
      whole = whole-sharp (q.x -ℤ p.x) (q.y -ℤ p.y) (s.x -ℤ p.x) (s.y -ℤ p.y);
      covers = λ x y z.
          let P : ℤ → ℤ → Type 0 = λ a b. pos 0 ≤ℤ excess round (square z) ((near +ℤ far -ℤ pos 2 *ℤ dot) *ℤ dot) (far *ℤ (near -ℤ dot)) (near *ℤ (far -ℤ dot)) (away x y z p) a b in
          let Q : ℤ → Type 0 = λ a. P a (square ((z *ℤ p.x -ℤ x) +ℤ z *ℤ (s.x -ℤ p.x)) +ℤ square ((z *ℤ p.y -ℤ y) +ℤ z *ℤ (s.y -ℤ p.y))) in
          subst (P (away x y z q)) (λ i. square (shift x z p.x s.x i) +ℤ square (shift y z p.y s.y i))
          (subst Q (λ i. square (shift x z p.x q.x i) +ℤ square (shift y z p.y q.y i))
          (sharp_covers (q.x -ℤ p.x) (q.y -ℤ p.y) (s.x -ℤ p.x) (s.y -ℤ p.y) (z *ℤ p.x -ℤ x) (z *ℤ p.y -ℤ y) z));
    }

    sharp_centre : Centre p q s round (square (cross p q s))
    sharp_centre =
        let z = pos 2 *ℤ cross p q s in
        let length = length-normal (q.x -ℤ p.x) (q.y -ℤ p.y) (s.x -ℤ p.x) (s.y -ℤ p.y) in
        record {
          x = z *ℤ p.x +ℤ right;
          y = z *ℤ p.y +ℤ up_by;
          z = z;
          unit = corner_unit (cross p q s) area_above;
          first = room_zero round (cross p q s) _ ((λ i. own_square z p.x right i +ℤ own_square z p.y up_by i) ∙ length);
          second = room_zero round (cross p q s) _
              ((λ i. end_square z p.x q.x right i +ℤ end_square z p.y q.y up_by i)
              ∙ ends_gathered (square right) (square up_by) (square z) (square (q.x -ℤ p.x)) (square (q.y -ℤ p.y)) z ((q.x -ℤ p.x) *ℤ right) ((q.y -ℤ p.y) *ℤ up_by)
              ∙ (λ i. length i +ℤ square z *ℤ near -ℤ pos 2 *ℤ (z *ℤ normal_first near far (q.x -ℤ p.x) (q.y -ℤ p.y) (s.x -ℤ p.x) (s.y -ℤ p.y) i))
              ∙ balanced round near (cross p q s));
          third = room_zero round (cross p q s) _
              ((λ i. end_square z p.x s.x right i +ℤ end_square z p.y s.y up_by i)
              ∙ ends_gathered (square right) (square up_by) (square z) (square (s.x -ℤ p.x)) (square (s.y -ℤ p.y)) z ((s.x -ℤ p.x) *ℤ right) ((s.y -ℤ p.y) *ℤ up_by)
              ∙ (λ i. length i +ℤ square z *ℤ far -ℤ pos 2 *ℤ (z *ℤ normal_second near far (q.x -ℤ p.x) (q.y -ℤ p.y) (s.x -ℤ p.x) (s.y -ℤ p.y) i))
              ∙ balanced round far (cross p q s));
        }

    pub sharp_least : IsLeast p q s round (square (cross p q s))
    sharp_least = record { above = area_above; centre = sharp_centre; weights = sharp_weights }

-- ---- the three sides of a triangle, and which is the longest
pub swapped : (p q : Point) → squared_distance p q ≡ squared_distance q p
swapped p q =
    let x = difference (part q.x) (part p.x) in let y = difference (part q.y) (part p.y) in
    let u = difference (part p.x) (part q.x) in let v = difference (part p.y) (part q.y) in
    same (sum (product x x) (product y y)) (sum (product u u) (product v v)) (omega arith)

side_square : (p q s : ℤ) → square (s -ℤ q) ≡ square (q -ℤ p) +ℤ square (s -ℤ p) -ℤ pos 2 *ℤ ((q -ℤ p) *ℤ (s -ℤ p))
side_square p q s =
    let f = difference (part s) (part q) in let g = difference (part q) (part p) in let h = difference (part s) (part p) in
    same (product f f) (difference (sum (product g g) (product h h)) (product (number 2) (product g h))) (omega arith)

both_sides : (a b c d f g : ℤ) → (a +ℤ b -ℤ pos 2 *ℤ f) +ℤ (c +ℤ d -ℤ pos 2 *ℤ g) ≡ (a +ℤ c) +ℤ (b +ℤ d) -ℤ pos 2 *ℤ (f +ℤ g)
both_sides a b c d f g = omega (arith, ints)

third_side : (p q s : Point) → squared_distance q s ≡ squared_distance p q +ℤ squared_distance p s -ℤ pos 2 *ℤ dot p q s
third_side p q s =
    (λ i. side_square p.x q.x s.x i +ℤ side_square p.y q.y s.y i)
    ∙ both_sides (square (q.x -ℤ p.x)) (square (s.x -ℤ p.x)) (square (q.y -ℤ p.y)) (square (s.y -ℤ p.y)) ((q.x -ℤ p.x) *ℤ (s.x -ℤ p.x)) ((q.y -ℤ p.y) *ℤ (s.y -ℤ p.y))

pub least_turned : (p q s : Point) (over under : ℤ) → IsLeast p q s over under → IsLeast q s p over under
least_turned p q s over under h = record { above = h.above; centre = centre_turned p q s over under h.centre; weights = weights_turned p q s over under h.weights }

wide_least : (p q s : Point) → (squared_distance q s +ℤ squared_distance s p) ≤ℤ squared_distance p q → IsLeast p q s (squared_distance p q) (pos 1)
wide_least p q s h = record { above = omega (arith, ints); centre = wide_centre p q s h; weights = wide_weights p q s }

-- the longest side by which of the three it is
longest_least : (p q s : Point) → is_wide (squared_distance p q) (squared_distance q s) (squared_distance s p) ≡ true
    → IsLeast p q s (largest (squared_distance p q) (squared_distance q s) (squared_distance s p)) (pos 1)
longest_least p q s h =
    let a = squared_distance p q in
    let b = squared_distance q s in
    let c = squared_distance s p in
    let P : ℤ → Type 0 = λ k. IsLeast p q s k (pos 1) in
    let low : (a +ℤ b +ℤ c -ℤ largest a b c) ≤ℤ largest a b c = le_true (a +ℤ b +ℤ c -ℤ largest a b c) (largest a b c) h in
    by_lt_z a (int_max b c)
    (λ l. by_lt_z b c
    (λ m. let is : c ≡ largest a b c = omega (arith, ints, clamps) in subst P is (least_turned s p q c (pos 1) (wide_least s p q (omega (arith, ints)))))
    (λ m. let is : b ≡ largest a b c = omega (arith, ints, clamps) in
    subst P is (least_turned s p q b (pos 1) (least_turned q s p b (pos 1) (wide_least q s p (omega (arith, ints)))))))
    (λ l. let is : a ≡ largest a b c = omega (arith, ints, clamps) in subst P is (wide_least p q s (omega (arith, ints))))
  where
    le_true : (x y : ℤ) → int_le x y ≡ true → x ≤ℤ y
    le_true x y h = grind (arith, ints)

corners_least : (p q s : Point) → is_wide (squared_distance p q) (squared_distance q s) (squared_distance s p) ≡ false
    → IsLeast p q s (squared_distance p q *ℤ squared_distance q s *ℤ squared_distance s p) (square (cross p q s))
corners_least p q s h =
    let a = squared_distance p q in
    let b = squared_distance q s in
    let c = squared_distance s p in
    let P : ℤ → Type 0 = λ k. IsLeast p q s k (square (cross p q s)) in
    let long : largest a b c <ℤ (a +ℤ b +ℤ c -ℤ largest a b c) = le_false (a +ℤ b +ℤ c -ℤ largest a b c) (largest a b c) h in
    let third = third_side p q s in
    let back = swapped s p in
    let first_short : a <ℤ (b +ℤ c) = omega (arith, ints, clamps) in
    let second_short : b <ℤ (a +ℤ c) = omega (arith, ints, clamps) in
    let third_short : c <ℤ (a +ℤ b) = omega (arith, ints, clamps) in
    subst P (λ i. a *ℤ sym third i *ℤ sym back i) (sharp_least p q s (omega (arith, ints)) (omega (arith, ints)) (omega (arith, ints)))
  where
    le_false : (x y : ℤ) → int_le x y ≡ false → y <ℤ x
    le_false x y h = grind (arith, ints)

by_width : (p q s : Point) (w : Bool) (l k d : ℤ) → (w ≡ true → IsLeast p q s l (pos 1)) → (w ≡ false → IsLeast p q s k d)
    → IsLeast p q s (if w then l else k) (if w then pos 1 else d)
by_width p q s true l k d f g = f refl
by_width p q s false l k d f g = g refl

pub least_is : (p q s : Point) → IsLeast p q s (least_over p q s) (least_under p q s)
least_is p q s = by_width p q s (is_wide (squared_distance p q) (squared_distance q s) (squared_distance s p)) _ _ _ (longest_least p q s) (corners_least p q s)

-- ---- the fraction tells whether the points fit
fit_by : (w : Bool) (l k d width : ℤ) → (if w then int_le l width else int_le k (width *ℤ d)) ≡ int_le (if w then l else k) (width *ℤ (if w then pos 1 else d))
fit_by true l k d width = ap (λ v. int_le l v) (sym (times_one width))
fit_by false l k d width = refl

pub three_fit-least : (r : ℤ) (p q s : Point) → three_fit r p q s ≡ int_le (least_over p q s) (squared_width r *ℤ least_under p q s)
three_fit-least r p q s = fit_by (is_wide (squared_distance p q) (squared_distance q s) (squared_distance s p)) _ _ _ (squared_width r)

-- ---- a circle of another size round the same centre
scaled : (over under m n z way : ℤ) → under *ℤ room m n z way ≡ z *ℤ (m *ℤ under -ℤ n *ℤ over) +ℤ n *ℤ room over under z way
scaled over under m n z way =
    let here = λ (i j : ℤ). difference (product (part i) (part z)) (product (product (number 4) (part j)) (part way)) in
    same (product (part under) (here m n))
    (sum (product (part z) (difference (product (part m) (part under)) (product (part n) (part over)))) (product (part n) (here over under))) (omega arith)

pub scaled_least : (over under m n z way : ℤ) → pos 0 <ℤ under → pos 0 ≤ℤ n → pos 0 <ℤ z → pos 0 ≤ℤ room over under z way → pos 0 ≤ℤ (m *ℤ under -ℤ n *ℤ over) → pos 0 ≤ℤ room m n z way
scaled_least over under m n z way u p q h g =
    let P : ℤ → Type 0 = λ k. pos 0 ≤ℤ k in
    let first = product_least z (m *ℤ under -ℤ n *ℤ over) (omega (arith, ints)) g in
    let second = product_least n (room over under z way) p h in
    cancel_least under (room m n z way) u (subst P (sym (scaled over under m n z way)) (both _ _ first second))
  where
    both : (a b : ℤ) → pos 0 ≤ℤ a → pos 0 ≤ℤ b → pos 0 ≤ℤ (a +ℤ b)
    both a b h g = omega (arith, ints)

pub scaled_above : (over under m n z way : ℤ) → pos 0 <ℤ under → pos 0 ≤ℤ n → pos 0 <ℤ z → pos 0 ≤ℤ room over under z way → pos 0 <ℤ (m *ℤ under -ℤ n *ℤ over) → pos 0 <ℤ room m n z way
scaled_above over under m n z way u p q h g =
    let P : ℤ → Type 0 = λ k. pos 0 <ℤ k in
    let first = product_above z (m *ℤ under -ℤ n *ℤ over) q g in
    let second = product_least n (room over under z way) p h in
    cancel_above under (room m n z way) u (subst P (sym (scaled over under m n z way)) (both _ _ first second))
  where
    both : (a b : ℤ) → pos 0 <ℤ a → pos 0 ≤ℤ b → pos 0 <ℤ (a +ℤ b)
    both a b h g = omega (arith, ints)
