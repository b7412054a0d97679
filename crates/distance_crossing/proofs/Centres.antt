-- Circles round three points, over whole numbers. A centre is (x / z, y / z), and the square of a diameter is over / under.
-- A fraction is that of the least circle where some circle of it holds the points, and where weights show that no smaller one does.
use Rattle.std.proofs.Common.{◌≡◌, ℤ, pos, ◌+ℤ◌, ◌-ℤ◌, ◌*ℤ◌, ◌≤ℤ◌, ◌<ℤ◌, subst, ap, sym, ◌∙◌, arith}
use Rattle.std.proofs.lemmas.Int.{ints}
use Rattle.exact.proofs.Ring.{part, number, sum, difference, product, same}
use Rattle.exact.proofs.Integers.{product_least}
use Rattle.fixed_point.specs.declared.number.Point.{Point}
use Rattle.geometry.specs.Plane.{square}
use Rattle.distance_crossing.proofs.Signs.{product_above, square_least, cancel_least, cancel_above}

-- the squared way from the centre to a point, in units of 1 / z
abbrev pub away : ℤ → ℤ → ℤ → Point → ℤ
away x y z p = square (z *ℤ p.x -ℤ x) +ℤ square (z *ℤ p.y -ℤ y)

-- how much room the circle of the squared diameter m / n leaves behind a point that is so far away from its centre, where z is the square of the unit
abbrev pub room : ℤ → ℤ → ℤ → ℤ → ℤ
room m n z way = m *ℤ z -ℤ pos 4 *ℤ n *ℤ way

-- the circle round a centre holds the points
pub record Centre (p q s : Point) (over under : ℤ) : Type 0 where
  pub x : ℤ
  pub y : ℤ
  pub z : ℤ
  pub unit : pos 0 <ℤ square z
  pub first : pos 0 ≤ℤ room over under (square z) (away x y z p)
  pub second : pos 0 ≤ℤ room over under (square z) (away x y z q)
  pub third : pos 0 ≤ℤ room over under (square z) (away x y z s)

-- by how much the weighted ways are above what a circle of the squared diameter over / under can hold
abbrev pub excess : ℤ → ℤ → ℤ → ℤ → ℤ → ℤ → ℤ → ℤ → ℤ
excess over z l m n first second third = pos 2 *ℤ (l *ℤ first +ℤ m *ℤ second +ℤ n *ℤ third) -ℤ z *ℤ over

-- weights of the points by which no smaller circle holds them
pub record Weights (p q s : Point) (over under : ℤ) : Type 0 where
  pub l : ℤ
  pub m : ℤ
  pub n : ℤ
  pub l_least : pos 0 ≤ℤ l
  pub m_least : pos 0 ≤ℤ m
  pub n_least : pos 0 ≤ℤ n
  pub whole : l +ℤ m +ℤ n ≡ pos 2 *ℤ under
  pub covers : (x y z : ℤ) → pos 0 ≤ℤ excess over (square z) l m n (away x y z p) (away x y z q) (away x y z s)

-- ---- a circle that holds the points is not smaller than the least one
weighted : (m n z over u v w a b c : ℤ)
    → u *ℤ room m n z a +ℤ v *ℤ room m n z b +ℤ w *ℤ room m n z c +ℤ pos 2 *ℤ n *ℤ excess over z u v w a b c
    ≡ z *ℤ (m *ℤ (u +ℤ v +ℤ w) -ℤ pos 2 *ℤ n *ℤ over)
weighted m n z over u v w a b c =
    let here = λ (k : ℤ). difference (product (part m) (part z)) (product (product (number 4) (part n)) (part k)) in
    let all = sum (sum (product (part u) (part a)) (product (part v) (part b))) (product (part w) (part c)) in
    same
    (sum (sum (sum (product (part u) (here a)) (product (part v) (here b))) (product (part w) (here c)))
    (product (product (number 2) (part n)) (difference (product (number 2) all) (product (part z) (part over)))))
    (product (part z) (difference (product (part m) (sum (sum (part u) (part v)) (part w))) (product (product (number 2) (part n)) (part over)))) (omega arith)

twice : (m n over under : ℤ) → m *ℤ (pos 2 *ℤ under) -ℤ pos 2 *ℤ n *ℤ over ≡ pos 2 *ℤ (m *ℤ under -ℤ n *ℤ over)
twice m n over under =
    same (difference (product (part m) (product (number 2) (part under))) (product (product (number 2) (part n)) (part over)))
    (product (number 2) (difference (product (part m) (part under)) (product (part n) (part over)))) (omega arith)

sum_least : (a b c d : ℤ) → pos 0 ≤ℤ a → pos 0 ≤ℤ b → pos 0 ≤ℤ c → pos 0 ≤ℤ d → pos 0 ≤ℤ (a +ℤ b +ℤ c +ℤ d)
sum_least a b c d e f g h = omega (arith, ints)

half_least : (t : ℤ) → pos 0 ≤ℤ (pos 2 *ℤ t) → pos 0 ≤ℤ t
half_least t h = omega (arith, ints)

half_above : (t : ℤ) → pos 0 <ℤ (pos 2 *ℤ t) → pos 0 <ℤ t
half_above t h = omega (arith, ints)

-- a product with a factor above 0 is no less than the other factor
one_more : (u a : ℤ) → u *ℤ a ≡ u *ℤ (a -ℤ pos 1) +ℤ u
one_more u a = same (product (part u) (part a)) (sum (product (part u) (difference (part a) (number 1))) (part u)) (omega arith)

product_more : (u a : ℤ) → pos 0 ≤ℤ u → pos 0 <ℤ a → u ≤ℤ (u *ℤ a)
product_more u a p q = let rest = product_least u (a -ℤ pos 1) p (omega (arith, ints)) in let is = one_more u a in omega (arith, ints)

sum_above : (a b c d u v w t : ℤ) → u ≤ℤ a → v ≤ℤ b → w ≤ℤ c → pos 0 ≤ℤ d → u +ℤ v +ℤ w ≡ pos 2 *ℤ t → pos 0 <ℤ t → pos 0 <ℤ (a +ℤ b +ℤ c +ℤ d)
sum_above a b c d u v w t e f g h i j = omega (arith, ints)

twice_least : (n : ℤ) → pos 0 ≤ℤ n → pos 0 ≤ℤ (pos 2 *ℤ n)
twice_least n h = omega (arith, ints)

module _ (p q s : Point) (over under m n x y z : ℤ) (h : Weights p q s over under) (n_least : pos 0 ≤ℤ n) (unit : pos 0 <ℤ square z) where
  spread : h.l *ℤ room m n (square z) (away x y z p) +ℤ h.m *ℤ room m n (square z) (away x y z q) +ℤ h.n *ℤ room m n (square z) (away x y z s)
      +ℤ pos 2 *ℤ n *ℤ excess over (square z) h.l h.m h.n (away x y z p) (away x y z q) (away x y z s)
      ≡ square z *ℤ (pos 2 *ℤ (m *ℤ under -ℤ n *ℤ over))
  spread =
      weighted m n (square z) over h.l h.m h.n (away x y z p) (away x y z q) (away x y z s)
      ∙ ap (λ k. square z *ℤ (m *ℤ k -ℤ pos 2 *ℤ n *ℤ over)) h.whole
      ∙ ap (λ k. square z *ℤ k) (twice m n over under)

  covered : pos 0 ≤ℤ (pos 2 *ℤ n *ℤ excess over (square z) h.l h.m h.n (away x y z p) (away x y z q) (away x y z s))
  covered = product_least (pos 2 *ℤ n) (excess over (square z) h.l h.m h.n (away x y z p) (away x y z q) (away x y z s)) (twice_least n n_least) (h.covers x y z)

  pub held_least : pos 0 ≤ℤ room m n (square z) (away x y z p) → pos 0 ≤ℤ room m n (square z) (away x y z q) → pos 0 ≤ℤ room m n (square z) (away x y z s)
      → pos 0 ≤ℤ (m *ℤ under -ℤ n *ℤ over)
  held_least a b c =
      let P : ℤ → Type 0 = λ k. pos 0 ≤ℤ k in
      half_least (m *ℤ under -ℤ n *ℤ over) (cancel_least (square z) (pos 2 *ℤ (m *ℤ under -ℤ n *ℤ over)) unit
      (subst P spread (sum_least _ _ _ _ (product_least h.l _ h.l_least a) (product_least h.m _ h.m_least b) (product_least h.n _ h.n_least c) covered)))

  pub held_above : pos 0 <ℤ under → pos 0 <ℤ room m n (square z) (away x y z p) → pos 0 <ℤ room m n (square z) (away x y z q) → pos 0 <ℤ room m n (square z) (away x y z s)
      → pos 0 <ℤ (m *ℤ under -ℤ n *ℤ over)
  held_above u a b c =
      let P : ℤ → Type 0 = λ k. pos 0 <ℤ k in
      half_above (m *ℤ under -ℤ n *ℤ over) (cancel_above (square z) (pos 2 *ℤ (m *ℤ under -ℤ n *ℤ over)) unit
      (subst P spread (sum_above _ _ _ _ h.l h.m h.n under (product_more h.l _ h.l_least a) (product_more h.m _ h.m_least b) (product_more h.n _ h.n_least c) covered h.whole u)))

-- ---- between two circles lies a third, as large at most
square_between : (u v a b : ℤ) → square (u *ℤ a +ℤ v *ℤ b) ≡ (u +ℤ v) *ℤ (u *ℤ square a +ℤ v *ℤ square b) -ℤ u *ℤ v *ℤ square (a -ℤ b)
square_between u v a b =
    let x = sum (product (part u) (part a)) (product (part v) (part b)) in
    let d = difference (part a) (part b) in
    same (product x x)
    (difference (product (sum (part u) (part v)) (sum (product (part u) (product (part a) (part a))) (product (part v) (product (part b) (part b)))))
    (product (product (part u) (part v)) (product d d))) (omega arith)

square-product : (a b : ℤ) → square (a *ℤ b) ≡ square a *ℤ square b
square-product a b =
    let x = product (part a) (part b) in
    same (product x x) (product (product (part a) (part a)) (product (part b) (part b))) (omega arith)

square_parts : (u v t : ℤ) → square (u +ℤ v) *ℤ t ≡ (u +ℤ v) *ℤ (u *ℤ t +ℤ v *ℤ t)
square_parts u v t =
    let w = sum (part u) (part v) in
    same (product (product w w) (part t)) (product w (sum (product (part u) (part t)) (product (part v) (part t)))) (omega arith)

-- a coordinate between two others, in the unit of the centre between two centres
offset-out : (u v z w a x y : ℤ) → ((u +ℤ v) *ℤ (z *ℤ w)) *ℤ a -ℤ (u *ℤ (w *ℤ x) +ℤ v *ℤ (z *ℤ y)) ≡ (z *ℤ w) *ℤ ((u +ℤ v) *ℤ a) -ℤ (u *ℤ (w *ℤ x) +ℤ v *ℤ (z *ℤ y))
offset-out u v z w a x y =
    let c = sum (product (part u) (product (part w) (part x))) (product (part v) (product (part z) (part y))) in
    let t = sum (part u) (part v) in let zw = product (part z) (part w) in
    same (difference (product (product t zw) (part a)) c) (difference (product zw (product t (part a))) c) (omega arith)

offset-in : (u v z w b c x y : ℤ) → (z *ℤ w) *ℤ (u *ℤ b +ℤ v *ℤ c) -ℤ (u *ℤ (w *ℤ x) +ℤ v *ℤ (z *ℤ y))
    ≡ u *ℤ (w *ℤ (z *ℤ b -ℤ x)) +ℤ v *ℤ (z *ℤ (w *ℤ c -ℤ y))
offset-in u v z w b c x y =
    same
    (difference (product (product (part z) (part w)) (sum (product (part u) (part b)) (product (part v) (part c))))
    (sum (product (part u) (product (part w) (part x))) (product (part v) (product (part z) (part y)))))
    (sum (product (part u) (product (part w) (difference (product (part z) (part b)) (part x)))) (product (part v) (product (part z) (difference (product (part w) (part c)) (part y)))))
    (omega arith)

offset : (u v z w a b c x y : ℤ) → (u +ℤ v) *ℤ a ≡ u *ℤ b +ℤ v *ℤ c
    → ((u +ℤ v) *ℤ (z *ℤ w)) *ℤ a -ℤ (u *ℤ (w *ℤ x) +ℤ v *ℤ (z *ℤ y)) ≡ u *ℤ (w *ℤ (z *ℤ b -ℤ x)) +ℤ v *ℤ (z *ℤ (w *ℤ c -ℤ y))
offset u v z w a b c x y e =
    offset-out u v z w a x y ∙ ap (λ k. (z *ℤ w) *ℤ k -ℤ (u *ℤ (w *ℤ x) +ℤ v *ℤ (z *ℤ y))) e ∙ offset-in u v z w b c x y

-- its square
offset_square : (u v z w a b c x y : ℤ) → (u +ℤ v) *ℤ a ≡ u *ℤ b +ℤ v *ℤ c
    → square (((u +ℤ v) *ℤ (z *ℤ w)) *ℤ a -ℤ (u *ℤ (w *ℤ x) +ℤ v *ℤ (z *ℤ y)))
    ≡ (u +ℤ v) *ℤ (u *ℤ (square w *ℤ square (z *ℤ b -ℤ x)) +ℤ v *ℤ (square z *ℤ square (w *ℤ c -ℤ y))) -ℤ u *ℤ v *ℤ square (w *ℤ (z *ℤ b -ℤ x) -ℤ z *ℤ (w *ℤ c -ℤ y))
offset_square u v z w a b c x y e =
    ap (λ k. square k) (offset u v z w a b c x y e)
    ∙ square_between u v (w *ℤ (z *ℤ b -ℤ x)) (z *ℤ (w *ℤ c -ℤ y))
    ∙ (λ i. (u +ℤ v) *ℤ (u *ℤ square-product w (z *ℤ b -ℤ x) i +ℤ v *ℤ square-product z (w *ℤ c -ℤ y) i) -ℤ u *ℤ v *ℤ square (w *ℤ (z *ℤ b -ℤ x) -ℤ z *ℤ (w *ℤ c -ℤ y)))

both_squares : (t u v z w a b c d g h : ℤ)
    → (t *ℤ (u *ℤ (w *ℤ a) +ℤ v *ℤ (z *ℤ c)) -ℤ u *ℤ v *ℤ g) +ℤ (t *ℤ (u *ℤ (w *ℤ b) +ℤ v *ℤ (z *ℤ d)) -ℤ u *ℤ v *ℤ h)
    ≡ t *ℤ (u *ℤ (w *ℤ (a +ℤ b)) +ℤ v *ℤ (z *ℤ (c +ℤ d))) -ℤ u *ℤ v *ℤ (g +ℤ h)
both_squares t u v z w a b c d g h =
    let half = λ (k i j : ℤ). difference (product (part t) (sum (product (part u) (product (part w) (part k))) (product (part v) (product (part z) (part i))))) (product (product (part u) (part v)) (part j)) in
    same (sum (half a c g) (half b d h))
    (difference (product (part t) (sum (product (part u) (product (part w) (sum (part a) (part b)))) (product (part v) (product (part z) (sum (part c) (part d)))))) (product (product (part u) (part v)) (sum (part g) (part h))))
    (omega arith)

room_between : (t u v z w m n a c g : ℤ)
    → room m n (t *ℤ (u *ℤ (z *ℤ w) +ℤ v *ℤ (z *ℤ w))) (t *ℤ (u *ℤ (w *ℤ a) +ℤ v *ℤ (z *ℤ c)) -ℤ g)
    ≡ t *ℤ (u *ℤ (w *ℤ room m n z a) +ℤ v *ℤ (z *ℤ room m n w c)) +ℤ pos 4 *ℤ n *ℤ g
room_between t u v z w m n a c g =
    let zw = product (part z) (part w) in
    let four = product (number 4) (part n) in
    let here = λ (k i : ℤ). difference (product (part m) (part k)) (product four (part i)) in
    same
    (difference (product (part m) (product (part t) (sum (product (part u) zw) (product (part v) zw))))
    (product four (difference (product (part t) (sum (product (part u) (product (part w) (part a))) (product (part v) (product (part z) (part c))))) (part g))))
    (sum (product (part t) (sum (product (part u) (product (part w) (here z a))) (product (part v) (product (part z) (here w c))))) (product four (part g)))
    (omega arith)

add_least : (a b : ℤ) → pos 0 ≤ℤ a → pos 0 ≤ℤ b → pos 0 ≤ℤ (a +ℤ b)
add_least a b p q = omega (arith, ints)

add_above : (a b : ℤ) → pos 0 ≤ℤ a → pos 0 <ℤ b → pos 0 <ℤ (a +ℤ b)
add_above a b p q = omega (arith, ints)

more_above : (a b : ℤ) → pos 0 <ℤ a → pos 0 ≤ℤ b → pos 0 <ℤ (a +ℤ b)
more_above a b p q = omega (arith, ints)

weak : (a : ℤ) → pos 0 <ℤ a → pos 0 ≤ℤ a
weak a p = omega (arith, ints)

four_least : (n : ℤ) → pos 0 ≤ℤ n → pos 0 ≤ℤ (pos 4 *ℤ n)
four_least n h = omega (arith, ints)

-- the circles round (x / z, y / z) and (x' / w, y' / w) and one that is so far between them as its points are: u and v are the shares of the other two
module _ (u v m n x y z x' y' w : ℤ) (u_above : pos 0 <ℤ u) (v_above : pos 0 <ℤ v) (n_least : pos 0 ≤ℤ n)
    (unit : pos 0 <ℤ square z) (unit' : pos 0 <ℤ square w) where
  abbrev pub middle : ℤ → ℤ → ℤ
  middle a b = u *ℤ (w *ℤ a) +ℤ v *ℤ (z *ℤ b)

  abbrev pub middle_unit : ℤ
  middle_unit = (u +ℤ v) *ℤ (z *ℤ w)

  total_above : pos 0 <ℤ (u +ℤ v)
  total_above = omega (arith, ints)

  pub unit_above : pos 0 <ℤ square middle_unit
  unit_above =
      let P : ℤ → Type 0 = λ k. pos 0 <ℤ k in
      subst P (sym (square-product (u +ℤ v) (z *ℤ w) ∙ ap (λ k. square (u +ℤ v) *ℤ k) (square-product z w)))
      (product_above (square (u +ℤ v)) (square z *ℤ square w) (product_above (u +ℤ v) (u +ℤ v) total_above total_above) (product_above (square z) (square w) unit unit'))

  module _ (p p' a : Point) (on_x : (u +ℤ v) *ℤ a.x ≡ u *ℤ p.x +ℤ v *ℤ p'.x) (on_y : (u +ℤ v) *ℤ a.y ≡ u *ℤ p.y +ℤ v *ℤ p'.y) where
    abbrev gap : ℤ
    gap = square (w *ℤ (z *ℤ p.x -ℤ x) -ℤ z *ℤ (w *ℤ p'.x -ℤ x')) +ℤ square (w *ℤ (z *ℤ p.y -ℤ y) -ℤ z *ℤ (w *ℤ p'.y -ℤ y'))

    away-middle : away (middle x x') (middle y y') middle_unit a
        ≡ (u +ℤ v) *ℤ (u *ℤ (square w *ℤ away x y z p) +ℤ v *ℤ (square z *ℤ away x' y' w p')) -ℤ u *ℤ v *ℤ gap
    away-middle =
        (λ i. offset_square u v z w a.x p.x p'.x x x' on_x i +ℤ offset_square u v z w a.y p.y p'.y y y' on_y i)
        ∙ both_squares (u +ℤ v) u v (square z) (square w) (square (z *ℤ p.x -ℤ x)) (square (z *ℤ p.y -ℤ y)) (square (w *ℤ p'.x -ℤ x')) (square (w *ℤ p'.y -ℤ y'))
        (square (w *ℤ (z *ℤ p.x -ℤ x) -ℤ z *ℤ (w *ℤ p'.x -ℤ x'))) (square (w *ℤ (z *ℤ p.y -ℤ y) -ℤ z *ℤ (w *ℤ p'.y -ℤ y')))

    square-middle_unit : square middle_unit ≡ (u +ℤ v) *ℤ (u *ℤ (square z *ℤ square w) +ℤ v *ℤ (square z *ℤ square w))
    square-middle_unit =
        square-product (u +ℤ v) (z *ℤ w) ∙ ap (λ k. square (u +ℤ v) *ℤ k) (square-product z w) ∙ square_parts u v (square z *ℤ square w)

    room-middle : room m n (square middle_unit) (away (middle x x') (middle y y') middle_unit a)
        ≡ (u +ℤ v) *ℤ (u *ℤ (square w *ℤ room m n (square z) (away x y z p)) +ℤ v *ℤ (square z *ℤ room m n (square w) (away x' y' w p'))) +ℤ pos 4 *ℤ n *ℤ (u *ℤ v *ℤ gap)
    room-middle =
        (λ i. room m n (square-middle_unit i) (away-middle i))
        ∙ room_between (u +ℤ v) u v (square z) (square w) m n (away x y z p) (away x' y' w p') (u *ℤ v *ℤ gap)

    gap_least : pos 0 ≤ℤ (pos 4 *ℤ n *ℤ (u *ℤ v *ℤ gap))
    gap_least =
        product_least (pos 4 *ℤ n) (u *ℤ v *ℤ gap) (four_least n n_least)
        (product_least (u *ℤ v) gap (product_least u v (weak u u_above) (weak v v_above)) (add_least _ _ (square_least (w *ℤ (z *ℤ p.x -ℤ x) -ℤ z *ℤ (w *ℤ p'.x -ℤ x'))) (square_least (w *ℤ (z *ℤ p.y -ℤ y) -ℤ z *ℤ (w *ℤ p'.y -ℤ y')))))

    share_least : pos 0 ≤ℤ room m n (square z) (away x y z p) → pos 0 ≤ℤ (u *ℤ (square w *ℤ room m n (square z) (away x y z p)))
    share_least h = product_least u (square w *ℤ room m n (square z) (away x y z p)) (weak u u_above) (product_least (square w) (room m n (square z) (away x y z p)) (square_least w) h)

    pub middle_least : pos 0 ≤ℤ room m n (square z) (away x y z p) → pos 0 ≤ℤ room m n (square w) (away x' y' w p')
        → pos 0 ≤ℤ room m n (square middle_unit) (away (middle x x') (middle y y') middle_unit a)
    middle_least h g =
        let P : ℤ → Type 0 = λ k. pos 0 ≤ℤ k in
        subst P (sym room-middle) (add_least _ _ (product_least (u +ℤ v) _ (weak (u +ℤ v) total_above) (add_least _ _ (share_least h)
        (product_least v (square z *ℤ room m n (square w) (away x' y' w p')) (weak v v_above) (product_least (square z) (room m n (square w) (away x' y' w p')) (square_least z) g)))) gap_least)

    pub middle_above : pos 0 ≤ℤ room m n (square z) (away x y z p) → pos 0 <ℤ room m n (square w) (away x' y' w p')
        → pos 0 <ℤ room m n (square middle_unit) (away (middle x x') (middle y y') middle_unit a)
    middle_above h g =
        let P : ℤ → Type 0 = λ k. pos 0 <ℤ k in
        subst P (sym room-middle) (more_above _ _ (product_above (u +ℤ v) _ total_above (add_above _ _ (share_least h)
        (product_above v (square z *ℤ room m n (square w) (away x' y' w p')) v_above (product_above (square z) (room m n (square w) (away x' y' w p')) unit g)))) gap_least)
