-- The square of a distance is a parabola of the ticks.
use Rattle.std.proofs.Common.{◌≡◌, ℕ, ◌+◌, ◌-◌, ◌*◌, ◌<◌, ◌≤◌, ℤ, pos, negsuc, unsigned_abs, ◌+ℤ◌, ◌-ℤ◌, ◌*ℤ◌, ◌≤ℤ◌, ◌<ℤ◌, inl, inr, refl, ap, subst, ◌∙◌, arith}
use Rattle.std.proofs.lemmas.Int.{ints}
use Rattle.std.proofs.lemmas.Bool.{cases_lt}
use Rattle.std.proofs.lemmas.Nat.{mul-le}
use Rattle.exact.specs.Rising.{FallsTo, RisesIn}
use Rattle.exact.proofs.Convex.{falls, rises}
use Rattle.exact.proofs.Ring.{Parts, part, number, sum, difference, product, same}
use Rattle.convex.specs.Parabola.{parabola}
use Rattle.geometry.specs.Plane.{square}
use Rattle.linear_crossing.proofs.Apart.{apart}
use Rattle.linear_crossing.specs.declared.quad.Line.{Line}
use Rattle.linear_crossing.specs.Moving.{distance_after}
use Rattle.linear_crossing.specs.Relative.{Relative}
use Rattle.nearest.specs.Order.{rise_after}

-- ---- sizes

pub square_of_size : (z : ℤ) → pos (unsigned_abs z * unsigned_abs z) ≡ z *ℤ z
square_of_size (pos n) = refl
square_of_size (negsuc n) = refl

-- ---- parabolas

abbrev squared_ticks : (k : ℕ) → Parts (pos k *ℤ pos k)
squared_ticks k = product (number k) (number k)

one_axis : (x v : ℤ) (k : ℕ) → (v *ℤ v) *ℤ (pos k *ℤ pos k) +ℤ (pos 2 *ℤ (x *ℤ v)) *ℤ pos k +ℤ x *ℤ x ≡ square (x +ℤ v *ℤ pos k)
one_axis x v k =
    same (sum (sum (product (product (part v) (part v)) (squared_ticks k)) (product (product (number 2) (product (part x) (part v))) (number k))) (product (part x) (part x)))
    (product (sum (part x) (product (part v) (number k))) (sum (part x) (product (part v) (number k)))) (omega arith)

both_axes : (a b c d e f : ℤ) (k : ℕ) → (a +ℤ d) *ℤ (pos k *ℤ pos k) +ℤ (pos 2 *ℤ (b +ℤ e)) *ℤ pos k +ℤ (c +ℤ f)
    ≡ (a *ℤ (pos k *ℤ pos k) +ℤ (pos 2 *ℤ b) *ℤ pos k +ℤ c) +ℤ (d *ℤ (pos k *ℤ pos k) +ℤ (pos 2 *ℤ e) *ℤ pos k +ℤ f)
both_axes a b c d e f k =
    same (sum (sum (product (sum (part a) (part d)) (squared_ticks k)) (product (product (number 2) (sum (part b) (part e))) (number k))) (sum (part c) (part f)))
    (sum (sum (sum (product (part a) (squared_ticks k)) (product (product (number 2) (part b)) (number k))) (part c))
    (sum (sum (product (part d) (squared_ticks k)) (product (product (number 2) (part e)) (number k))) (part f))) (omega arith)

-- the parabola of these coefficients tells the square of the distance of two motions
pub separated : (p q : Line) (m : Relative) (a : ℕ) (b c : ℤ) →
    m.x ≡ q.at.x -ℤ p.at.x → m.y ≡ q.at.y -ℤ p.at.y → m.dx ≡ q.dx -ℤ p.dx → m.dy ≡ q.dy -ℤ p.dy →
    pos a ≡ m.dx *ℤ m.dx +ℤ m.dy *ℤ m.dy → b ≡ pos 2 *ℤ (m.x *ℤ m.dx +ℤ m.y *ℤ m.dy) → c ≡ m.x *ℤ m.x +ℤ m.y *ℤ m.y →
    (k : ℕ) → parabola a b c k ≡ distance_after p q k
separated p q m a b c x y dx dy quadratic linear constant k =
    (λ i. quadratic i *ℤ (pos k *ℤ pos k) +ℤ linear i *ℤ pos k +ℤ constant i)
    ∙ both_axes (m.dx *ℤ m.dx) (m.x *ℤ m.dx) (m.x *ℤ m.x) (m.dy *ℤ m.dy) (m.y *ℤ m.dy) (m.y *ℤ m.y) k
    ∙ (λ i. one_axis m.x m.dx k i +ℤ one_axis m.y m.dy k i)
    ∙ apart p q m k x y dx dy

-- ---- one less another

differs_by : (d a : ℕ) (b c e f : ℤ) (k : ℕ) → parabola d (b -ℤ e) (c -ℤ f) k ≡ parabola (d + a) b c k -ℤ parabola a e f k
differs_by d a b c e f k =
    same (sum (sum (product (number d) (squared_ticks k)) (product (difference (part b) (part e)) (number k))) (difference (part c) (part f)))
    (difference (sum (sum (product (number (d + a)) (squared_ticks k)) (product (part b) (number k))) (part c))
    (sum (sum (product (number a) (squared_ticks k)) (product (part e) (number k))) (part f))) (omega arith)

pub differs : (n a : ℕ) (b c e f g h : ℤ) (k : ℕ) → a ≤ n → g ≡ b -ℤ e → h ≡ c -ℤ f → parabola (n - a) g h k ≡ parabola n b c k -ℤ parabola a e f k
differs n a b c e f g h k less linear constant =
    let back : n - a + a ≡ n = omega arith in
    (λ i. parabola (n - a) (linear i) (constant i) k)
    ∙ differs_by (n - a) a b c e f k
    ∙ ap (λ m. parabola m b c k -ℤ parabola a e f k) back

-- ---- falling and rising

abbrev parabola_parts : (a : ℕ) (b c : ℤ) (k : ℕ) → Parts (parabola a b c k)
parabola_parts a b c k = sum (sum (product (number a) (squared_ticks k)) (product (part b) (number k))) (part c)

rises_by : (a : ℕ) (b c : ℤ) (k : ℕ) → parabola a b c (k + 1) ≡ parabola a b c k +ℤ rise_after a b k
rises_by a b c k =
    same (parabola_parts a b c (k + 1)) (sum (parabola_parts a b c k) (sum (product (number a) (number (2 * k + 1))) (part b))) (omega arith)

rises_less : (a : ℕ) (b : ℤ) (k m : ℕ) → k ≤ m → rise_after a b k ≤ℤ rise_after a b m
rises_less a b k m before =
    let odd : 2 * k + 1 ≤ 2 * m + 1 = omega arith in
    let more = mul-le a (2 * k + 1) a (2 * m + 1) (omega arith) odd in
    omega (arith, ints, more)

pub falls_by : (a : ℕ) (b c : ℤ) (m : ℕ) → rise_after a b m <ℤ pos 0 → FallsTo (parabola a b c) (m + 1)
falls_by a b c m falls k below =
    let step = rises_by a b c k in
    let less = rises_less a b k m (omega arith) in
    omega (arith, ints, step, less, falls)

pub rises_on : (a : ℕ) (b c : ℤ) (m n : ℕ) → pos 0 ≤ℤ rise_after a b m → RisesIn (parabola a b c) m n
rises_on a b c m n rises k from below =
    let step = rises_by a b c k in
    let more = rises_less a b m k from in
    omega (arith, ints, step, more, rises)

-- where it falls and then rises it is least between, and at most as much as at one of its ends
pub between_bounds : (f : ℕ → ℤ) (v last : ℕ) (most : ℤ) → FallsTo f v → RisesIn f v last → v ≤ last → f 0 ≤ℤ most → f last ≤ℤ most →
    (k : ℕ) → k ≤ last → (f v ≤ℤ f k) × (f k ≤ℤ most)
between_bounds f v last most fall rise inside first end k below =
    elim (cases_lt k v) [
      | inl before ↦
          let down = falls f v fall 0 k (omega arith) (omega arith) in
          let up = falls f v fall k v (omega arith) (omega arith) in
          (up, omega (arith, ints, down, first))
      | inr past ↦
          let up = rises f v last rise v k (omega arith) past below in
          let on = rises f v last rise k last past below (omega arith) in
          (up, omega (arith, ints, on, end))
    ]

pub at_most_size : (z : ℤ) → z ≤ℤ pos (unsigned_abs z)
at_most_size (pos n) = omega (arith, ints)
at_most_size (negsuc n) = omega (arith, ints)

-- what falls at the step before a number falls up to there
pub falls_before : (a : ℕ) (b c : ℤ) (k : ℕ) → 0 < k → rise_after a b (k - 1) <ℤ pos 0 → FallsTo (parabola a b c) k
falls_before a b c k some fall =
    let next : k - 1 + 1 ≡ k = omega (arith, some) in
    subst (λ (n : ℕ). FallsTo (parabola a b c) n) next (falls_by a b c (k - 1) fall)
