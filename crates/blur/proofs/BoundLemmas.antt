-- Bounds of the square of a distance, by the motions.
use Rattle.std.proofs.Common.{◌≡◌, ℕ, ◌*◌, ℤ, pos, ◌+ℤ◌, ◌-ℤ◌, ◌*ℤ◌, ◌∙◌, arith}
use Rattle.exact.proofs.Ring.{part, number, sum, difference, product, same}
use Rattle.fixed_point.specs.declared.number.Point.{Point}
use Rattle.geometry.specs.Plane.{square}
use Rattle.worlds.specs.Apart.{farthest_square, least_apart, most_apart, nearest_square}
use Rattle.linear_crossing.specs.declared.quad.Line.{Line}
use Rattle.linear_crossing.specs.Moving.{position_after}
use Rattle.blur.specs.Widened.{squares_after, widened, widened_square}

regrouped : (x y v w : ℤ) (k : ℕ) → (x -ℤ y) +ℤ (v -ℤ w) *ℤ pos k ≡ (x +ℤ v *ℤ pos k) -ℤ (y +ℤ w *ℤ pos k)
regrouped x y v w k =
    same (sum (difference (part x) (part y)) (product (difference (part v) (part w)) (number k)))
    (difference (sum (part x) (product (part v) (number k))) (sum (part y) (product (part w) (number k)))) (omega arith)

-- the difference of two numbers that change by so much at each tick
differ_after : (x y v w u d : ℤ) (k : ℕ) → u ≡ x -ℤ y → d ≡ v -ℤ w → u +ℤ d *ℤ pos k ≡ (x +ℤ v *ℤ pos k) -ℤ (y +ℤ w *ℤ pos k)
differ_after x y v w u d k e f = (λ i. e i +ℤ f i *ℤ pos k) ∙ regrouped x y v w k

-- the squares of the relative motion are those of the two motions
pub squares_of : (x y dx dy : ℤ) (n m : ℕ) (from to : Line) (more less : ℕ) → x ≡ to.at.x -ℤ from.at.x → y ≡ to.at.y -ℤ from.at.y
    → dx ≡ to.dx -ℤ from.dx → dy ≡ to.dy -ℤ from.dy → n ≡ more → m ≡ less
    → (k : ℕ) → squares_after n m x y dx dy k ≡ widened_square more less (position_after from k) (position_after to k)
squares_of x y dx dy n m from to more less of_x of_y of_dx of_dy e f k =
    let along_x = differ_after to.at.x from.at.x to.dx from.dx x dx k of_x of_dx in
    let along_y = differ_after to.at.y from.at.y to.dy from.dy y dy k of_y of_dy in
    λ i. square (pos (widened (e i) (f i) (along_x i))) +ℤ square (pos (widened (e i) (f i) (along_y i)))

least_size : (error less : ℕ) (d : ℤ) → less ≡ 2 * error → widened 0 less d ≡ least_apart error d
least_size error less d e = omega (arith, e)

most_size : (error more : ℕ) (d : ℤ) → more ≡ 2 * error → widened more 0 d ≡ most_apart error d
most_size error more d e = omega (arith, e)

pub least_is : (error less : ℕ) (p q : Point) → less ≡ 2 * error → widened_square 0 less p q ≡ nearest_square error p q
least_is error less p q e = λ i. square (pos (least_size error less (q.x -ℤ p.x) e i)) +ℤ square (pos (least_size error less (q.y -ℤ p.y) e i))

pub most_is : (error more : ℕ) (p q : Point) → more ≡ 2 * error → widened_square more 0 p q ≡ farthest_square error p q
most_is error more p q e = λ i. square (pos (most_size error more (q.x -ℤ p.x) e i)) +ℤ square (pos (most_size error more (q.y -ℤ p.y) e i))
