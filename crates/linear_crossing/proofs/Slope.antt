-- By how much the squared distance changes from one tick to the next, and where that stops being negative.
use Rattle.std.proofs.Common.{◌≡◌, ℕ, ◌+◌, ◌*◌, ◌<◌, ◌≤◌, ℤ, pos, unsigned_abs, ◌+ℤ◌, ◌*ℤ◌, ◌≤ℤ◌, ◌<ℤ◌, nat_le, int_le, sym, ap, ◌∙◌, arith}
use Rattle.std.proofs.lemmas.Bool.Decides.{nat_tests}
use Rattle.std.proofs.lemmas.Int.{ints}
use Rattle.exact.specs.Rising.{DropsTo, RisesIn}
use Rattle.exact.proofs.Ring.{part, number, sum, product, same}
use Rattle.geometry.proofs.Squares.{square_is}
use Rattle.geometry.specs.Plane.{square}
use Rattle.linear_crossing.specs.Relative.{Relative, squared_distance_at}

-- one coordinate that moves by d
coordinate_step : (x d k : ℤ) → square (x +ℤ d *ℤ (k +ℤ pos 1)) ≡ square (x +ℤ d *ℤ k) +ℤ (pos 2 *ℤ (d *ℤ d) *ℤ k +ℤ (d *ℤ d +ℤ pos 2 *ℤ (x *ℤ d)))
coordinate_step x d k =
    let next = sum (part x) (product (part d) (sum (part k) (number 1))) in
    let now = sum (part x) (product (part d) (part k)) in
    let speed = product (part d) (part d) in
    same (product next next)
    (sum (product now now) (sum (product (product (number 2) speed) (part k)) (sum speed (product (number 2) (product (part x) (part d)))))) (omega arith)

-- both coordinates, with their changes added up
added : (u v a b c d k : ℤ)
    → (u +ℤ (pos 2 *ℤ a *ℤ k +ℤ (a +ℤ pos 2 *ℤ c))) +ℤ (v +ℤ (pos 2 *ℤ b *ℤ k +ℤ (b +ℤ pos 2 *ℤ d)))
    ≡ (u +ℤ v) +ℤ (pos 2 *ℤ (a +ℤ b) *ℤ k +ℤ ((a +ℤ b) +ℤ pos 2 *ℤ (c +ℤ d)))
added u v a b c d k =
    let twice = λ (p : ℤ). product (number 2) (part p) in
    let s = sum (part a) (part b) in
    let t = sum (part c) (part d) in
    same
    (sum (sum (part u) (sum (product (twice a) (part k)) (sum (part a) (twice c)))) (sum (part v) (sum (product (twice b) (part k)) (sum (part b) (twice d)))))
    (sum (sum (part u) (part v)) (sum (product (product (number 2) s) (part k)) (sum s (product (number 2) t)))) (omega arith)

-- twice the square of the speed, by which the change itself grows
abbrev pub growth : Relative → ℤ
growth m = pos 2 *ℤ (m.dx *ℤ m.dx +ℤ m.dy *ℤ m.dy)

-- the change over the first tick
abbrev pub first_change : Relative → ℤ
first_change m = (m.dx *ℤ m.dx +ℤ m.dy *ℤ m.dy) +ℤ pos 2 *ℤ (m.x *ℤ m.dx +ℤ m.y *ℤ m.dy)

value_step : (m : Relative) (k : ℕ) → squared_distance_at m (k + 1) ≡ squared_distance_at m k +ℤ (growth m *ℤ pos k +ℤ first_change m)
value_step m k =
    (λ i. coordinate_step m.x m.dx (pos k) i +ℤ coordinate_step m.y m.dy (pos k) i)
    ∙ added (square (m.x +ℤ m.dx *ℤ pos k)) (square (m.y +ℤ m.dy *ℤ pos k)) (m.dx *ℤ m.dx) (m.dy *ℤ m.dy) (m.x *ℤ m.dx) (m.y *ℤ m.dy) (pos k)

-- v is the first number below n at which the change is not negative, and n where there is none
pub record IsTurn (m : Relative) (n v : ℕ) : Type 0 where
  pub bound : v ≤ n
  pub turn : (k : ℕ) → k < n → int_le (pos 0) (growth m *ℤ pos k +ℤ first_change m) ≡ nat_le v k

squares_are : (x y : ℤ) → pos (unsigned_abs (x *ℤ x +ℤ y *ℤ y)) ≡ x *ℤ x +ℤ y *ℤ y
squares_are x y = let a = square_is x in let b = square_is y in omega (arith, ints)

pub squares_at_least : (x y v : ℤ) → v ≡ x *ℤ x +ℤ y *ℤ y → pos 0 ≤ℤ v
squares_at_least x y v e = let s = squares_are x y in omega (arith, ints)

-- as it is computed, from the square of the speed s
pub IsTurn-computed : (m : Relative) (n v r : ℕ) (s b : ℤ) → s ≡ m.dx *ℤ m.dx +ℤ m.dy *ℤ m.dy → r ≡ 2 * unsigned_abs s → b ≡ first_change m → v ≤ n
    → ((k : ℕ) → k < n → int_le (pos 0) (pos r *ℤ pos k +ℤ b) ≡ nat_le v k) → IsTurn m n v
IsTurn-computed m n v r s b e f g l h =
    let whole : pos (unsigned_abs s) ≡ m.dx *ℤ m.dx +ℤ m.dy *ℤ m.dy = ap (λ q. pos (unsigned_abs q)) e ∙ squares_are m.dx m.dy in
    let grown : growth m ≡ pos r = ap (λ q. pos 2 *ℤ q) (sym whole) ∙ ap pos (sym f) in
    record { bound = l; turn = λ k b. (λ i. int_le (pos 0) (grown i *ℤ pos k +ℤ sym g i)) ∙ h k b }

fell : (a b d : ℤ) (v k : ℕ) → a ≡ b +ℤ d → int_le (pos 0) d ≡ nat_le v k → k < v → a <ℤ b
fell a b d v k e t l = grind (arith, ints, nat_tests)

rose : (a b d : ℤ) (v k : ℕ) → a ≡ b +ℤ d → int_le (pos 0) d ≡ nat_le v k → v ≤ k → b ≤ℤ a
rose a b d v k e t l = grind (arith, ints, nat_tests)

pub drops_to_turn : (m : Relative) (n v : ℕ) → IsTurn m n v → DropsTo (squared_distance_at m) v
drops_to_turn m n v h k l =
    fell (squared_distance_at m (k + 1)) (squared_distance_at m k) (growth m *ℤ pos k +ℤ first_change m) v k (value_step m k) (h.turn k (omega (arith, h.bound))) l

pub rises_from_turn : (m : Relative) (n v : ℕ) → IsTurn m n v → RisesIn (squared_distance_at m) v n
rises_from_turn m n v h k l b =
    rose (squared_distance_at m (k + 1)) (squared_distance_at m k) (growth m *ℤ pos k +ℤ first_change m) v k (value_step m k) (h.turn k b) l
