-- Squares of the distances of places that are off, and how what lies between two numbers compares.
use Rattle.std.proofs.Common.{◌≡◌, ℕ, ◌+◌, ◌-◌, ◌*◌, ◌≤◌, Bool, true, false, ℤ, pos, negsuc, ◌+ℤ◌, ◌-ℤ◌, ◌≤ℤ◌, unsigned_abs, refl, ap, subst, ◌∙◌, arith}
use Rattle.std.specs.Prelude.{int_le, if◌then◌else◌}
use Rattle.std.proofs.lemmas.Bool.Decides.{nat_tests}
use Rattle.std.proofs.lemmas.Int.{ints}
use Rattle.std.proofs.lemmas.Nat.{mul-le}
use Rattle.case_table.specs.Comparison.{compares, sign_holds}
use Rattle.case_table.specs.declared.compare.Op.{Op}
use Rattle.case_table.specs.declared.compare.Op.TheVariants.{Lt, Le, Eq, Ne, Ge, Gt}
use Rattle.fixed_point.specs.declared.number.Point.{Point}
use Rattle.geometry.specs.Distance.{distance_compares}
use Rattle.geometry.specs.Plane.{square, squared_distance}
use Rattle.worlds.specs.Apart.{distance_compares_by, farthest_square, least_apart, most_apart, nearest_square, possibly_compares, surely_compares}
use Rattle.exact.proofs.Integers.{within_size}

-- ---- sizes

-- a number lies between two others
pub record LiesIn (low high s : ℤ) : Type 0 where
  pub least : low ≤ℤ s
  pub most : s ≤ℤ high

sizes_near : (d d' : ℤ) (m : ℕ) → LiesIn (d -ℤ pos m) (d +ℤ pos m) d' → (unsigned_abs d - m ≤ unsigned_abs d') × (unsigned_abs d' ≤ unsigned_abs d + m)
sizes_near (pos a) (pos b) m h = (omega (arith, ints, h.least, h.most), omega (arith, ints, h.least, h.most))
sizes_near (pos a) (negsuc b) m h = (omega (arith, ints, h.least, h.most), omega (arith, ints, h.least, h.most))
sizes_near (negsuc a) (pos b) m h = (omega (arith, ints, h.least, h.most), omega (arith, ints, h.least, h.most))
sizes_near (negsuc a) (negsuc b) m h = (omega (arith, ints, h.least, h.most), omega (arith, ints, h.least, h.most))

square_of_size : (d : ℤ) → square (pos (unsigned_abs d)) ≡ square d
square_of_size (pos n) = refl
square_of_size (negsuc n) = refl

pub squares_rise : (m n : ℕ) → m ≤ n → square (pos m) ≤ℤ square (pos n)
squares_rise m n h = let larger : m * m ≤ n * n = mul-le m m n n h h in omega (arith, ints, larger)

off_by : (a b a' b' : ℤ) (m : ℕ) → unsigned_abs (a' -ℤ a) ≤ m → unsigned_abs (b' -ℤ b) ≤ m → LiesIn ((b -ℤ a) -ℤ pos (2 * m)) ((b -ℤ a) +ℤ pos (2 * m)) (b' -ℤ a')
off_by a b a' b' m h k =
    let one = within_size (a' -ℤ a) m h in
    let two = within_size (b' -ℤ b) m k in
    record { least = omega (arith, ints, one.1, two.0); most = omega (arith, ints, one.0, two.1) }

one_axis : (error : ℕ) (d d' : ℤ) → LiesIn (d -ℤ pos (2 * error)) (d +ℤ pos (2 * error)) d' →
    LiesIn (square (pos (least_apart error d))) (square (pos (most_apart error d))) (square d')
one_axis error d d' h =
    let sizes = sizes_near d d' (2 * error) h in
    let least = squares_rise (least_apart error d) (unsigned_abs d') sizes.0 in
    let most = squares_rise (unsigned_abs d') (most_apart error d) sizes.1 in
    record {
      least = subst (λ (s : ℤ). square (pos (least_apart error d)) ≤ℤ s) (square_of_size d') least;
      most = subst (λ (s : ℤ). s ≤ℤ square (pos (most_apart error d))) (square_of_size d') most;
    }

both_axes : (a b s c d u : ℤ) → LiesIn a b s → LiesIn c d u → LiesIn (a +ℤ c) (b +ℤ d) (s +ℤ u)
both_axes a b s c d u h k = record {
  least = omega (arith, ints, h.least, k.least);
  most = omega (arith, ints, h.most, k.most);
}

-- a place is at most so far from another along each axis
pub record IsNear (error : ℕ) (p q : Point) : Type 0 where
  pub along_x : unsigned_abs (q.x -ℤ p.x) ≤ error
  pub along_y : unsigned_abs (q.y -ℤ p.y) ≤ error

squares_by : (error : ℕ) (p q p' q' : Point)
    → LiesIn ((q.x -ℤ p.x) -ℤ pos (2 * error)) ((q.x -ℤ p.x) +ℤ pos (2 * error)) (q'.x -ℤ p'.x)
    → LiesIn ((q.y -ℤ p.y) -ℤ pos (2 * error)) ((q.y -ℤ p.y) +ℤ pos (2 * error)) (q'.y -ℤ p'.y)
    → LiesIn (nearest_square error p q) (farthest_square error p q) (squared_distance p' q')
squares_by error p q p' q' x y =
    both_axes
    (square (pos (least_apart error (q.x -ℤ p.x)))) (square (pos (most_apart error (q.x -ℤ p.x)))) (square (q'.x -ℤ p'.x))
    (square (pos (least_apart error (q.y -ℤ p.y)))) (square (pos (most_apart error (q.y -ℤ p.y)))) (square (q'.y -ℤ p'.y))
    (one_axis error (q.x -ℤ p.x) (q'.x -ℤ p'.x) x) (one_axis error (q.y -ℤ p.y) (q'.y -ℤ p'.y) y)

unmoved : (a b a' b' : ℤ) → a ≡ b → a' ≡ b' → LiesIn ((b -ℤ a) -ℤ pos (2 * 0)) ((b -ℤ a) +ℤ pos (2 * 0)) (b' -ℤ a')
unmoved a b a' b' e f = record { least = omega (arith, ints, e, f); most = omega (arith, ints, e, f) }

-- the squares of two places that are off, or of one place that is off and itself
pub squares_lie : (same : Bool) (error : ℕ) (p q p' q' : Point) → (same ≡ true → (p ≡ q) × (p' ≡ q')) → IsNear error p p' → IsNear error q q'
    → LiesIn (nearest_square (if same then 0 else error) p q) (farthest_square (if same then 0 else error) p q) (squared_distance p' q')
squares_lie true error p q p' q' one h k =
    let e = one refl in
    squares_by 0 p q p' q'
    (unmoved p.x q.x p'.x q'.x (ap (λ (r : Point). r.x) e.0) (ap (λ (r : Point). r.x) e.1))
    (unmoved p.y q.y p'.y q'.y (ap (λ (r : Point). r.y) e.0) (ap (λ (r : Point). r.y) e.1))
squares_lie false error p q p' q' one h k =
    squares_by error p q p' q'
    (off_by p.x q.x p'.x q'.x error h.along_x k.along_x)
    (off_by p.y q.y p'.y q'.y error h.along_y k.along_y)

-- ---- without an error

least_0 : (d : ℤ) → square (pos (least_apart 0 d)) ≡ square d
least_0 d = ap (λ (n : ℕ). square (pos n)) (omega arith) ∙ square_of_size d

most_0 : (d : ℤ) → square (pos (most_apart 0 d)) ≡ square d
most_0 d = ap (λ (n : ℕ). square (pos n)) (omega arith) ∙ square_of_size d

pub nearest_0 : (p q : Point) → nearest_square 0 p q ≡ squared_distance p q
nearest_0 p q = λ i. least_0 (q.x -ℤ p.x) i +ℤ least_0 (q.y -ℤ p.y) i

pub farthest_0 : (p q : Point) → farthest_square 0 p q ≡ squared_distance p q
farthest_0 p q = λ i. most_0 (q.x -ℤ p.x) i +ℤ most_0 (q.y -ℤ p.y) i

-- ---- comparisons

pub surely_right : (op : Op) (low high s x : ℤ) → LiesIn low high s → surely_compares op low high x ≡ true → compares op s x ≡ true
surely_right Lt low high s x between h = let most = between.most in grind (arith, ints, nat_tests)
surely_right Le low high s x between h = let most = between.most in grind (arith, ints, nat_tests)
surely_right Eq low high s x between h = let most = between.most in let least = between.least in grind (arith, ints, nat_tests)
surely_right Ne low high s x between h = let most = between.most in let least = between.least in grind (arith, ints, nat_tests)
surely_right Ge low high s x between h = let least = between.least in grind (arith, ints, nat_tests)
surely_right Gt low high s x between h = let least = between.least in grind (arith, ints, nat_tests)

pub possibly_right : (op : Op) (low high s x : ℤ) → LiesIn low high s → compares op s x ≡ true → possibly_compares op low high x ≡ true
possibly_right Lt low high s x between h = let least = between.least in grind (arith, ints, nat_tests)
possibly_right Le low high s x between h = let least = between.least in grind (arith, ints, nat_tests)
possibly_right Eq low high s x between h = let most = between.most in let least = between.least in grind (arith, ints, nat_tests)
possibly_right Ne low high s x between h = let most = between.most in let least = between.least in grind (arith, ints, nat_tests)
possibly_right Ge low high s x between h = let most = between.most in grind (arith, ints, nat_tests)
possibly_right Gt low high s x between h = let most = between.most in grind (arith, ints, nat_tests)

pub surely_same : (op : Op) (s x : ℤ) → surely_compares op s s x ≡ compares op s x
surely_same Lt s x = refl
surely_same Le s x = refl
surely_same Eq s x = grind (arith, ints, nat_tests)
surely_same Ne s x = grind (arith, ints, nat_tests)
surely_same Ge s x = refl
surely_same Gt s x = refl

pub possibly_same : (op : Op) (s x : ℤ) → possibly_compares op s s x ≡ compares op s x
possibly_same Lt s x = refl
possibly_same Le s x = refl
possibly_same Eq s x = grind (arith, ints, nat_tests)
possibly_same Ne s x = grind (arith, ints, nat_tests)
possibly_same Ge s x = refl
possibly_same Gt s x = refl

-- ---- distances

by_branch : (b u v w : Bool) → (u ≡ true → v ≡ true) → (if b then u else w) ≡ true → (if b then v else w) ≡ true
by_branch true u v w more h = more h
by_branch false u v w more h = h

pub surely_apart : (op : Op) (c low high s : ℤ) → LiesIn low high s → distance_compares_by surely_compares op c low high ≡ true → distance_compares op c s ≡ true
surely_apart op c low high s lies =
    by_branch (int_le (pos 0) c) (surely_compares op low high (square c)) (compares op s (square c)) (sign_holds op (pos 1))
    (surely_right op low high s (square c) lies)

pub possibly_apart : (op : Op) (c low high s : ℤ) → LiesIn low high s → distance_compares op c s ≡ true → distance_compares_by possibly_compares op c low high ≡ true
possibly_apart op c low high s lies =
    by_branch (int_le (pos 0) c) (compares op s (square c)) (possibly_compares op low high (square c)) (sign_holds op (pos 1))
    (possibly_right op low high s (square c) lies)
