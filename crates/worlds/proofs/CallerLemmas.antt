-- For the crates above: the squares of the least and of the greatest distance of objects that move along lines, and what an
-- atom sees.
use Rattle.std.proofs.Common.{◌≡◌, ℕ, ◌+◌, ◌-◌, ◌*◌, ◌≤◌, Bool, true, false, not, ℤ, pos, negsuc, ◌+ℤ◌, ◌-ℤ◌, ◌*ℤ◌, ◌≤ℤ◌, unsigned_abs, ap, inl, inr, subst, arith}
use Rattle.std.specs.Prelude.{◌==◌, if◌then◌else◌}
use Rattle.std.specs.Option.{option_map_or}
use Rattle.std.proofs.lemmas.Bool.{cases_lt, or_left, or_right}
use Rattle.std.proofs.lemmas.Int.{ints}
use Rattle.std.proofs.lemmas.Nat.{mul-le}
use Rattle.exact.proofs.Ring.{part, number, sum, product, same}
use Rattle.exact.proofs.Naturals.{equals_itself}
use Rattle.fixed_point.specs.declared.number.Point.{Point}
use Rattle.geometry.specs.Plane.{square}
use Rattle.formula.specs.declared.tree.RAtom.{RAtom}
use Rattle.formula.specs.declared.tree.RAtom.TheVariants as atoms
use Rattle.formula.specs.declared.value.Env.{Env}
use Rattle.formula.specs.Variables.{atom_has}
use Rattle.history.specs.History.{cells_at}
use Rattle.history.specs.World.{World}
use Rattle.meaning.specs.Atom.{position_in}
use Rattle.meaning.specs.Trace.{trace_of}
use Rattle.meaning.proofs.LocalityLemmas.{atom_same}
use Rattle.worlds.specs.Apart.{farthest_square, least_apart, most_apart, nearest_square, possibly_compares, surely_compares}
use Rattle.worlds.specs.Blurred.{blurred, distance_holds_by, is_in_region_by, possibly_holds, surely_holds}
use Rattle.worlds.specs.Inside.{is_possibly_inside, is_surely_inside}
use Rattle.worlds.proofs.ApartLemmas.{squares_rise}

-- ---- they are convex

-- the size of a number, with so much added and so much taken away, as far as that goes
abbrev widened : ℕ → ℕ → ℤ → ℕ
widened more less d = unsigned_abs d + more - less

-- the sum of the squares of two such, of numbers that change by so much at each tick
abbrev squares_after : ℕ → ℕ → ℤ → ℤ → ℤ → ℤ → ℕ → ℤ
squares_after more less x y dx dy k =
    square (pos (widened more less (x +ℤ dx *ℤ pos k))) +ℤ square (pos (widened more less (y +ℤ dy *ℤ pos k)))

on_a_line : (x dx : ℤ) (k : ℕ) → (x +ℤ dx *ℤ pos k) +ℤ (x +ℤ dx *ℤ pos (k + 2)) ≡ (x +ℤ dx *ℤ pos (k + 1)) +ℤ (x +ℤ dx *ℤ pos (k + 1))
on_a_line x dx k =
    same (sum (sum (part x) (product (part dx) (number k))) (sum (part x) (product (part dx) (number (k + 2)))))
    (sum (sum (part x) (product (part dx) (number (k + 1)))) (sum (part x) (product (part dx) (number (k + 1))))) (omega arith)

sizes_bend : (a b c : ℤ) → a +ℤ c ≡ b +ℤ b → unsigned_abs b + unsigned_abs b ≤ unsigned_abs a + unsigned_abs c
sizes_bend (pos a) (pos b) (pos c) e = omega (arith, ints, e)
sizes_bend (pos a) (pos b) (negsuc c) e = omega (arith, ints, e)
sizes_bend (pos a) (negsuc b) (pos c) e = omega (arith, ints, e)
sizes_bend (pos a) (negsuc b) (negsuc c) e = omega (arith, ints, e)
sizes_bend (negsuc a) (pos b) (pos c) e = omega (arith, ints, e)
sizes_bend (negsuc a) (pos b) (negsuc c) e = omega (arith, ints, e)
sizes_bend (negsuc a) (negsuc b) (pos c) e = omega (arith, ints, e)
sizes_bend (negsuc a) (negsuc b) (negsuc c) e = omega (arith, ints, e)

offs_bend : (a b c more less : ℕ) → b + b ≤ a + c → (b + more - less) + (b + more - less) ≤ (a + more - less) + (c + more - less)
offs_bend a b c more less h = omega arith

twice_from : (a d : ℕ) → a * (a + d) + a * (a + d) ≤ a * a + (a + d) * (a + d)
twice_from a d = omega arith

twice : (a c : ℕ) → a * c + a * c ≤ a * a + c * c
twice a c =
    elim (cases_lt a c) [
      | inl below ↦
          let e : a + (c - a) ≡ c = omega arith in
          subst (λ (n : ℕ). a * n + a * n ≤ a * a + n * n) e (twice_from a (c - a))
      | inr from ↦
          let e : c + (a - c) ≡ a = omega arith in
          subst (λ (n : ℕ). n * c + n * c ≤ n * n + c * c) e (twice_back c (a - c))
    ]
  where
    twice_back : (c d : ℕ) → (c + d) * c + (c + d) * c ≤ (c + d) * (c + d) + c * c
    twice_back c d = omega arith

squares_bend_up : (a b c : ℕ) → b + b ≤ a + c → b * b + b * b ≤ a * a + c * c
squares_bend_up a b c h =
    let both : (b + b) * (b + b) ≤ (a + c) * (a + c) = mul-le (b + b) (b + b) (a + c) (a + c) h h in
    let mixed = twice a c in
    omega (arith, both, mixed)

one_axis_bends : (more less : ℕ) (x dx : ℤ) (k : ℕ) →
    let f = λ (n : ℕ). widened more less (x +ℤ dx *ℤ pos n) in f (k + 1) * f (k + 1) + f (k + 1) * f (k + 1) ≤ f k * f k + f (k + 2) * f (k + 2)
one_axis_bends more less x dx k =
    let at = λ (n : ℕ). x +ℤ dx *ℤ pos n in
    squares_bend_up (widened more less (at k)) (widened more less (at (k + 1))) (widened more less (at (k + 2)))
    (offs_bend (unsigned_abs (at k)) (unsigned_abs (at (k + 1))) (unsigned_abs (at (k + 2))) more less
    (sizes_bend (at k) (at (k + 1)) (at (k + 2)) (on_a_line x dx k)))

sums_bend : (a b c d e f : ℕ) → b + b ≤ a + c → e + e ≤ d + f → ((pos b +ℤ pos e) +ℤ (pos b +ℤ pos e)) ≤ℤ ((pos a +ℤ pos d) +ℤ (pos c +ℤ pos f))
sums_bend a b c d e f h k = omega (arith, ints, h, k)

-- from each number to the next they rise no less than before
pub squares_bend : (more less : ℕ) (x y dx dy : ℤ) (k : ℕ) →
    (squares_after more less x y dx dy (k + 1) +ℤ squares_after more less x y dx dy (k + 1)) ≤ℤ (squares_after more less x y dx dy k +ℤ squares_after more less x y dx dy (k + 2))
squares_bend more less x y dx dy k =
    let f = λ (n : ℕ). widened more less (x +ℤ dx *ℤ pos n) in
    let g = λ (n : ℕ). widened more less (y +ℤ dy *ℤ pos n) in
    sums_bend (f k * f k) (f (k + 1) * f (k + 1)) (f (k + 2) * f (k + 2)) (g k * g k) (g (k + 1) * g (k + 1)) (g (k + 2) * g (k + 2))
    (one_axis_bends more less x dx k) (one_axis_bends more less y dy k)

-- ---- the least is at most the greatest

rise_on_both : (a b c d : ℤ) → a ≤ℤ b → c ≤ℤ d → (a +ℤ c) ≤ℤ (b +ℤ d)
rise_on_both a b c d h k = omega (arith, ints, h, k)

pub nearest_at_most : (error : ℕ) (p q : Point) → nearest_square error p q ≤ℤ farthest_square error p q
nearest_at_most error p q =
    let x = q.x -ℤ p.x in
    let y = q.y -ℤ p.y in
    rise_on_both (square (pos (least_apart error x))) (square (pos (most_apart error x))) (square (pos (least_apart error y))) (square (pos (most_apart error y)))
    (squares_rise (least_apart error x) (most_apart error x) (omega arith)) (squares_rise (least_apart error y) (most_apart error y) (omega arith))

-- ---- what an atom sees

surely_sees : (error : ℕ) (w : World) (b c : ℕ → ℕ) (a : RAtom) → ((v : ℕ) → atom_has v a ≡ true → b v ≡ c v) → (x : Env) (t : ℕ)
    → surely_holds error w.regions (trace_of w.history b) b a x t ≡ surely_holds error w.regions (trace_of w.history c) c a x t
surely_sees error w b c (atoms.Compare q op r) same x t =
    atom_same w.regions (trace_of w.history b) (trace_of w.history c) (atoms.Compare q op r) x t (λ v has. ap (λ id. cells_at w.history id t) (same v has))
surely_sees error w b c (atoms.Inside v n) same x t =
    ap (λ id. option_map_or (is_in_region_by (is_surely_inside error) w.regions n) (position_in t (cells_at w.history id t)) false) (same v (equals_itself v))
surely_sees error w b c (atoms.Outside v n) same x t =
    ap (λ id. option_map_or (λ p. not (is_in_region_by (is_possibly_inside error) w.regions n p)) (position_in t (cells_at w.history id t)) false) (same v (equals_itself v))
surely_sees error w b c (atoms.Dist v u op k) same x t =
    let first = same v (or_left (v == v) (u == v) (equals_itself v)) in
    let second = same u (or_right (v == u) (u == u) (equals_itself u)) in
    λ i. distance_holds_by surely_compares (if first i == second i then 0 else error) op k (position_in t (cells_at w.history (first i) t)) (position_in t (cells_at w.history (second i) t))
surely_sees error w b c (atoms.Sphere r vs) same x t =
    atom_same w.regions (trace_of w.history b) (trace_of w.history c) (atoms.Sphere r vs) x t (λ v has. ap (λ id. cells_at w.history id t) (same v has))

possibly_sees : (error : ℕ) (w : World) (b c : ℕ → ℕ) (a : RAtom) → ((v : ℕ) → atom_has v a ≡ true → b v ≡ c v) → (x : Env) (t : ℕ)
    → possibly_holds error w.regions (trace_of w.history b) b a x t ≡ possibly_holds error w.regions (trace_of w.history c) c a x t
possibly_sees error w b c (atoms.Compare q op r) same x t =
    atom_same w.regions (trace_of w.history b) (trace_of w.history c) (atoms.Compare q op r) x t (λ v has. ap (λ id. cells_at w.history id t) (same v has))
possibly_sees error w b c (atoms.Inside v n) same x t =
    ap (λ id. option_map_or (is_in_region_by (is_possibly_inside error) w.regions n) (position_in t (cells_at w.history id t)) false) (same v (equals_itself v))
possibly_sees error w b c (atoms.Outside v n) same x t =
    ap (λ id. option_map_or (λ p. not (is_in_region_by (is_surely_inside error) w.regions n p)) (position_in t (cells_at w.history id t)) false) (same v (equals_itself v))
possibly_sees error w b c (atoms.Dist v u op k) same x t =
    let first = same v (or_left (v == v) (u == v) (equals_itself v)) in
    let second = same u (or_right (v == u) (u == u) (equals_itself u)) in
    λ i. distance_holds_by possibly_compares (if first i == second i then 0 else error) op k (position_in t (cells_at w.history (first i) t)) (position_in t (cells_at w.history (second i) t))
possibly_sees error w b c (atoms.Sphere r vs) same x t =
    atom_same w.regions (trace_of w.history b) (trace_of w.history c) (atoms.Sphere r vs) x t (λ v has. ap (λ id. cells_at w.history id t) (same v has))

-- an atom depends on the objects of its own variables alone
pub blurred_sees : (sure : Bool) (error : ℕ) (w : World) (b c : ℕ → ℕ) (a : RAtom) → ((v : ℕ) → atom_has v a ≡ true → b v ≡ c v) → (x : Env) (t : ℕ)
    → (blurred sure error w b).atom a x t ≡ (blurred sure error w c).atom a x t
blurred_sees true error w = surely_sees error w
blurred_sees false error w = possibly_sees error w
