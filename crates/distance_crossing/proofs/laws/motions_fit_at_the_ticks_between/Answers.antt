use Rattle.std.proofs.Common.{◌≡◌, ℕ, ◌≤◌, Bool, true, false, ◌&&◌, if◌then◌else◌, List, [], ◌∷◌, ℤ, pos, ◌+ℤ◌, ◌-ℤ◌, ◌≤ℤ◌, int_le, refl, sym, ap, ◌∙◌, arith}
use Rattle.std.proofs.lemmas.Bool.{and_parts}
use Rattle.std.proofs.lemmas.Int.{ints, clamps}
use Rattle.exact.proofs.Ring.{part, difference, number, same}
use Rattle.fixed_point.specs.declared.number.Point.{Point}
use Rattle.geometry.specs.Circle.{fits, is_wide, largest, sides_fit, squared_width, three_fit, two_fit}
use Rattle.geometry.specs.Plane.{cross, square, squared_distance}
use Rattle.linear_crossing.specs.Moving.{position_after}
use Rattle.linear_crossing.specs.declared.quad.Line.{Line}
use Rattle.distance_crossing.specs.NearTicks.{positions_after}
use Rattle.distance_crossing.proofs.CircleTicks.{fit_between}
use Rattle.distance_crossing.proofs.LeastCircles.{swapped}
use Rattle.distance_crossing.proofs.Triangles.{squares_not_negative}
use Rattle.distance_crossing.proofs.laws.motions_fit_at_the_ticks_between.Goals as goal

-- ---- two points are three of which two are the same
largest_is : (a : ℤ) → pos 0 ≤ℤ a → largest a (pos 0) a ≡ a
largest_is a h = omega (arith, ints, clamps)

is_flat : (a l : ℤ) → l ≡ a → int_le (a +ℤ pos 0 +ℤ a -ℤ l) l ≡ true
is_flat a l e = grind (arith, ints, e)

by_true : (w : Bool) (x y : Bool) → w ≡ true → (if w then x else y) ≡ x
by_true true x y e = refl
by_true false x y e = absurd (cc)

flat_fits : (r a area : ℤ) → pos 0 ≤ℤ a → sides_fit r a (pos 0) a area ≡ int_le a (squared_width r)
flat_fits r a area h =
    by_true (is_wide a (pos 0) a) _ _ (is_flat a (largest a (pos 0) a) (largest_is a h)) ∙ ap (λ l. int_le l (squared_width r)) (largest_is a h)

no_side : (x y : ℤ) → square (x -ℤ x) +ℤ square (y -ℤ y) ≡ pos 0
no_side x y = ap (λ k. square k +ℤ square (y -ℤ y)) (nothing x) ∙ ap (λ k. pos 0 +ℤ square k) (nothing y)
  where
    nothing : (z : ℤ) → z -ℤ z ≡ pos 0
    nothing z = same (difference (part z) (part z)) (number 0) (omega arith)

two_are_three : (r : ℤ) (p q : Point) → three_fit r p q q ≡ two_fit r p q
two_are_three r p q =
    (λ i. sides_fit r (squared_distance p q) (no_side q.x q.y i) (swapped q p i) (cross p q q))
    ∙ flat_fits r (squared_distance p q) (cross p q q) (squares_not_negative p q)

two_between : (r : ℤ) (p q : Line) (i j k : ℕ) → i ≤ j → j ≤ k → two_fit r (position_after p i) (position_after q i) ≡ true
    → two_fit r (position_after p k) (position_after q k) ≡ true → two_fit r (position_after p j) (position_after q j) ≡ true
two_between r p q i j k l m f g =
    let at = λ (t : ℕ). two_are_three r (position_after p t) (position_after q t) in
    sym (at j) ∙ fit_between p q q r i j k l m (at i ∙ f) (at k ∙ g)

all_four : (a b c d : Bool) → a ≡ true → b ≡ true → c ≡ true → d ≡ true → (((a && b) && c) && d) ≡ true
all_four a b c d e f g h = grind (arith, e, f, g, h)

between : (r : ℤ) (lines : List Line) (i j k : ℕ) → i ≤ j → j ≤ k → fits r (positions_after lines i) ≡ true → fits r (positions_after lines k) ≡ true
    → fits r (positions_after lines j) ≡ true
between r [] i j k l m f g = refl
between r (p ∷ []) i j k l m f g = refl
between r (p ∷ q ∷ []) i j k l m f g = two_between r p q i j k l m f g
between r (p ∷ q ∷ s ∷ []) i j k l m f g = fit_between p q s r i j k l m f g
between r (p ∷ q ∷ s ∷ u ∷ []) i j k l m f g =
    let three = and_parts _ _ f in let two = and_parts _ _ three.0 in let one = and_parts _ _ two.0 in
    let three' = and_parts _ _ g in let two' = and_parts _ _ three'.0 in let one' = and_parts _ _ two'.0 in
    all_four _ _ _ _ (fit_between p q s r i j k l m one.0 one'.0) (fit_between p q u r i j k l m one.1 one'.1)
    (fit_between p s u r i j k l m two.1 two'.1) (fit_between q s u r i j k l m three.1 three'.1)
between r (p ∷ q ∷ s ∷ u ∷ v ∷ rest) i j k l m f g = f

pub returns : goal.returns
returns c = λ r lines i j k l m f g. between r lines i j k l m f g
