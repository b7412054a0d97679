-- The least and the greatest coordinates of points, gathered one point after another.
use Rattle.std.proofs.Common.{◌≡◌, ◌-◌, ◌<◌, Bool, true, false, ℤ, ◌≤ℤ◌, List, [], ◌∷◌, Contains, map, reverse, length, take, drop, get_or, ◌⊎◌, inl, inr, refl, ap, sym, subst, ◌∙◌, arith}
use Rattle.std.specs.Prelude.{fold, int_le}
use Rattle.std.specs.Int.{int_min, int_max}
use Rattle.std.specs.List.{list_all}
use Rattle.std.specs.Cmp.Derive.{both_true}
use Rattle.std.proofs.lemmas.Bool.Decides.{nat_tests}
use Rattle.std.proofs.lemmas.Int.{ints, fold-int_min_reached, fold-int_max_reached}
use Rattle.std.proofs.lemmas.List.{take_all, length-reverse, reverse-reverse}
use Rattle.std.proofs.lemmas.List.Elements.{Contains-append_right, Contains-get_or}
use Rattle.std.proofs.lemmas.List.Sorted.{IsPermutation-reverse, Contains-permutation}
use Rattle.indexmap.proofs.ReorderLemmas.{map-reverse}
use Rattle.exact.proofs.Lists.{list_all_from, list_all_gives}
use Rattle.exact.proofs.Integers.{at_most_passes}
use Rattle.fixed_point.specs.declared.number.Point.{Point}
use Rattle.geometry.specs.Plane.{point}
use Rattle.polygon.specs.Bounds.{is_in_box, AreBounds}
use Rattle.polygon.specs.Given.{points_as_given, IsStoredPolygon}

abbrev pub lesser : Point → Point → Point
lesser p q = point (int_min p.x q.x) (int_min p.y q.y)

abbrev pub greater : Point → Point → Point
greater p q = point (int_max p.x q.x) (int_max p.y q.y)

-- ---- the coordinates of the points that are gathered are gathered alone
least-x : (p : Point) (others : List Point) → (fold lesser p others).x ≡ fold int_min p.x (map (λ q. q.x) others)
least-x p [] = refl
least-x p (q ∷ others) = least-x (lesser p q) others

least-y : (p : Point) (others : List Point) → (fold lesser p others).y ≡ fold int_min p.y (map (λ q. q.y) others)
least-y p [] = refl
least-y p (q ∷ others) = least-y (lesser p q) others

greatest-x : (p : Point) (others : List Point) → (fold greater p others).x ≡ fold int_max p.x (map (λ q. q.x) others)
greatest-x p [] = refl
greatest-x p (q ∷ others) = greatest-x (greater p q) others

greatest-y : (p : Point) (others : List Point) → (fold greater p others).y ≡ fold int_max p.y (map (λ q. q.y) others)
greatest-y p [] = refl
greatest-y p (q ∷ others) = greatest-y (greater p q) others

-- ---- what is gathered of one coordinate is a bound, and is reached
below_both : (m a b : ℤ) → m ≤ℤ int_min a b → (m ≤ℤ a) × (m ≤ℤ b)
below_both m a b h = (grind (arith, ints, nat_tests), grind (arith, ints, nat_tests))

above_both : (m a b : ℤ) → int_max a b ≤ℤ m → (a ≤ℤ m) × (b ≤ℤ m)
above_both m a b h = (grind (arith, ints, nat_tests), grind (arith, ints, nat_tests))

below_all : (f : Point → ℤ) (m a : ℤ) (others : List Point) → m ≤ℤ fold int_min a (map f others) → (m ≤ℤ a) × (list_all (λ q. int_le m (f q)) others ≡ true)
below_all f m a [] h = (h, refl)
below_all f m a (q ∷ others) h =
    let later = below_all f m (int_min a (f q)) others h in
    let both = below_both m a (f q) later.0 in
    (both.0, both_true (at_most_passes m (f q) both.1) later.1)

above_all : (f : Point → ℤ) (m a : ℤ) (others : List Point) → fold int_max a (map f others) ≤ℤ m → (a ≤ℤ m) × (list_all (λ q. int_le (f q) m) others ≡ true)
above_all f m a [] h = (h, refl)
above_all f m a (q ∷ others) h =
    let later = above_all f m (int_max a (f q)) others h in
    let both = above_both m a (f q) later.0 in
    (both.0, both_true (at_most_passes (f q) m both.1) later.1)

itself : (r a : ℤ) → r ≡ a → r ≤ℤ a
itself r a e = omega (arith, ints, e)

reached : (a r : ℤ) (zs : List ℤ) → (r ≡ a) ⊎ Contains zs r → Contains (a ∷ zs) r
reached a r zs (inl e) = let P : ℤ → Type 0 = Contains (a ∷ zs) in subst P (sym e) (Contains-get_or (a ∷ zs) 0 a (omega arith))
reached a r zs (inr h) = Contains-append_right (a ∷ []) zs r h

record Least (f : Point → ℤ) (points : List Point) (r : ℤ) : Type 0 where
  pub bound : list_all (λ q. int_le r (f q)) points ≡ true
  pub found : Contains (map f points) r

record Greatest (f : Point → ℤ) (points : List Point) (r : ℤ) : Type 0 where
  pub bound : list_all (λ q. int_le (f q) r) points ≡ true
  pub found : Contains (map f points) r

least_is : (f : Point → ℤ) (first : Point) (others : List Point) (r : ℤ) → r ≡ fold int_min (f first) (map f others) → Least f (first ∷ others) r
least_is f first others r e =
    let below = below_all f r (f first) others (itself r (fold int_min (f first) (map f others)) e) in
    record {
      bound = both_true (at_most_passes r (f first) below.0) below.1;
      found = reached (f first) r (map f others) (fold-int_min_reached (f first) (map f others) r e);
    }

greatest_is : (f : Point → ℤ) (first : Point) (others : List Point) (r : ℤ) → r ≡ fold int_max (f first) (map f others) → Greatest f (first ∷ others) r
greatest_is f first others r e =
    let above = above_all f r (f first) others (itself (fold int_max (f first) (map f others)) r (sym e)) in
    record {
      bound = both_true (at_most_passes (f first) r above.0) above.1;
      found = reached (f first) r (map f others) (fold-int_max_reached (f first) (map f others) r e);
    }

pub bounds_hold : (first : Point) (others : List Point) (least greatest : Point) → least ≡ fold lesser first others → greatest ≡ fold greater first others → AreBounds (first ∷ others) least greatest
bounds_hold first others least greatest e f =
    let lx = least_is (λ p. p.x) first others least.x (ap (λ p. p.x) e ∙ least-x first others) in
    let ly = least_is (λ p. p.y) first others least.y (ap (λ p. p.y) e ∙ least-y first others) in
    let gx = greatest_is (λ p. p.x) first others greatest.x (ap (λ p. p.x) f ∙ greatest-x first others) in
    let gy = greatest_is (λ p. p.y) first others greatest.y (ap (λ p. p.y) f ∙ greatest-y first others) in
    record {
      among = list_all_from (is_in_box least greatest) (first ∷ others)
          (λ q c. both_true (both_true (both_true
          (list_all_gives (λ p. int_le least.x p.x) (first ∷ others) lx.bound q c)
          (list_all_gives (λ p. int_le p.x greatest.x) (first ∷ others) gx.bound q c))
          (list_all_gives (λ p. int_le least.y p.y) (first ∷ others) ly.bound q c))
          (list_all_gives (λ p. int_le p.y greatest.y) (first ∷ others) gy.bound q c));
      least_x = lx.found;
      least_y = ly.found;
      greatest_x = gx.found;
      greatest_y = gy.found;
    }

-- ---- the points of a polygon have the bounds of those that it keeps
pub from_reverse : (points : List Point) (q : Point) → Contains (reverse points) q → Contains points q
from_reverse points q c =
    let P : List Point → Type 0 = λ qs. Contains qs q in
    subst P (reverse-reverse points) (Contains-permutation (reverse points) (reverse (reverse points)) q (IsPermutation-reverse (reverse points)) c)

found_reversed : (f : Point → ℤ) (points : List Point) (r : ℤ) → Contains (map f points) r → Contains (map f (reverse points)) r
found_reversed f points r c =
    let P : List ℤ → Type 0 = λ zs. Contains zs r in
    subst P (sym (map-reverse f points)) (Contains-permutation (map f points) (reverse (map f points)) r (IsPermutation-reverse (map f points)) c)

reversed_bounds : (points : List Point) (least greatest : Point) → AreBounds points least greatest → AreBounds (reverse points) least greatest
reversed_bounds points least greatest h = record {
  among = list_all_from (is_in_box least greatest) (reverse points) (λ q c. list_all_gives (is_in_box least greatest) points h.among q (from_reverse points q c));
  least_x = found_reversed (λ p. p.x) points least.x h.least_x;
  least_y = found_reversed (λ p. p.y) points least.y h.least_y;
  greatest_x = found_reversed (λ p. p.x) points greatest.x h.greatest_x;
  greatest_y = found_reversed (λ p. p.y) points greatest.y h.greatest_y;
}

given_bounds : (points : List Point) (reversed : Bool) (least greatest : Point) → AreBounds points least greatest → AreBounds (points_as_given points reversed) least greatest
given_bounds points true least greatest h = reversed_bounds points least greatest h
given_bounds points false least greatest h = h

first_and_others : (points : List Point) (first : Point) → 0 < length points → first ≡ get_or points 0 first → first ∷ take (length points - 1) (drop 1 points) ≡ points
first_and_others [] first some e = absurd (omega arith)
first_and_others (p ∷ rest) first some e = let all : take (length (p ∷ rest) - 1) rest ≡ rest = take_all (length (p ∷ rest) - 1) rest (omega arith) in λ i. e i ∷ all i

given_length : (points : List Point) (reversed : Bool) → length (points_as_given points reversed) ≡ length points
given_length points true = length-reverse points
given_length points false = refl

pub kept_bounds : (points whole : List Point) (reversed : Bool) (first least greatest : Point) → IsStoredPolygon points reversed → points_as_given points reversed ≡ whole → first ≡ get_or points 0 first
    → AreBounds (first ∷ take (length points - 1) (drop 1 points)) least greatest → AreBounds whole least greatest
kept_bounds points whole reversed first least greatest kept seen at_first h =
    let enough = kept.polygon.enough in
    let some : 0 < length points = omega (arith, enough, given_length points reversed) in
    let P : List Point → Type 0 = λ qs. AreBounds qs least greatest in
    subst P seen (given_bounds points reversed least greatest (subst P (first_and_others points first some at_first) h))
