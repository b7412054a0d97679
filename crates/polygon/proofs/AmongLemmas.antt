-- A box that has all vertices of a convex polygon has each point inside it. Seen from a point beyond all vertices, the
-- way along each edge would turn to the left or not at all; so the closed way would not turn, and nothing would be on
-- the left of an edge.
use Rattle.std.proofs.Common.{◌≡◌, Bool, true, false, not, ◌&&◌, ◌||◌, ℤ, pos, negsuc, suc, zero, ◌+ℤ◌, ◌-ℤ◌, ◌*ℤ◌, ◌≤ℤ◌, ◌<ℤ◌, List, [], ◌∷◌, Contains, reverse, inl, inr, refl, ap, sym, ◌∙◌, arith}
use Rattle.std.specs.Prelude.{int_le, int_lt, if◌then◌else◌}
use Rattle.std.specs.List.{list_all, list_any}
use Rattle.std.specs.Cmp.Derive.{both_true}
use Rattle.std.proofs.lemmas.Bool.{cases_Bool, and_parts}
use Rattle.std.proofs.lemmas.Bool.Decides.{nat_tests}
use Rattle.std.proofs.lemmas.Int.{ints}
use Rattle.exact.proofs.Lists.{list_all_from, list_all_gives, list_any_gives}
use Rattle.exact.proofs.Ring.{part, number, sum, difference, product, same, at_most}
use Rattle.fixed_point.specs.declared.number.Point.{Point}
use Rattle.geometry.specs.Plane.{cross, is_left_of, is_right_of}
use Rattle.geometry.specs.Polygon.{are_one, edges, edges_back_to, is_convex, is_counterclockwise, is_inside, is_inside_edges}
use Rattle.polygon.specs.Bounds.{is_in_box}
use Rattle.polygon.proofs.BoundLemmas.{from_reverse}

-- ---- signs of products
times_positive : (a y : ℤ) → pos 0 <ℤ a → pos 0 ≤ℤ y → pos 0 ≤ℤ (a *ℤ y)
times_positive (pos n) (pos m) h k = at_most (number 0) (product (number n) (number m)) (omega arith)
times_positive (pos n) (negsuc m) h k = absurd (omega (arith, ints))
times_positive (negsuc n) y h k = absurd (omega (arith, ints))

times_negative : (a y : ℤ) → a <ℤ pos 0 → pos 0 ≤ℤ y → (a *ℤ y) ≤ℤ pos 0
times_negative (negsuc n) (pos m) h k = at_most (product (part (negsuc n)) (number m)) (number 0) (omega (arith, ints))
times_negative (negsuc n) (negsuc m) h k = absurd (omega (arith, ints))
times_negative (pos n) y h k = absurd (omega (arith, ints))

falls_below : (b x : ℤ) → pos 0 <ℤ b → x <ℤ pos 0 → (b *ℤ x) ≤ℤ negsuc 0
falls_below (pos zero) x h k = absurd (omega (arith, ints))
falls_below (pos (suc n)) (negsuc m) h k = at_most (product (number (suc n)) (part (negsuc m))) (part (negsuc 0)) (omega (arith, ints))
falls_below (pos (suc n)) (pos m) h k = absurd (omega (arith, ints))
falls_below (negsuc n) x h k = absurd (omega (arith, ints))

rises_above : (b x : ℤ) → b <ℤ pos 0 → x <ℤ pos 0 → pos 1 ≤ℤ (b *ℤ x)
rises_above (negsuc n) (negsuc m) h k = at_most (number 1) (product (part (negsuc n)) (part (negsuc m))) (omega (arith, ints))
rises_above (negsuc n) (pos m) h k = absurd (omega (arith, ints))
rises_above (pos n) x h k = absurd (omega (arith, ints))

-- x has the sign of y and z, where b x is a y + c z and a, b, c have one sign
signs_above : (a b c x y z : ℤ) → b *ℤ x ≡ a *ℤ y +ℤ c *ℤ z → pos 0 <ℤ a → pos 0 <ℤ b → pos 0 <ℤ c → int_le (pos 0) y ≡ true → int_le (pos 0) z ≡ true → int_le (pos 0) x ≡ true
signs_above a b c x y z e ha hb hc hy hz =
    let one = times_positive a y ha (grind (arith, ints, nat_tests)) in
    let two = times_positive c z hc (grind (arith, ints, nat_tests)) in
    elim (cases_Bool (int_le (pos 0) x)) [
      | inl yes_x ↦ yes_x
      | inr no_x ↦ let down = falls_below b x hb (grind (arith, ints, nat_tests)) in absurd (omega (arith, ints, e, one, two, down))
    ]

signs_below : (a b c x y z : ℤ) → b *ℤ x ≡ a *ℤ y +ℤ c *ℤ z → a <ℤ pos 0 → b <ℤ pos 0 → c <ℤ pos 0 → int_le (pos 0) y ≡ true → int_le (pos 0) z ≡ true → int_le (pos 0) x ≡ true
signs_below a b c x y z e ha hb hc hy hz =
    let one = times_negative a y ha (grind (arith, ints, nat_tests)) in
    let two = times_negative c z hc (grind (arith, ints, nat_tests)) in
    elim (cases_Bool (int_le (pos 0) x)) [
      | inl yes_x ↦ yes_x
      | inr no_x ↦ let up = rises_above b x hb (grind (arith, ints, nat_tests)) in absurd (omega (arith, ints, e, one, two, up))
    ]

-- ---- three ways from one point, and three points seen from a fourth
abbrev turn : ℤ → ℤ → ℤ → ℤ → ℤ
turn ax ay bx by = ax *ℤ by -ℤ ay *ℤ bx

ways-x : (ax ay bx by cx cy : ℤ) → bx *ℤ turn ax ay cx cy ≡ ax *ℤ turn bx by cx cy +ℤ cx *ℤ turn ax ay bx by
ways-x ax ay bx by cx cy =
    let t = λ (a b c d : ℤ). difference (product (part a) (part d)) (product (part b) (part c)) in
    same (product (part bx) (t ax ay cx cy)) (sum (product (part ax) (t bx by cx cy)) (product (part cx) (t ax ay bx by))) (omega arith)

ways-y : (ax ay bx by cx cy : ℤ) → by *ℤ turn ax ay cx cy ≡ ay *ℤ turn bx by cx cy +ℤ cy *ℤ turn ax ay bx by
ways-y ax ay bx by cx cy =
    let t = λ (a b c d : ℤ). difference (product (part a) (part d)) (product (part b) (part c)) in
    same (product (part by) (t ax ay cx cy)) (sum (product (part ay) (t bx by cx cy)) (product (part cy) (t ax ay bx by))) (omega arith)

-- the way from a to b turns to the left as seen from p, or not at all
abbrev pub turns : Point → Point → Point → Bool
turns p a b = int_le (pos 0) (cross p a b)

-- what an edge says of p is what p sees of the edge
seen : (ax ay bx by px py : ℤ) → turn (bx -ℤ ax) (by -ℤ ay) (px -ℤ ax) (py -ℤ ay) ≡ turn (ax -ℤ px) (ay -ℤ py) (bx -ℤ px) (by -ℤ py)
seen ax ay bx by px py =
    let t = λ (ox oy a b c d : ℤ). difference (product (difference (part a) (part ox)) (difference (part d) (part oy))) (product (difference (part b) (part oy)) (difference (part c) (part ox))) in
    same (t ax ay bx by px py) (t px py ax ay bx by) (omega arith)

-- the triangle of a, b and v is made of those with p
parted : (ax ay bx by vx vy : ℤ) → turn (bx -ℤ ax) (by -ℤ ay) (vx -ℤ ax) (vy -ℤ ay) +ℤ (turn bx by ax ay +ℤ (turn vx vy bx by +ℤ turn ax ay vx vy)) ≡ pos 0
parted ax ay bx by vx vy =
    let t = λ (a b c d : ℤ). difference (product (part a) (part d)) (product (part b) (part c)) in
    same
    (sum (difference (product (difference (part bx) (part ax)) (difference (part vy) (part ay))) (product (difference (part by) (part ay)) (difference (part vx) (part ax))))
    (sum (t bx by ax ay) (sum (t vx vy bx by) (t ax ay vx vy))))
    (number 0) (omega arith)

from_p : (a p v : ℤ) → (v -ℤ p) -ℤ (a -ℤ p) ≡ v -ℤ a
from_p a p v = omega (arith, ints)

triangle : (p a b v : Point) → cross a b v +ℤ (cross p b a +ℤ (cross p v b +ℤ cross p a v)) ≡ pos 0
triangle p a b v =
    ap (λ s. s +ℤ (cross p b a +ℤ (cross p v b +ℤ cross p a v)))
    (λ i. turn (sym (from_p a.x p.x b.x) i) (sym (from_p a.y p.y b.y) i) (sym (from_p a.x p.x v.x) i) (sym (from_p a.y p.y v.y) i))
    ∙ parted (a.x -ℤ p.x) (a.y -ℤ p.y) (b.x -ℤ p.x) (b.y -ℤ p.y) (v.x -ℤ p.x) (v.y -ℤ p.y)

on_left : (v : ℤ) → not (int_lt v (pos 0)) ≡ true → int_le (pos 0) v ≡ true
on_left v h = grind (arith, ints, nat_tests)

edge_turns : (p a b : Point) → not (is_right_of (a, b) p) ≡ true → turns p a b ≡ true
edge_turns p a b h =
    let same_sign : cross a b p ≡ cross p a b = seen a.x a.y b.x b.y p.x p.y in
    ap (int_le (pos 0)) (sym same_sign) ∙ on_left (cross a b p) h

-- ---- a closed way round p, of points that lie beyond it in one direction
pub record IsOrdered (p : Point) (beyond : Point → Bool) : Type 0 where
  pub next : (a b c : Point) → beyond a ≡ true → beyond b ≡ true → beyond c ≡ true → turns p a b ≡ true → turns p b c ≡ true → turns p a c ≡ true

module _ (p : Point) (beyond : Point → Bool) (order : IsOrdered p beyond) where
  -- from each point on to the first
  leads_back : (first : Point) (points : List Point) → beyond first ≡ true → list_all beyond points ≡ true → is_inside_edges (edges_back_to first points) p ≡ true → list_all (λ q. turns p q first) points ≡ true
  leads_back first [] f h e = refl
  leads_back first (a ∷ []) f h e = both_true (edge_turns p a first (and_parts (not (is_right_of (a, first) p)) true e).0) refl
  leads_back first (a ∷ b ∷ rest) f h e =
      let edge = and_parts (not (is_right_of (a, b) p)) (is_inside_edges (edges_back_to first (b ∷ rest)) p) e in
      let head = and_parts (beyond a) (list_all beyond (b ∷ rest)) h in
      let second = and_parts (beyond b) (list_all beyond rest) head.1 in
      let later = leads_back first (b ∷ rest) f head.1 edge.1 in
      let on = and_parts (turns p b first) (list_all (λ q. turns p q first) rest) later in
      both_true (order.next a b first head.0 second.0 f (edge_turns p a b edge.0) on.0) later

  -- from the first on to each point
  leads_on : (first a : Point) (rest : List Point) → beyond first ≡ true → list_all beyond (a ∷ rest) ≡ true → is_inside_edges (edges_back_to first (a ∷ rest)) p ≡ true → turns p first a ≡ true → list_all (λ q. turns p first q) (a ∷ rest) ≡ true
  leads_on first a [] f h e from = both_true from refl
  leads_on first a (b ∷ rest) f h e from =
      let edge = and_parts (not (is_right_of (a, b) p)) (is_inside_edges (edges_back_to first (b ∷ rest)) p) e in
      let head = and_parts (beyond a) (list_all beyond (b ∷ rest)) h in
      let second = and_parts (beyond b) (list_all beyond rest) head.1 in
      both_true from (leads_on first b rest f head.1 edge.1 (order.next first a b f head.0 second.0 from (edge_turns p a b edge.0)))

  abbrev is_level : Point → Point → Bool
  is_level first q = beyond q && turns p q first && turns p first q

  level_parts : (first q : Point) → is_level first q ≡ true → (beyond q ≡ true) × (turns p q first ≡ true) × (turns p first q ≡ true)
  level_parts first q h =
      let outer = and_parts (beyond q && turns p q first) (turns p first q) h in
      let inner = and_parts (beyond q) (turns p q first) outer.0 in
      (inner.0, inner.1, outer.1)

  -- from one level point to another
  on_level : (first a b : Point) → beyond first ≡ true → is_level first a ≡ true → is_level first b ≡ true → turns p a b ≡ true
  on_level first a b f h k =
      let of_a = level_parts first a h in
      let of_b = level_parts first b k in
      order.next a first b of_a.0 f of_b.0 of_a.1 of_b.2

  not_left : (first a b v : Point) → beyond first ≡ true → is_level first a ≡ true → is_level first b ≡ true → is_level first v ≡ true → is_left_of (a, b) v ≡ false
  not_left first a b v f ha hb hv =
      let whole = triangle p a b v in
      let one = on_level first b a f hb ha in
      let two = on_level first v b f hv hb in
      let three = on_level first a v f ha hv in
      no_sum (cross a b v) (cross p b a) (cross p v b) (cross p a v) whole one two three
    where
      no_sum : (s x y z : ℤ) → s +ℤ (x +ℤ (y +ℤ z)) ≡ pos 0 → int_le (pos 0) x ≡ true → int_le (pos 0) y ≡ true → int_le (pos 0) z ≡ true → int_lt (pos 0) s ≡ false
      no_sum s x y z e hx hy hz = grind (arith, ints, nat_tests)

  level_ends : (first : Point) (points : List Point) → is_level first first ≡ true → list_all (is_level first) points ≡ true → list_all (λ e. is_level first e.0 && is_level first e.1) (edges_back_to first points) ≡ true
  level_ends first [] f h = refl
  level_ends first (a ∷ []) f h = both_true (both_true (and_parts (is_level first a) true h).0 f) refl
  level_ends first (a ∷ b ∷ rest) f h =
      let head = and_parts (is_level first a) (list_all (is_level first) (b ∷ rest)) h in
      let second = and_parts (is_level first b) (list_all (is_level first) rest) head.1 in
      both_true (both_true head.0 second.0) (level_ends first (b ∷ rest) f head.1)

  level_points : (first : Point) (rest : List Point) → list_all beyond (first ∷ rest) ≡ true → is_inside_edges (edges_back_to first (first ∷ rest)) p ≡ true → list_all (is_level first) (first ∷ rest) ≡ true
  level_points first rest h e =
      let f = (and_parts (beyond first) (list_all beyond rest) h).0 in
      let back = leads_back first (first ∷ rest) f h e in
      let itself = (and_parts (turns p first first) (list_all (λ q. turns p q first) rest) back).0 in
      let on = leads_on first first rest f h e itself in
      list_all_from (is_level first) (first ∷ rest)
      (λ q c. both_true
      (both_true (list_all_gives beyond (first ∷ rest) h q c) (list_all_gives (λ q. turns p q first) (first ∷ rest) back q c))
      (list_all_gives (λ q. turns p first q) (first ∷ rest) on q c))

  -- so no point lies beyond p
  pub none_beyond : (points : List Point) → is_counterclockwise points ≡ true → list_all beyond points ≡ true → is_inside_edges (edges points) p ≡ true → ⊥
  none_beyond [] round h e = absurd (cc)
  none_beyond (first ∷ rest) round h e =
      let points : List Point = first ∷ rest in
      let sides = edges_back_to first points in
      let some = (and_parts (list_all (λ e. not (are_one e.0 e.1)) sides && list_all (is_inside_edges sides) points) (list_any (λ e. list_any (is_left_of e) points) sides) round).1 in
      let edge = list_any_gives (λ e. list_any (is_left_of e) points) sides some in
      let vertex = list_any_gives (is_left_of edge.0) points edge.2 in
      let level = level_points first rest h e in
      let f = (and_parts (is_level first first) (list_all (is_level first) rest) level).0 in
      let ends = list_all_gives (λ e. is_level first e.0 && is_level first e.1) sides (level_ends first points f level) edge.0 edge.1 in
      let of_ends = and_parts (is_level first edge.0.0) (is_level first edge.0.1) ends in
      let never = not_left first edge.0.0 edge.0.1 vertex.0 (level_parts first first f).0 of_ends.0 of_ends.1 (list_all_gives (is_level first) points level vertex.0 vertex.1) in
      let both : true ≡ false = sym vertex.2 ∙ never in
      absurd (cc)

-- ---- the four directions
above : (a b : ℤ) → int_lt a b ≡ true → pos 0 <ℤ (b -ℤ a)
above a b h = grind (arith, ints, nat_tests)

under : (a b : ℤ) → int_lt a b ≡ true → (a -ℤ b) <ℤ pos 0
under a b h = grind (arith, ints, nat_tests)

to_east : (p : Point) → IsOrdered p (λ q. int_lt p.x q.x)
to_east p = record {
  next = λ a b c ha hb hc h k.
      signs_above (a.x -ℤ p.x) (b.x -ℤ p.x) (c.x -ℤ p.x) (cross p a c) (cross p b c) (cross p a b)
      (ways-x (a.x -ℤ p.x) (a.y -ℤ p.y) (b.x -ℤ p.x) (b.y -ℤ p.y) (c.x -ℤ p.x) (c.y -ℤ p.y))
      (above p.x a.x ha) (above p.x b.x hb) (above p.x c.x hc) k h;
}

to_west : (p : Point) → IsOrdered p (λ q. int_lt q.x p.x)
to_west p = record {
  next = λ a b c ha hb hc h k.
      signs_below (a.x -ℤ p.x) (b.x -ℤ p.x) (c.x -ℤ p.x) (cross p a c) (cross p b c) (cross p a b)
      (ways-x (a.x -ℤ p.x) (a.y -ℤ p.y) (b.x -ℤ p.x) (b.y -ℤ p.y) (c.x -ℤ p.x) (c.y -ℤ p.y))
      (under a.x p.x ha) (under b.x p.x hb) (under c.x p.x hc) k h;
}

to_north : (p : Point) → IsOrdered p (λ q. int_lt p.y q.y)
to_north p = record {
  next = λ a b c ha hb hc h k.
      signs_above (a.y -ℤ p.y) (b.y -ℤ p.y) (c.y -ℤ p.y) (cross p a c) (cross p b c) (cross p a b)
      (ways-y (a.x -ℤ p.x) (a.y -ℤ p.y) (b.x -ℤ p.x) (b.y -ℤ p.y) (c.x -ℤ p.x) (c.y -ℤ p.y))
      (above p.y a.y ha) (above p.y b.y hb) (above p.y c.y hc) k h;
}

to_south : (p : Point) → IsOrdered p (λ q. int_lt q.y p.y)
to_south p = record {
  next = λ a b c ha hb hc h k.
      signs_below (a.y -ℤ p.y) (b.y -ℤ p.y) (c.y -ℤ p.y) (cross p a c) (cross p b c) (cross p a b)
      (ways-y (a.x -ℤ p.x) (a.y -ℤ p.y) (b.x -ℤ p.x) (b.y -ℤ p.y) (c.x -ℤ p.x) (c.y -ℤ p.y))
      (under a.y p.y ha) (under b.y p.y hb) (under c.y p.y hc) k h;
}

-- ---- the box
past_both : (a m q : ℤ) → int_le m q ≡ true → int_le m a ≡ false → int_lt a q ≡ true
past_both a m q h n = grind (arith, ints, nat_tests)

short_of_both : (a m q : ℤ) → int_le q m ≡ true → int_le a m ≡ false → int_lt q a ≡ true
short_of_both a m q h n = grind (arith, ints, nat_tests)

-- where each point passes a test, and none does that p fails, p passes
by_cases : (b : Bool) → (b ≡ false → ⊥) → b ≡ true
by_cases true h = refl
by_cases false h = absurd (h refl)

among_parts : (least greatest q : Point) → is_in_box least greatest q ≡ true
    → (int_le least.x q.x ≡ true) × (int_le q.x greatest.x ≡ true) × (int_le least.y q.y ≡ true) × (int_le q.y greatest.y ≡ true)
among_parts least greatest q h =
    let last = and_parts (int_le least.x q.x && int_le q.x greatest.x && int_le least.y q.y) (int_le q.y greatest.y) h in
    let third = and_parts (int_le least.x q.x && int_le q.x greatest.x) (int_le least.y q.y) last.0 in
    let second = and_parts (int_le least.x q.x) (int_le q.x greatest.x) third.0 in
    (second.0, second.1, third.1, last.1)

counterclockwise_among : (points : List Point) (least greatest p : Point) → list_all (is_in_box least greatest) points ≡ true → is_counterclockwise points ≡ true → is_inside_edges (edges points) p ≡ true → is_in_box least greatest p ≡ true
counterclockwise_among points least greatest p all round inside =
    let each = λ (q : Point) (c : Contains points q). among_parts least greatest q (list_all_gives (is_in_box least greatest) points all q c) in
    both_true (both_true (both_true
    (by_cases (int_le least.x p.x) (λ n. none_beyond p (λ q. int_lt p.x q.x) (to_east p) points round (list_all_from (λ q. int_lt p.x q.x) points (λ q c. past_both p.x least.x q.x (each q c).0 n)) inside))
    (by_cases (int_le p.x greatest.x) (λ n. none_beyond p (λ q. int_lt q.x p.x) (to_west p) points round (list_all_from (λ q. int_lt q.x p.x) points (λ q c. short_of_both p.x greatest.x q.x (each q c).1 n)) inside)))
    (by_cases (int_le least.y p.y) (λ n. none_beyond p (λ q. int_lt p.y q.y) (to_north p) points round (list_all_from (λ q. int_lt p.y q.y) points (λ q c. past_both p.y least.y q.y (each q c).2 n)) inside)))
    (by_cases (int_le p.y greatest.y) (λ n. none_beyond p (λ q. int_lt q.y p.y) (to_south p) points round (list_all_from (λ q. int_lt q.y p.y) points (λ q c. short_of_both p.y greatest.y q.y (each q c).3 n)) inside))

pub convex_among : (points : List Point) (least greatest p : Point) → list_all (is_in_box least greatest) points ≡ true → is_convex points ≡ true → is_inside points p ≡ true → is_in_box least greatest p ≡ true
convex_among points least greatest p all convex inside = by_direction (is_counterclockwise points) refl convex inside
  where
    backward : list_all (is_in_box least greatest) (reverse points) ≡ true
    backward = list_all_from (is_in_box least greatest) (reverse points) (λ q c. list_all_gives (is_in_box least greatest) points all q (from_reverse points q c))

    by_direction : (forward : Bool) → is_counterclockwise points ≡ forward → (forward || is_counterclockwise (reverse points)) ≡ true
        → is_inside_edges (edges (if forward then points else reverse points)) p ≡ true → is_in_box least greatest p ≡ true
    by_direction true round convex inside = counterclockwise_among points least greatest p all round inside
    by_direction false round convex inside = counterclockwise_among (reverse points) least greatest p backward convex inside
