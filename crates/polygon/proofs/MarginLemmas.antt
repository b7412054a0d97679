-- The corners of a box and an edge: whether all are on its left, or some isn't on its right, is told by a margin.
use Rattle.std.proofs.Common.{◌≡◌, ℕ, suc, ◌+◌, ◌*◌, ◌≤◌, Bool, true, not, ◌&&◌, ℤ, pos, negsuc, ◌+ℤ◌, ◌-ℤ◌, ◌*ℤ◌, neg_ℤ, ◌≤ℤ◌, unsigned_abs, List, [], ◌∷◌, ◌⊎◌, inl, inr, refl, ap, sym, ◌∙◌, arith}
use Rattle.std.specs.Prelude.{int_le, int_lt}
use Rattle.std.specs.List.{list_all, list_any}
use Rattle.std.specs.Cmp.Derive.{both_true}
use Rattle.std.proofs.lemmas.Bool.{and_parts}
use Rattle.std.proofs.lemmas.Bool.Decides.{nat_tests}
use Rattle.std.proofs.lemmas.Int.{ints, unsigned_abs-mul}
use Rattle.std.proofs.lemmas.Nat.{mul-le}
use Rattle.exact.proofs.Lists.{list_all_from, list_all_gives, not-list_any}
use Rattle.exact.proofs.Ring.{part, number, sum, difference, opposite, product, same, at_most}
use Rattle.exact.proofs.Truths.{not_not, same_truth}
use Rattle.exact.proofs.Integers.{at_most_from_int_test, within_size}
use Rattle.fixed_point.specs.declared.number.Point.{Point}
use Rattle.geometry.specs.Margin.{corners, is_inside_by, is_left_by}
use Rattle.geometry.specs.Plane.{cross, is_right_of, point}
use Rattle.geometry.specs.Polygon.{counterclockwise_points, edges, is_inside}
use Rattle.polygon.proofs.TickLemmas.{within_by_0}

-- ---- how far a corner moves the cross product: u and v are the margin times the edge's way along the axes
south_west : (m ux uy rx ry : ℤ) → ux *ℤ (ry -ℤ m) -ℤ uy *ℤ (rx -ℤ m) ≡ (ux *ℤ ry -ℤ uy *ℤ rx) -ℤ m *ℤ ux +ℤ m *ℤ uy
south_west m ux uy rx ry =
    same (difference (product (part ux) (difference (part ry) (part m))) (product (part uy) (difference (part rx) (part m))))
    (sum (difference (difference (product (part ux) (part ry)) (product (part uy) (part rx))) (product (part m) (part ux))) (product (part m) (part uy))) (omega arith)

south_east : (m ux uy rx ry : ℤ) → ux *ℤ (ry -ℤ m) -ℤ uy *ℤ (rx +ℤ m) ≡ (ux *ℤ ry -ℤ uy *ℤ rx) -ℤ m *ℤ ux -ℤ m *ℤ uy
south_east m ux uy rx ry =
    same (difference (product (part ux) (difference (part ry) (part m))) (product (part uy) (sum (part rx) (part m))))
    (difference (difference (difference (product (part ux) (part ry)) (product (part uy) (part rx))) (product (part m) (part ux))) (product (part m) (part uy))) (omega arith)

north_east : (m ux uy rx ry : ℤ) → ux *ℤ (ry +ℤ m) -ℤ uy *ℤ (rx +ℤ m) ≡ (ux *ℤ ry -ℤ uy *ℤ rx) +ℤ m *ℤ ux -ℤ m *ℤ uy
north_east m ux uy rx ry =
    same (difference (product (part ux) (sum (part ry) (part m))) (product (part uy) (sum (part rx) (part m))))
    (difference (sum (difference (product (part ux) (part ry)) (product (part uy) (part rx))) (product (part m) (part ux))) (product (part m) (part uy))) (omega arith)

north_west : (m ux uy rx ry : ℤ) → ux *ℤ (ry +ℤ m) -ℤ uy *ℤ (rx -ℤ m) ≡ (ux *ℤ ry -ℤ uy *ℤ rx) +ℤ m *ℤ ux +ℤ m *ℤ uy
north_west m ux uy rx ry =
    same (difference (product (part ux) (sum (part ry) (part m))) (product (part uy) (difference (part rx) (part m))))
    (sum (sum (difference (product (part ux) (part ry)) (product (part uy) (part rx))) (product (part m) (part ux))) (product (part m) (part uy))) (omega arith)

-- from the way to a corner, by the way to the place
back : (x m a : ℤ) → (x -ℤ m) -ℤ a ≡ (x -ℤ a) -ℤ m
back x m a = omega (arith, ints)

on : (x m a : ℤ) → (x +ℤ m) -ℤ a ≡ (x -ℤ a) +ℤ m
on x m a = omega (arith, ints)

-- the cross products of an edge and the four corners
record Corners (e : Point × Point) (m : ℕ) (p : Point) (c u v : ℤ) : Type 0 where
  pub sw : cross e.0 e.1 (point (p.x -ℤ pos m) (p.y -ℤ pos m)) ≡ c -ℤ u +ℤ v
  pub se : cross e.0 e.1 (point (p.x +ℤ pos m) (p.y -ℤ pos m)) ≡ c -ℤ u -ℤ v
  pub ne : cross e.0 e.1 (point (p.x +ℤ pos m) (p.y +ℤ pos m)) ≡ c +ℤ u -ℤ v
  pub nw : cross e.0 e.1 (point (p.x -ℤ pos m) (p.y +ℤ pos m)) ≡ c +ℤ u +ℤ v

at_corners : (e : Point × Point) (m : ℕ) (p : Point) → Corners e m p (cross e.0 e.1 p) (pos m *ℤ (e.1.x -ℤ e.0.x)) (pos m *ℤ (e.1.y -ℤ e.0.y))
at_corners e m p =
    let ux = e.1.x -ℤ e.0.x in
    let uy = e.1.y -ℤ e.0.y in
    let rx = p.x -ℤ e.0.x in
    let ry = p.y -ℤ e.0.y in
    record {
      sw = (λ i. ux *ℤ back p.y (pos m) e.0.y i -ℤ uy *ℤ back p.x (pos m) e.0.x i) ∙ south_west (pos m) ux uy rx ry;
      se = (λ i. ux *ℤ back p.y (pos m) e.0.y i -ℤ uy *ℤ on p.x (pos m) e.0.x i) ∙ south_east (pos m) ux uy rx ry;
      ne = (λ i. ux *ℤ on p.y (pos m) e.0.y i -ℤ uy *ℤ on p.x (pos m) e.0.x i) ∙ north_east (pos m) ux uy rx ry;
      nw = (λ i. ux *ℤ on p.y (pos m) e.0.y i -ℤ uy *ℤ back p.x (pos m) e.0.x i) ∙ north_west (pos m) ux uy rx ry;
    }

-- ---- w and z are the sizes of u and v
record IsSizeOf (u w : ℤ) : Type 0 where
  pub signed : (u ≡ w) ⊎ (u ≡ neg_ℤ w)
  pub least : neg_ℤ w ≤ℤ u
  pub most : u ≤ℤ w

size_with : (u w : ℤ) → pos 0 ≤ℤ w → (u ≡ w) ⊎ (u ≡ neg_ℤ w) → IsSizeOf u w
size_with u w h (inl e) = record { signed = inl e; least = omega (arith, ints, e, h); most = omega (arith, ints, e, h) }
size_with u w h (inr e) = record { signed = inr e; least = omega (arith, ints, e, h); most = omega (arith, ints, e, h) }

signed_times : (m : ℕ) (u : ℤ) → (pos m *ℤ u ≡ pos m *ℤ pos (unsigned_abs u)) ⊎ (pos m *ℤ u ≡ neg_ℤ (pos m *ℤ pos (unsigned_abs u)))
signed_times m (pos n) = inl refl
signed_times m (negsuc n) = inr (same (product (number m) (part (negsuc n))) (opposite (product (number m) (number (suc n)))) (omega (arith, ints)))

size_of : (m : ℕ) (u : ℤ) → IsSizeOf (pos m *ℤ u) (pos m *ℤ pos (unsigned_abs u))
size_of m u = size_with (pos m *ℤ u) (pos m *ℤ pos (unsigned_abs u)) (at_most (number 0) (product (number m) (number (unsigned_abs u))) (omega arith)) (signed_times m u)

widths : (m k n : ℕ) → pos m *ℤ pos (k + n) ≡ pos m *ℤ pos k +ℤ pos m *ℤ pos n
widths m k n = same (product (number m) (number (k + n))) (sum (product (number m) (number k)) (product (number m) (number n))) (omega arith)

opposite_width : (m n : ℕ) → neg_ℤ (pos m) *ℤ pos n ≡ neg_ℤ (pos m *ℤ pos n)
opposite_width m n = same (product (opposite (number m)) (number n)) (opposite (product (number m) (number n))) (omega arith)

four_parts : (s t u v : Bool) → (s && (t && (u && (v && true)))) ≡ true → (s ≡ true) × (t ≡ true) × (u ≡ true) × (v ≡ true)
four_parts s t u v h =
    let one = and_parts s (t && (u && (v && true))) h in
    let two = and_parts t (u && (v && true)) one.1 in
    let three = and_parts u (v && true) two.1 in
    let four = and_parts v true three.1 in
    (one.0, two.0, three.0, four.0)

four : (s t u v : Bool) → s ≡ true → t ≡ true → u ≡ true → v ≡ true → (s && (t && (u && (v && true)))) ≡ true
four s t u v a b c d = both_true a (both_true b (both_true c (both_true d refl)))

-- what the corners' cross products are, where that of the place is c
abbrev sw : ℤ → ℤ → ℤ → ℤ
sw c u v = c -ℤ u +ℤ v

abbrev se : ℤ → ℤ → ℤ → ℤ
se c u v = c -ℤ u -ℤ v

abbrev ne : ℤ → ℤ → ℤ → ℤ
ne c u v = c +ℤ u -ℤ v

abbrev nw : ℤ → ℤ → ℤ → ℤ
nw c u v = c +ℤ u +ℤ v

abbrev is_past : ℤ → Bool
is_past x = not (int_lt x (pos 0))

abbrev is_short : ℤ → Bool
is_short x = int_lt x (pos 0)

abbrev of_all : (ℤ → Bool) → ℤ → ℤ → ℤ → Bool
of_all test c u v = test (sw c u v) && (test (se c u v) && (test (ne c u v) && (test (nw c u v) && true)))

-- ---- none of the corners is on the right
width_fits : (x c w : ℤ) → x ≡ c -ℤ w → is_past x ≡ true → int_le w c ≡ true
width_fits x c w e h = grind (arith, ints, nat_tests)

least_past : (c u v w z : ℤ) → (u ≡ w) ⊎ (u ≡ neg_ℤ w) → (v ≡ z) ⊎ (v ≡ neg_ℤ z)
    → is_past (sw c u v) ≡ true → is_past (se c u v) ≡ true → is_past (ne c u v) ≡ true → is_past (nw c u v) ≡ true → int_le (w +ℤ z) c ≡ true
least_past c u v w z (inl e) (inl f) at_sw at_se at_ne at_nw = width_fits (se c u v) c (w +ℤ z) (omega (arith, ints, e, f)) at_se
least_past c u v w z (inl e) (inr f) at_sw at_se at_ne at_nw = width_fits (sw c u v) c (w +ℤ z) (omega (arith, ints, e, f)) at_sw
least_past c u v w z (inr e) (inl f) at_sw at_se at_ne at_nw = width_fits (ne c u v) c (w +ℤ z) (omega (arith, ints, e, f)) at_ne
least_past c u v w z (inr e) (inr f) at_sw at_se at_ne at_nw = width_fits (nw c u v) c (w +ℤ z) (omega (arith, ints, e, f)) at_nw

past_0 : (x : ℤ) → pos 0 ≤ℤ x → is_past x ≡ true
past_0 x h = grind (arith, ints, nat_tests)

all_past_0 : (c u v w z : ℤ) → IsSizeOf u w → IsSizeOf v z → of_all is_past c u v ≡ int_le (w +ℤ z) c
all_past_0 c u v w z s t =
    same_truth (of_all is_past c u v) (int_le (w +ℤ z) c)
    (λ h.
    let each = four_parts (is_past (sw c u v)) (is_past (se c u v)) (is_past (ne c u v)) (is_past (nw c u v)) h in
    least_past c u v w z s.signed t.signed each.0 each.1 each.2 each.3)
    (λ h.
    let far = at_most_from_int_test (w +ℤ z) c h in
    four (is_past (sw c u v)) (is_past (se c u v)) (is_past (ne c u v)) (is_past (nw c u v))
    (past_0 (sw c u v) (omega (arith, ints, far, s.most, t.least)))
    (past_0 (se c u v) (omega (arith, ints, far, s.most, t.most)))
    (past_0 (ne c u v) (omega (arith, ints, far, s.least, t.most)))
    (past_0 (nw c u v) (omega (arith, ints, far, s.least, t.least))))

-- ---- all corners are on the right
width_short : (x c w : ℤ) → x ≡ c +ℤ w → is_short x ≡ true → not (int_le (neg_ℤ w) c) ≡ true
width_short x c w e h = grind (arith, ints, nat_tests)

greatest_short : (c u v w z : ℤ) → (u ≡ w) ⊎ (u ≡ neg_ℤ w) → (v ≡ z) ⊎ (v ≡ neg_ℤ z)
    → is_short (sw c u v) ≡ true → is_short (se c u v) ≡ true → is_short (ne c u v) ≡ true → is_short (nw c u v) ≡ true → not (int_le (neg_ℤ (w +ℤ z)) c) ≡ true
greatest_short c u v w z (inl e) (inl f) at_sw at_se at_ne at_nw = width_short (nw c u v) c (w +ℤ z) (omega (arith, ints, e, f)) at_nw
greatest_short c u v w z (inl e) (inr f) at_sw at_se at_ne at_nw = width_short (ne c u v) c (w +ℤ z) (omega (arith, ints, e, f)) at_ne
greatest_short c u v w z (inr e) (inl f) at_sw at_se at_ne at_nw = width_short (sw c u v) c (w +ℤ z) (omega (arith, ints, e, f)) at_sw
greatest_short c u v w z (inr e) (inr f) at_sw at_se at_ne at_nw = width_short (se c u v) c (w +ℤ z) (omega (arith, ints, e, f)) at_se

short_of_0 : (x : ℤ) → x ≤ℤ negsuc 0 → is_short x ≡ true
short_of_0 x h = grind (arith, ints, nat_tests)

is_less : (c w : ℤ) → not (int_le (neg_ℤ w) c) ≡ true → (c +ℤ w) ≤ℤ negsuc 0
is_less c w h = grind (arith, ints, nat_tests)

all_short : (c u v w z : ℤ) → IsSizeOf u w → IsSizeOf v z → of_all is_short c u v ≡ not (int_le (neg_ℤ (w +ℤ z)) c)
all_short c u v w z s t =
    same_truth (of_all is_short c u v) (not (int_le (neg_ℤ (w +ℤ z)) c))
    (λ h.
    let each = four_parts (is_short (sw c u v)) (is_short (se c u v)) (is_short (ne c u v)) (is_short (nw c u v)) h in
    greatest_short c u v w z s.signed t.signed each.0 each.1 each.2 each.3)
    (λ h.
    let far = is_less c (w +ℤ z) h in
    four (is_short (sw c u v)) (is_short (se c u v)) (is_short (ne c u v)) (is_short (nw c u v))
    (short_of_0 (sw c u v) (omega (arith, ints, far, s.least, t.most)))
    (short_of_0 (se c u v) (omega (arith, ints, far, s.least, t.least)))
    (short_of_0 (ne c u v) (omega (arith, ints, far, s.most, t.least)))
    (short_of_0 (nw c u v) (omega (arith, ints, far, s.most, t.most))))

-- ---- an edge
left_corners : (e : Point × Point) (m : ℕ) (p : Point) → list_all (λ c. not (is_right_of e c)) (corners m p) ≡ is_left_by (pos m) e p
left_corners e m p =
    let at = at_corners e m p in
    let ux = unsigned_abs (e.1.x -ℤ e.0.x) in
    let uy = unsigned_abs (e.1.y -ℤ e.0.y) in
    (λ i. not (int_lt (at.sw i) (pos 0)) && (not (int_lt (at.se i) (pos 0)) && (not (int_lt (at.ne i) (pos 0)) && (not (int_lt (at.nw i) (pos 0)) && true))))
    ∙ all_past_0 (cross e.0 e.1 p) (pos m *ℤ (e.1.x -ℤ e.0.x)) (pos m *ℤ (e.1.y -ℤ e.0.y)) (pos m *ℤ pos ux) (pos m *ℤ pos uy) (size_of m (e.1.x -ℤ e.0.x)) (size_of m (e.1.y -ℤ e.0.y))
    ∙ ap (λ w. int_le w (cross e.0 e.1 p)) (sym (widths m ux uy))

right_corners : (e : Point × Point) (m : ℕ) (p : Point) → list_all (is_right_of e) (corners m p) ≡ not (is_left_by (neg_ℤ (pos m)) e p)
right_corners e m p =
    let at = at_corners e m p in
    let ux = unsigned_abs (e.1.x -ℤ e.0.x) in
    let uy = unsigned_abs (e.1.y -ℤ e.0.y) in
    (λ i. int_lt (at.sw i) (pos 0) && (int_lt (at.se i) (pos 0) && (int_lt (at.ne i) (pos 0) && (int_lt (at.nw i) (pos 0) && true))))
    ∙ all_short (cross e.0 e.1 p) (pos m *ℤ (e.1.x -ℤ e.0.x)) (pos m *ℤ (e.1.y -ℤ e.0.y)) (pos m *ℤ pos ux) (pos m *ℤ pos uy) (size_of m (e.1.x -ℤ e.0.x)) (size_of m (e.1.y -ℤ e.0.y))
    ∙ ap (λ w. not (int_le w (cross e.0 e.1 p))) (ap neg_ℤ (sym (widths m ux uy)) ∙ sym (opposite_width m (ux + uy)))

-- ---- a polygon
swapped : {X Y : Type 0} (f : X → Y → Bool) (xs : List X) (ys : List Y) → list_all (λ x. list_all (f x) ys) xs ≡ true → list_all (λ y. list_all (λ x. f x y) xs) ys ≡ true
swapped f xs ys h =
    list_all_from (λ y. list_all (λ x. f x y) xs) ys
    (λ y in_ys. list_all_from (λ x. f x y) xs (λ x in_xs. list_all_gives (f x) ys (list_all_gives (λ x. list_all (f x) ys) xs h x in_xs) y in_ys))

by_each : {X : Type 0} (f g : X → Bool) (xs : List X) → ((x : X) → f x ≡ g x) → list_all f xs ≡ list_all g xs
by_each f g [] h = refl
by_each f g (x ∷ xs) h = λ i. h x i && by_each f g xs h i

pub all_corners_inside : (m : ℕ) (points : List Point) (p : Point) → list_all (is_inside points) (corners m p) ≡ is_inside_by (pos m) points p
all_corners_inside m points p =
    let sides = edges (counterclockwise_points points) in
    same_truth (list_all (is_inside points) (corners m p)) (list_all (λ e. list_all (λ c. not (is_right_of e c)) (corners m p)) sides)
    (swapped (λ c e. not (is_right_of e c)) (corners m p) sides) (swapped (λ e c. not (is_right_of e c)) sides (corners m p))
    ∙ by_each (λ e. list_all (λ c. not (is_right_of e c)) (corners m p)) (λ e. is_left_by (pos m) e p) sides (λ e. left_corners e m p)

pub no_edge_past_all : (m : ℕ) (points : List Point) (p : Point) → not (list_any (λ e. list_all (is_right_of e) (corners m p)) (edges (counterclockwise_points points))) ≡ is_inside_by (neg_ℤ (pos m)) points p
no_edge_past_all m points p =
    let sides = edges (counterclockwise_points points) in
    not-list_any (λ e. list_all (is_right_of e) (corners m p)) sides
    ∙ by_each (λ e. not (list_all (is_right_of e) (corners m p))) (λ e. is_left_by (neg_ℤ (pos m)) e p) sides
    (λ e. ap not (right_corners e m p) ∙ not_not (is_left_by (neg_ℤ (pos m)) e p))

pub no_margin : (points : List Point) (p : Point) → is_inside_by (pos 0) points p ≡ is_inside points p
no_margin points p = within_by_0 (edges (counterclockwise_points points)) p

-- ---- each place of the box
times_bounded : (m : ℕ) (u d : ℤ) → unsigned_abs d ≤ m → (neg_ℤ (pos m *ℤ pos (unsigned_abs u)) ≤ℤ (u *ℤ d)) × ((u *ℤ d) ≤ℤ (pos m *ℤ pos (unsigned_abs u)))
times_bounded m u d h =
    let size : unsigned_abs (u *ℤ d) ≤ m * unsigned_abs u = omega (arith, unsigned_abs-mul u d, mul-le (unsigned_abs u) (unsigned_abs d) (unsigned_abs u) m (omega arith) h) in
    within_size (u *ℤ d) (m * unsigned_abs u) size

moved : (ux uy ax ay px py qx qy : ℤ) → ux *ℤ (qy -ℤ ay) -ℤ uy *ℤ (qx -ℤ ax) ≡ (ux *ℤ (py -ℤ ay) -ℤ uy *ℤ (px -ℤ ax)) +ℤ (ux *ℤ (qy -ℤ py) -ℤ uy *ℤ (qx -ℤ px))
moved ux uy ax ay px py qx qy =
    let t = λ (y b x a : ℤ). difference (product (part ux) (difference (part y) (part b))) (product (part uy) (difference (part x) (part a))) in
    same (t qy ay qx ax) (sum (t py ay px ax) (t qy py qx px)) (omega arith)

left_there : (c x y w z : ℤ) → (neg_ℤ w ≤ℤ x) × (x ≤ℤ w) → (neg_ℤ z ≤ℤ y) × (y ≤ℤ z) → int_le (w +ℤ z) c ≡ true → is_past (c +ℤ (x -ℤ y)) ≡ true
left_there c x y w z s t h = let far = at_most_from_int_test (w +ℤ z) c h in past_0 (c +ℤ (x -ℤ y)) (omega (arith, ints, far, s.0, t.1))

left_here : (c x y w z : ℤ) → (neg_ℤ w ≤ℤ x) × (x ≤ℤ w) → (neg_ℤ z ≤ℤ y) × (y ≤ℤ z) → is_past (c +ℤ (x -ℤ y)) ≡ true → int_le (neg_ℤ (w +ℤ z)) c ≡ true
left_here c x y w z s t h = tested (neg_ℤ (w +ℤ z)) c (omega (arith, ints, of_past (c +ℤ (x -ℤ y)) h, s.1, t.0))
  where
    of_past : (v : ℤ) → is_past v ≡ true → pos 0 ≤ℤ v
    of_past v h = grind (arith, ints, nat_tests)

    tested : (a b : ℤ) → a ≤ℤ b → int_le a b ≡ true
    tested a b h = grind (arith, ints, nat_tests)

-- at most m away along each axis
abbrev IsNear : ℕ → Point → Point → Type 0
IsNear m p q = (unsigned_abs (q.x -ℤ p.x) ≤ m) × (unsigned_abs (q.y -ℤ p.y) ≤ m)

each_left : (e : Point × Point) (m : ℕ) (p q : Point) → IsNear m p q → is_left_by (pos m) e p ≡ true → not (is_right_of e q) ≡ true
each_left e m p q near h =
    let ux = e.1.x -ℤ e.0.x in
    let uy = e.1.y -ℤ e.0.y in
    let dx = q.x -ℤ p.x in
    let dy = q.y -ℤ p.y in
    ap is_past (moved ux uy e.0.x e.0.y p.x p.y q.x q.y)
    ∙ left_there (cross e.0 e.1 p) (ux *ℤ dy) (uy *ℤ dx) (pos m *ℤ pos (unsigned_abs ux)) (pos m *ℤ pos (unsigned_abs uy)) (times_bounded m ux dy near.1) (times_bounded m uy dx near.0)
    (ap (λ w. int_le w (cross e.0 e.1 p)) (sym (widths m (unsigned_abs ux) (unsigned_abs uy))) ∙ h)

some_left : (e : Point × Point) (m : ℕ) (p q : Point) → IsNear m p q → not (is_right_of e q) ≡ true → is_left_by (neg_ℤ (pos m)) e p ≡ true
some_left e m p q near h =
    let ux = e.1.x -ℤ e.0.x in
    let uy = e.1.y -ℤ e.0.y in
    let dx = q.x -ℤ p.x in
    let dy = q.y -ℤ p.y in
    ap (λ w. int_le w (cross e.0 e.1 p)) (opposite_width m (unsigned_abs ux + unsigned_abs uy) ∙ ap neg_ℤ (widths m (unsigned_abs ux) (unsigned_abs uy)))
    ∙ left_here (cross e.0 e.1 p) (ux *ℤ dy) (uy *ℤ dx) (pos m *ℤ pos (unsigned_abs ux)) (pos m *ℤ pos (unsigned_abs uy)) (times_bounded m ux dy near.1) (times_bounded m uy dx near.0)
    (ap is_past (sym (moved ux uy e.0.x e.0.y p.x p.y q.x q.y)) ∙ h)

along_edges : (f g : Point × Point → Bool) (sides : List (Point × Point)) → ((e : Point × Point) → f e ≡ true → g e ≡ true) → list_all f sides ≡ true → list_all g sides ≡ true
along_edges f g sides each h = list_all_from g sides (λ e c. each e (list_all_gives f sides h e c))

pub each_near_inside : (m : ℕ) (points : List Point) (p q : Point) → unsigned_abs (q.x -ℤ p.x) ≤ m → unsigned_abs (q.y -ℤ p.y) ≤ m → is_inside_by (pos m) points p ≡ true → is_inside points q ≡ true
each_near_inside m points p q by_x by_y h = along_edges (λ e. is_left_by (pos m) e p) (λ e. not (is_right_of e q)) (edges (counterclockwise_points points)) (λ e. each_left e m p q (by_x, by_y)) h

pub near_some_inside : (m : ℕ) (points : List Point) (p q : Point) → unsigned_abs (q.x -ℤ p.x) ≤ m → unsigned_abs (q.y -ℤ p.y) ≤ m → is_inside points q ≡ true → is_inside_by (neg_ℤ (pos m)) points p ≡ true
near_some_inside m points p q by_x by_y h = along_edges (λ e. not (is_right_of e q)) (λ e. is_left_by (neg_ℤ (pos m)) e p) (edges (counterclockwise_points points)) (λ e. some_left e m p q (by_x, by_y)) h
