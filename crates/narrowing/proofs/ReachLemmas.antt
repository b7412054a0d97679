-- Places that are possibly beside two edges, and how far they are ahead of the vertex where these meet.
use Rattle.std.proofs.Common.{◌≡◌, ℕ, zero, suc, ◌+◌, ◌*◌, ◌/◌, ◌≤◌, ◌<◌, Bool, true, ℤ, pos, negsuc, ◌+ℤ◌, ◌-ℤ◌, ◌*ℤ◌, neg_ℤ, ◌≤ℤ◌, unsigned_abs, Option, None, Some, List, [], ◌∷◌, refl, sym, ap, subst, ◌∙◌, arith}
use Rattle.std.specs.Prelude.{IfSome, SomeIff, slice_get}
use Rattle.std.specs.List.{list_all}
use Rattle.std.specs.Ordering.{int_eq}
use Rattle.std.proofs.Math.Nat.{le-div_iff_mul-le, mul-le-mul_left}
use Rattle.std.proofs.lemmas.Bool.{and_parts}
use Rattle.std.proofs.lemmas.Bool.Decides.{Decides-int_eq}
use Rattle.std.proofs.lemmas.Int.{ints}
use Rattle.std.proofs.lemmas.Option.{none-some, same_Some}
use Rattle.exact.proofs.Ring.{part, number, sum, difference, opposite, product, same, at_most}
use Rattle.exact.proofs.Integers.{at_most_from_int_test}
use Rattle.fixed_point.specs.declared.number.Point.{Point}
use Rattle.geometry.specs.Margin.{is_inside_by, is_left_by}
use Rattle.geometry.specs.Polygon.{are_one, counterclockwise_points, edges}
use Rattle.narrowing.specs.Reaching.{IsBeside, Reach, ahead_by, aside_by, length_of}
use Rattle.narrowing.specs.declared.reaching.Direction.{Direction}
use Rattle.narrowing.specs.declared.reaching.Direction.TheVariants.{Right, Up, Left, Down}
use Rattle.narrowing.specs.declared.reaching.Way.{Way}

-- ---- an edge of a polygon

each_passes : {X : Type 0} (test : X → Bool) (xs : List X) (i : ℕ) (x : X) → slice_get xs i ≡ Some x → list_all test xs ≡ true → test x ≡ true
each_passes test [] i x at all = absurd (none-some x at)
each_passes test (y ∷ ys) zero x at all = ap test (sym (same_Some y x at)) ∙ (and_parts (test y) (list_all test ys) all).0
each_passes test (y ∷ ys) (suc i) x at all = each_passes test ys i x at (and_parts (test y) (list_all test ys) all).1

pub beside_edge : (points : List Point) (i : ℕ) (e : Point × Point) → slice_get (edges (counterclockwise_points points)) i ≡ Some e →
    (m : ℤ) (p : Point) → is_inside_by m points p ≡ true → is_left_by m e p ≡ true
beside_edge points i e at m p inside = each_passes (λ e. is_left_by m e p) (edges (counterclockwise_points points)) i e at inside

pub edge_found : (points : List Point) (i : ℕ) (found : Option (Point × Point)) → found ≡ slice_get (edges (counterclockwise_points points)) i →
    IfSome found (λ e. (m : ℤ) (p : Point) → is_inside_by m points p ≡ true → is_left_by m e p ≡ true)
edge_found points i None is = tt
edge_found points i (Some e) is = beside_edge points i e (sym is)

pub reach_found : (error : ℕ) (direction : Direction) (before after : Point × Point) (points : List Point) (found : Option ℤ) →
    ((p : Point) → is_inside_by (neg_ℤ (pos error)) points p ≡ true → is_left_by (neg_ℤ (pos error)) before p ≡ true) →
    ((p : Point) → is_inside_by (neg_ℤ (pos error)) points p ≡ true → is_left_by (neg_ℤ (pos error)) after p ≡ true) →
    IfSome found (λ most. Reach error direction before after most) →
    IfSome found (λ most. (p : Point) → is_inside_by (neg_ℤ (pos error)) points p ≡ true → ahead_by direction p.x p.y ≤ℤ most)
reach_found error direction before after points None first second reach = tt
reach_found error direction before after points (Some most) first second reach = λ p inside. reach p (first p inside) (second p inside)

-- ---- two ways

times_more : (k : ℕ) (a b : ℤ) → a ≤ℤ b → (pos k *ℤ a) ≤ℤ (pos k *ℤ b)
times_more k a b upto =
    let p = part a in
    let q = part b in
    let i = p.is in
    let j = q.is in
    let parts : p.more + q.less ≤ q.more + p.less = omega (arith, ints, upto, i, j) in
    at_most (product (number k) p) (product (number k) q) (omega (arith, mul-le-mul_left k parts))

-- a way goes u ahead and another one d back
behind : (m u d : ℕ) (a c x y : ℤ) (k l : ℕ) → (neg_ℤ (pos m) *ℤ pos k) ≤ℤ (pos u *ℤ y -ℤ a *ℤ x) → (neg_ℤ (pos m) *ℤ pos l) ≤ℤ (neg_ℤ (pos d) *ℤ y -ℤ c *ℤ x) →
    ((pos u *ℤ c -ℤ a *ℤ neg_ℤ (pos d)) *ℤ x) ≤ℤ pos ((u * l + d * k) * m)
behind m u d a c x y k l first second =
    let before = times_more d (neg_ℤ (pos m) *ℤ pos k) (pos u *ℤ y -ℤ a *ℤ x) first in
    let after = times_more u (neg_ℤ (pos m) *ℤ pos l) (neg_ℤ (pos d) *ℤ y -ℤ c *ℤ x) second in
    let left : pos d *ℤ (neg_ℤ (pos m) *ℤ pos k) +ℤ pos u *ℤ (neg_ℤ (pos m) *ℤ pos l) ≡ neg_ℤ (pos ((u * l + d * k) * m)) =
    same (sum (product (number d) (product (opposite (number m)) (number k))) (product (number u) (product (opposite (number m)) (number l))))
    (opposite (number ((u * l + d * k) * m))) (omega arith) in
    let right : pos d *ℤ (pos u *ℤ y -ℤ a *ℤ x) +ℤ pos u *ℤ (neg_ℤ (pos d) *ℤ y -ℤ c *ℤ x) ≡ neg_ℤ ((pos u *ℤ c -ℤ a *ℤ neg_ℤ (pos d)) *ℤ x) =
    same (sum (product (number d) (difference (product (number u) (part y)) (product (part a) (part x)))) (product (number u) (difference (product (opposite (number d)) (part y)) (product (part c) (part x)))))
    (opposite (product (difference (product (number u) (part c)) (product (part a) (opposite (number d)))) (part x))) (omega arith) in
    omega (arith, ints, before, after, left, right)

within_quotient : (t w : ℕ) (x : ℤ) → 0 < t → (pos t *ℤ x) ≤ℤ pos w → x ≤ℤ pos (w / t)
within_quotient t w (negsuc n) some upto = omega (arith, ints)
within_quotient t w (pos n) some upto =
    let below : n * t ≤ w = omega (arith, ints, upto) in
    let most : n ≤ w / t = (le-div_iff_mul-le some).1 below in
    omega (arith, ints, most)

-- numbers of one sign by their sizes
ahead_size : (n : ℤ) → pos 0 ≤ℤ n → n ≡ pos (unsigned_abs n)
ahead_size n upto = omega (arith, ints, upto)

back_size : (n : ℤ) → n ≤ℤ pos 0 → n ≡ neg_ℤ (pos (unsigned_abs n))
back_size n upto = omega (arith, ints, upto)

pub reaches_by : (error : ℕ) (before after : Way) (turn most : ℤ) (width whole size : ℕ) → pos 0 ≤ℤ before.ahead → after.ahead ≤ℤ pos 0 → pos 1 ≤ℤ turn →
    turn ≡ before.ahead *ℤ after.aside -ℤ before.aside *ℤ after.ahead →
    width ≡ unsigned_abs before.ahead * length_of after + unsigned_abs after.ahead * length_of before →
    whole ≡ width * error → size ≡ unsigned_abs turn → most ≡ pos (whole / size) →
    (x y : ℤ) → IsBeside error before x y → IsBeside error after x y → x ≤ℤ most
reaches_by error before after turn most width whole size on back left is wide times sized so x y first second =
    let u = unsigned_abs before.ahead in
    let d = unsigned_abs after.ahead in
    let on_is : before.ahead ≡ pos u = ahead_size before.ahead on in
    let back_is : after.ahead ≡ neg_ℤ (pos d) = back_size after.ahead back in
    let one : (neg_ℤ (pos error) *ℤ pos (length_of before)) ≤ℤ (pos u *ℤ y -ℤ before.aside *ℤ x) =
    subst (λ (n : ℤ). (neg_ℤ (pos error) *ℤ pos (length_of before)) ≤ℤ (n *ℤ y -ℤ before.aside *ℤ x)) on_is first in
    let two : (neg_ℤ (pos error) *ℤ pos (length_of after)) ≤ℤ (neg_ℤ (pos d) *ℤ y -ℤ after.aside *ℤ x) =
    subst (λ (n : ℤ). (neg_ℤ (pos error) *ℤ pos (length_of after)) ≤ℤ (n *ℤ y -ℤ after.aside *ℤ x)) back_is second in
    let upto = behind error u d before.aside after.aside x y (length_of before) (length_of after) one two in
    let turn_is : pos u *ℤ after.aside -ℤ before.aside *ℤ neg_ℤ (pos d) ≡ pos (unsigned_abs turn) =
    (λ i. sym on_is i *ℤ after.aside -ℤ before.aside *ℤ sym back_is i) ∙ sym is ∙ ahead_size turn (omega (arith, ints, left)) in
    let some : 0 < unsigned_abs turn = omega (arith, ints, left) in
    let bound : x ≤ℤ pos (width * error / unsigned_abs turn) =
    within_quotient (unsigned_abs turn) (width * error) x some
    (subst (λ (w : ℕ). (pos (unsigned_abs turn) *ℤ x) ≤ℤ pos (w * error)) (sym wide)
    (subst (λ (t : ℤ). (t *ℤ x) ≤ℤ pos ((u * length_of after + d * length_of before) * error)) turn_is upto)) in
    subst (λ (n : ℤ). x ≤ℤ n) (sym (so ∙ (λ i. pos (times i / sized i)))) bound

-- ---- ways by a direction

turned : (direction : Direction) (ux uy rx ry : ℤ) →
    ahead_by direction ux uy *ℤ aside_by direction rx ry -ℤ aside_by direction ux uy *ℤ ahead_by direction rx ry ≡ ux *ℤ ry -ℤ uy *ℤ rx
turned Right ux uy rx ry = refl
turned Up ux uy rx ry =
    same (difference (product (part uy) (opposite (part rx))) (product (opposite (part ux)) (part ry)))
    (difference (product (part ux) (part ry)) (product (part uy) (part rx))) (omega arith)
turned Left ux uy rx ry =
    same (difference (product (opposite (part ux)) (opposite (part ry))) (product (opposite (part uy)) (opposite (part rx))))
    (difference (product (part ux) (part ry)) (product (part uy) (part rx))) (omega arith)
turned Down ux uy rx ry =
    same (difference (product (opposite (part uy)) (part rx)) (product (part ux) (opposite (part ry))))
    (difference (product (part ux) (part ry)) (product (part uy) (part rx))) (omega arith)

lengths : (direction : Direction) (ux uy : ℤ) → unsigned_abs (ahead_by direction ux uy) + unsigned_abs (aside_by direction ux uy) ≡ unsigned_abs ux + unsigned_abs uy
lengths Right ux uy = refl
lengths Up ux uy = omega (arith, ints)
lengths Left ux uy = omega (arith, ints)
lengths Down ux uy = omega (arith, ints)

beside : (error : ℕ) (direction : Direction) (way : Way) (ux uy rx ry : ℤ) → way.ahead ≡ ahead_by direction ux uy → way.aside ≡ aside_by direction ux uy →
    (neg_ℤ (pos error) *ℤ pos (unsigned_abs ux + unsigned_abs uy)) ≤ℤ (ux *ℤ ry -ℤ uy *ℤ rx) → IsBeside error way (ahead_by direction rx ry) (aside_by direction rx ry)
beside error direction way ux uy rx ry of_ahead of_aside upto =
    let turn_is : way.ahead *ℤ aside_by direction rx ry -ℤ way.aside *ℤ ahead_by direction rx ry ≡ ux *ℤ ry -ℤ uy *ℤ rx =
    (λ i. of_ahead i *ℤ aside_by direction rx ry -ℤ of_aside i *ℤ ahead_by direction rx ry) ∙ turned direction ux uy rx ry in
    let length_is : length_of way ≡ unsigned_abs ux + unsigned_abs uy =
    (λ i. unsigned_abs (of_ahead i) + unsigned_abs (of_aside i)) ∙ lengths direction ux uy in
    subst (λ (z : ℤ). (neg_ℤ (pos error) *ℤ pos (length_of way)) ≤ℤ z) (sym turn_is)
    (subst (λ (n : ℕ). (neg_ℤ (pos error) *ℤ pos n) ≤ℤ (ux *ℤ ry -ℤ uy *ℤ rx)) (sym length_is) upto)

pub opposite_way : (a b : ℤ) → a -ℤ b ≡ neg_ℤ (b -ℤ a)
opposite_way a b = omega (arith, ints)

-- a cross product is the same by the way from the edge's end
from_end : (a b c d x y : ℤ) → (c -ℤ a) *ℤ (y -ℤ b) -ℤ (d -ℤ b) *ℤ (x -ℤ a) ≡ (c -ℤ a) *ℤ (y -ℤ d) -ℤ (d -ℤ b) *ℤ (x -ℤ c)
from_end a b c d x y =
    same (difference (product (difference (part c) (part a)) (difference (part y) (part b))) (product (difference (part d) (part b)) (difference (part x) (part a))))
    (difference (product (difference (part c) (part a)) (difference (part y) (part d))) (product (difference (part d) (part b)) (difference (part x) (part c)))) (omega arith)

on_from : (direction : Direction) (vx vy px py : ℤ) → ahead_by direction px py ≡ ahead_by direction vx vy +ℤ ahead_by direction (px -ℤ vx) (py -ℤ vy)
on_from Right vx vy px py = omega (arith, ints)
on_from Up vx vy px py = omega (arith, ints)
on_from Left vx vy px py = omega (arith, ints)
on_from Down vx vy px py = omega (arith, ints)

farther : (v x beyond most p : ℤ) → p ≡ v +ℤ x → x ≤ℤ beyond → most ≡ v +ℤ beyond → p ≤ℤ most
farther v x beyond most p is upto so = omega (arith, ints, is, upto, so)

one_point : (p q : Point) → are_one p q ≡ true → p ≡ q
one_point p q one =
    let parts = and_parts (int_eq p.x q.x) (int_eq p.y q.y) one in
    let x : p.x ≡ q.x = (Decides-int_eq p.x q.x).0 parts.0 in
    let y : p.y ≡ q.y = (Decides-int_eq p.y q.y).0 parts.1 in
    λ i. record { x = x i; y = y i }

reaches : (error : ℕ) (direction : Direction) (before after : Point × Point) (to from : Way) (v beyond most : ℤ) → before.1 ≡ after.0 →
    to.ahead ≡ ahead_by direction (before.1.x -ℤ before.0.x) (before.1.y -ℤ before.0.y) → to.aside ≡ aside_by direction (before.1.x -ℤ before.0.x) (before.1.y -ℤ before.0.y) →
    from.ahead ≡ ahead_by direction (after.1.x -ℤ after.0.x) (after.1.y -ℤ after.0.y) → from.aside ≡ aside_by direction (after.1.x -ℤ after.0.x) (after.1.y -ℤ after.0.y) →
    ((x y : ℤ) → IsBeside error to x y → IsBeside error from x y → x ≤ℤ beyond) → v ≡ ahead_by direction after.0.x after.0.y → most ≡ v +ℤ beyond →
    Reach error direction before after most
reaches error direction before after to from v beyond most meet to_ahead to_aside from_ahead from_aside over at so p left_before left_after =
    let first = at_most_from_int_test _ _ left_before in
    let by_end : (neg_ℤ (pos error) *ℤ pos (unsigned_abs (before.1.x -ℤ before.0.x) + unsigned_abs (before.1.y -ℤ before.0.y)))
    ≤ℤ ((before.1.x -ℤ before.0.x) *ℤ (p.y -ℤ before.1.y) -ℤ (before.1.y -ℤ before.0.y) *ℤ (p.x -ℤ before.1.x)) =
    subst (λ (z : ℤ). (neg_ℤ (pos error) *ℤ pos (unsigned_abs (before.1.x -ℤ before.0.x) + unsigned_abs (before.1.y -ℤ before.0.y))) ≤ℤ z)
    (from_end before.0.x before.0.y before.1.x before.1.y p.x p.y) first in
    let to_place : IsBeside error to (ahead_by direction (p.x -ℤ after.0.x) (p.y -ℤ after.0.y)) (aside_by direction (p.x -ℤ after.0.x) (p.y -ℤ after.0.y)) =
    subst (λ (end : Point). IsBeside error to (ahead_by direction (p.x -ℤ end.x) (p.y -ℤ end.y)) (aside_by direction (p.x -ℤ end.x) (p.y -ℤ end.y))) meet
    (beside error direction to (before.1.x -ℤ before.0.x) (before.1.y -ℤ before.0.y) (p.x -ℤ before.1.x) (p.y -ℤ before.1.y) to_ahead to_aside by_end) in
    let from_place : IsBeside error from (ahead_by direction (p.x -ℤ after.0.x) (p.y -ℤ after.0.y)) (aside_by direction (p.x -ℤ after.0.x) (p.y -ℤ after.0.y)) =
    beside error direction from (after.1.x -ℤ after.0.x) (after.1.y -ℤ after.0.y) (p.x -ℤ after.0.x) (p.y -ℤ after.0.y) from_ahead from_aside (at_most_from_int_test _ _ left_after) in
    farther (ahead_by direction after.0.x after.0.y) (ahead_by direction (p.x -ℤ after.0.x) (p.y -ℤ after.0.y)) beyond most (ahead_by direction p.x p.y)
    (on_from direction after.0.x after.0.y p.x p.y) (over _ _ to_place from_place) (so ∙ ap (λ v. v +ℤ beyond) at)

pub reaches_fix : (P : Type 0) (n : ℤ) (error : ℕ) (direction : Direction) (before after : Point × Point) (to from : Way) (v beyond : ℤ) (found : Option ℤ) → SomeIff found P n → n ≡ v +ℤ beyond → are_one before.1 after.0 ≡ true →
    to.ahead ≡ ahead_by direction (before.1.x -ℤ before.0.x) (before.1.y -ℤ before.0.y) → to.aside ≡ aside_by direction (before.1.x -ℤ before.0.x) (before.1.y -ℤ before.0.y) →
    from.ahead ≡ ahead_by direction (after.1.x -ℤ after.0.x) (after.1.y -ℤ after.0.y) → from.aside ≡ aside_by direction (after.1.x -ℤ after.0.x) (after.1.y -ℤ after.0.y) →
    ((x y : ℤ) → IsBeside error to x y → IsBeside error from x y → x ≤ℤ beyond) → v ≡ ahead_by direction after.0.x after.0.y → IfSome found (λ most. Reach error direction before after most)
reaches_fix P n error direction before after to from v beyond None of is one to_ahead to_aside from_ahead from_aside over at = tt
reaches_fix P n error direction before after to from v beyond (Some most) of is one to_ahead to_aside from_ahead from_aside over at =
    reaches error direction before after to from v beyond most (one_point before.1 after.0 one) to_ahead to_aside from_ahead from_aside over at (of.1 ∙ is)
