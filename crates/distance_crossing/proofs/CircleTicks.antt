-- Three points that move along lines: the squared diameter of the least circle round them has no peak, so the ticks at which they fit are consecutive, and lie on the side to which it falls.
use Rattle.std.proofs.Common.{◌≡◌, ℕ, ◌+◌, ◌<◌, ◌≤◌, Bool, true, false, ℤ, pos, ◌+ℤ◌, ◌-ℤ◌, ◌*ℤ◌, ◌≤ℤ◌, ◌<ℤ◌, refl, subst, ap, sym, ◌∙◌, ⊎_elim, arith}
use Rattle.std.proofs.lemmas.Int.{ints}
use Rattle.std.proofs.lemmas.Bool.{cases_lt}
use Rattle.exact.proofs.Ring.{part, number, sum, difference, product, same}
use Rattle.exact.proofs.Integers.{above_from_int_test, at_most_from_int_test, at_most_passes, product_least}
use Rattle.fixed_point.specs.declared.number.Point.{Point}
use Rattle.geometry.specs.Circle.{squared_width, three_fit}
use Rattle.geometry.specs.Plane.{square}
use Rattle.linear_crossing.specs.Moving.{position_after}
use Rattle.linear_crossing.specs.declared.quad.Line.{Line}
use Rattle.distance_crossing.specs.LeastCircle.{least_over, least_under}
use Rattle.distance_crossing.proofs.Signs.{product_above, cancel_above}
use Rattle.distance_crossing.proofs.Centres.{away, room, unit_above, middle_least, middle_above, held_least, held_above}
use Rattle.distance_crossing.proofs.LeastCircles.{IsLeast, least_is, three_fit-least, scaled_least, scaled_above}

-- ---- three points at two ticks and between them, where u and v are the shares of the two
module _ (u v : ℤ) (u_above : pos 0 <ℤ u) (v_above : pos 0 <ℤ v) where
  -- the third point lies between the two others
  pub record IsBetween (p q a : Point) : Type 0 where
    pub on_x : (u +ℤ v) *ℤ a.x ≡ u *ℤ p.x +ℤ v *ℤ q.x
    pub on_y : (u +ℤ v) *ℤ a.y ≡ u *ℤ p.y +ℤ v *ℤ q.y

  module _ (p q s p' q' s' a b c : Point) (over under over' under' high low : ℤ)
      (first : IsLeast p q s over under) (second : IsLeast p' q' s' over' under') (here : IsLeast a b c high low)
      (at_a : IsBetween p p' a) (at_b : IsBetween q q' b) (at_c : IsBetween s s' c) where
    pub stays_least : (m n : ℤ) → pos 0 ≤ℤ n → pos 0 ≤ℤ (m *ℤ under -ℤ n *ℤ over) → pos 0 ≤ℤ (m *ℤ under' -ℤ n *ℤ over') → pos 0 ≤ℤ (m *ℤ low -ℤ n *ℤ high)
    stays_least m n n_least f g =
        let k = first.centre in let l = second.centre in
        let old = λ (way : ℤ) (h : pos 0 ≤ℤ room over under (square k.z) way). scaled_least over under m n (square k.z) way first.above n_least k.unit h f in
        let new = λ (way : ℤ) (h : pos 0 ≤ℤ room over' under' (square l.z) way). scaled_least over' under' m n (square l.z) way second.above n_least l.unit h g in
        let at = middle_least u v m n k.x k.y k.z l.x l.y l.z u_above v_above n_least k.unit l.unit in
        held_least a b c high low m n _ _ _ here.weights n_least (unit_above u v m n k.x k.y k.z l.x l.y l.z u_above v_above n_least k.unit l.unit)
        (at p p' a at_a.on_x at_a.on_y (old (away k.x k.y k.z p) k.first) (new (away l.x l.y l.z p') l.first))
        (at q q' b at_b.on_x at_b.on_y (old (away k.x k.y k.z q) k.second) (new (away l.x l.y l.z q') l.second))
        (at s s' c at_c.on_x at_c.on_y (old (away k.x k.y k.z s) k.third) (new (away l.x l.y l.z s') l.third))

    pub stays_above : (m n : ℤ) → pos 0 ≤ℤ n → pos 0 ≤ℤ (m *ℤ under -ℤ n *ℤ over) → pos 0 <ℤ (m *ℤ under' -ℤ n *ℤ over') → pos 0 <ℤ (m *ℤ low -ℤ n *ℤ high)
    stays_above m n n_least f g =
        let k = first.centre in let l = second.centre in
        let old = λ (way : ℤ) (h : pos 0 ≤ℤ room over under (square k.z) way). scaled_least over under m n (square k.z) way first.above n_least k.unit h f in
        let new = λ (way : ℤ) (h : pos 0 ≤ℤ room over' under' (square l.z) way). scaled_above over' under' m n (square l.z) way second.above n_least l.unit h g in
        let at = middle_above u v m n k.x k.y k.z l.x l.y l.z u_above v_above n_least k.unit l.unit in
        held_above a b c high low m n _ _ _ here.weights n_least (unit_above u v m n k.x k.y k.z l.x l.y l.z u_above v_above n_least k.unit l.unit) here.above
        (at p p' a at_a.on_x at_a.on_y (old (away k.x k.y k.z p) k.first) (new (away l.x l.y l.z p') l.first))
        (at q q' b at_b.on_x at_b.on_y (old (away k.x k.y k.z q) k.second) (new (away l.x l.y l.z q') l.second))
        (at s s' c at_c.on_x at_c.on_y (old (away k.x k.y k.z s) k.third) (new (away l.x l.y l.z s') l.third))

-- ---- fractions, by their cross products
own_difference : (m n : ℤ) → m *ℤ n -ℤ n *ℤ m ≡ pos 0
own_difference m n = same (difference (product (part m) (part n)) (product (part n) (part m))) (number 0) (omega arith)

-- a fraction that is at most w is below one that is above w
across : (o u w o' u' : ℤ) → o' *ℤ u -ℤ u' *ℤ o ≡ u *ℤ (o' -ℤ w *ℤ u') +ℤ u' *ℤ (w *ℤ u -ℤ o)
across o u w o' u' =
    same (difference (product (part o') (part u)) (product (part u') (part o)))
    (sum (product (part u) (difference (part o') (product (part w) (part u')))) (product (part u') (difference (product (part w) (part u)) (part o)))) (omega arith)

pub above_within : (o u w o' u' : ℤ) → pos 0 <ℤ u → pos 0 <ℤ u' → o ≤ℤ (w *ℤ u) → (w *ℤ u') <ℤ o' → pos 0 <ℤ (o' *ℤ u -ℤ u' *ℤ o)
above_within o u w o' u' p q h g =
    let is = across o u w o' u' in
    let first = product_above u (o' -ℤ w *ℤ u') p (omega (arith, ints)) in
    let second = product_least u' (w *ℤ u -ℤ o) (omega (arith, ints)) (omega (arith, ints)) in
    omega (arith, ints)

onward : (o u w o' u' : ℤ) → u *ℤ (o' -ℤ w *ℤ u') ≡ (o' *ℤ u -ℤ u' *ℤ o) +ℤ u' *ℤ (o -ℤ w *ℤ u)
onward o u w o' u' =
    same (product (part u) (difference (part o') (product (part w) (part u'))))
    (sum (difference (product (part o') (part u)) (product (part u') (part o))) (product (part u') (difference (part o) (product (part w) (part u))))) (omega arith)

-- a fraction that is at least one above w is above w
pub above_onward : (o u w o' u' : ℤ) → pos 0 <ℤ u → pos 0 <ℤ u' → (w *ℤ u) <ℤ o → pos 0 ≤ℤ (o' *ℤ u -ℤ u' *ℤ o) → (w *ℤ u') <ℤ o'
above_onward o u w o' u' p q h g =
    let P : ℤ → Type 0 = λ k. pos 0 <ℤ k in
    let first = product_above u' (o -ℤ w *ℤ u) q (omega (arith, ints)) in
    let all = cancel_above u (o' -ℤ w *ℤ u') p (subst P (sym (onward o u w o' u')) (both _ _ g first)) in
    omega (arith, ints)
  where
    both : (a b : ℤ) → pos 0 ≤ℤ a → pos 0 <ℤ b → pos 0 <ℤ (a +ℤ b)
    both a b h g = omega (arith, ints)

-- ---- by the tick
shared : (x d i j k : ℤ) → ((k -ℤ j) +ℤ (j -ℤ i)) *ℤ (x +ℤ d *ℤ j) ≡ (k -ℤ j) *ℤ (x +ℤ d *ℤ i) +ℤ (j -ℤ i) *ℤ (x +ℤ d *ℤ k)
shared x d i j k =
    let at = λ (t : ℤ). sum (part x) (product (part d) (part t)) in
    let f = difference (part k) (part j) in let g = difference (part j) (part i) in
    same (product (sum f g) (at j)) (sum (product f (at i)) (product g (at k))) (omega arith)

between_positions : (l : Line) (i j k : ℕ) (p : pos 0 <ℤ (pos k -ℤ pos j)) (q : pos 0 <ℤ (pos j -ℤ pos i))
    → IsBetween (pos k -ℤ pos j) (pos j -ℤ pos i) p q (position_after l i) (position_after l k) (position_after l j)
between_positions l i j k p q = record { on_x = shared l.at.x l.dx (pos i) (pos j) (pos k); on_y = shared l.at.y l.dy (pos i) (pos j) (pos k) }

weak : (a : ℤ) → pos 0 <ℤ a → pos 0 ≤ℤ a
weak a p = omega (arith, ints)

not_above : (a : ℤ) → a ≡ pos 0 → pos 0 <ℤ a → ⊥
not_above a e h = omega (arith, ints)

not_both : (a b : ℤ) → b <ℤ a → a ≤ℤ b → ⊥
not_both a b h g = omega (arith, ints)

to_room : (a b : ℤ) → a ≤ℤ b → pos 0 ≤ℤ (b -ℤ pos 1 *ℤ a)
to_room a b h = omega (arith, ints)

from_room : (a b : ℤ) → pos 0 ≤ℤ (b -ℤ pos 1 *ℤ a) → a ≤ℤ b
from_room a b h = omega (arith, ints)

not_true : (x : Bool) → (x ≡ true → ⊥) → x ≡ false
not_true true h = absurd (h refl)
not_true false h = refl

true_false : (x y : Bool) → x ≡ y → x ≡ true → y ≡ false → ⊥
true_false x y e f g = absurd (cc)

swap : (a b : ℤ) → a *ℤ b ≡ b *ℤ a
swap a b = same (product (part a) (part b)) (product (part b) (part a)) (omega arith)

falling : (o u o' u' : ℤ) → (o' *ℤ u) <ℤ (o *ℤ u') → pos 0 <ℤ (o *ℤ u' -ℤ u *ℤ o')
falling o u o' u' h = let is = swap o' u in omega (arith, ints)

rising : (o u o' u' : ℤ) → (o *ℤ u') ≤ℤ (o' *ℤ u) → pos 0 ≤ℤ (o' *ℤ u -ℤ u' *ℤ o)
rising o u o' u' h = let is = swap o u' in omega (arith, ints)

module _ (p q s : Line) where
  abbrev pub over_at : ℕ → ℤ
  over_at k = least_over (position_after p k) (position_after q k) (position_after s k)

  abbrev pub under_at : ℕ → ℤ
  under_at k = least_under (position_after p k) (position_after q k) (position_after s k)

  pub least_at : (k : ℕ) → IsLeast (position_after p k) (position_after q k) (position_after s k) (over_at k) (under_at k)
  least_at k = least_is (position_after p k) (position_after q k) (position_after s k)

  pub under_above : (k : ℕ) → pos 0 <ℤ under_at k
  under_above k = let h = least_at k in h.above

  module _ (i j k : ℕ) (before : i < j) (after : j < k) where
    first_share : pos 0 <ℤ (pos k -ℤ pos j)
    first_share = omega (arith, ints)

    second_share : pos 0 <ℤ (pos j -ℤ pos i)
    second_share = omega (arith, ints)

    -- what a circle holds at i and at k one of the same size holds between
    held_between : (w : ℤ) → pos 0 ≤ℤ (w *ℤ under_at i -ℤ pos 1 *ℤ over_at i) → pos 0 ≤ℤ (w *ℤ under_at k -ℤ pos 1 *ℤ over_at k) → pos 0 ≤ℤ (w *ℤ under_at j -ℤ pos 1 *ℤ over_at j)
    held_between w f g =
        stays_least (pos k -ℤ pos j) (pos j -ℤ pos i) first_share second_share
        (position_after p i) (position_after q i) (position_after s i) (position_after p k) (position_after q k) (position_after s k)
        (position_after p j) (position_after q j) (position_after s j) (over_at i) (under_at i) (over_at k) (under_at k) (over_at j) (under_at j)
        (least_at i) (least_at k) (least_at j)
        (between_positions p i j k first_share second_share) (between_positions q i j k first_share second_share) (between_positions s i j k first_share second_share)
        w (pos 1) (omega (arith, ints)) f g

    -- no least circle is larger than one of the two and as large as the other
    no_peak_after : pos 0 ≤ℤ (over_at j *ℤ under_at i -ℤ under_at j *ℤ over_at i) → pos 0 <ℤ (over_at j *ℤ under_at k -ℤ under_at j *ℤ over_at k) → ⊥
    no_peak_after f g =
        let above = under_above j in
        let more = stays_above (pos k -ℤ pos j) (pos j -ℤ pos i) first_share second_share
        (position_after p i) (position_after q i) (position_after s i) (position_after p k) (position_after q k) (position_after s k)
        (position_after p j) (position_after q j) (position_after s j) (over_at i) (under_at i) (over_at k) (under_at k) (over_at j) (under_at j)
        (least_at i) (least_at k) (least_at j)
        (between_positions p i j k first_share second_share) (between_positions q i j k first_share second_share) (between_positions s i j k first_share second_share)
        (over_at j) (under_at j) (weak (under_at j) above) f g in
        not_above (over_at j *ℤ under_at j -ℤ under_at j *ℤ over_at j) (own_difference (over_at j) (under_at j)) more

  module _ (r : ℤ) where
    abbrev pub fit_at : ℕ → Bool
    fit_at k = three_fit r (position_after p k) (position_after q k) (position_after s k)

    within-fit : (k : ℕ) → fit_at k ≡ true → over_at k ≤ℤ (squared_width r *ℤ under_at k)
    within-fit k h = at_most_from_int_test (over_at k) (squared_width r *ℤ under_at k) (sym (three_fit-least r (position_after p k) (position_after q k) (position_after s k)) ∙ h)

    fit-within : (k : ℕ) → over_at k ≤ℤ (squared_width r *ℤ under_at k) → fit_at k ≡ true
    fit-within k h = three_fit-least r (position_after p k) (position_after q k) (position_after s k) ∙ at_most_passes (over_at k) (squared_width r *ℤ under_at k) h

    above-fit : (k : ℕ) → fit_at k ≡ false → (squared_width r *ℤ under_at k) <ℤ over_at k
    above-fit k h = above_from_int_test (over_at k) (squared_width r *ℤ under_at k) (sym (three_fit-least r (position_after p k) (position_after q k) (position_after s k)) ∙ h)

    pub fit_between : (i j k : ℕ) → i ≤ j → j ≤ k → fit_at i ≡ true → fit_at k ≡ true → fit_at j ≡ true
    fit_between i j k l m f g =
        ⊎_elim
        (λ (a : i < j). ⊎_elim
        (λ (b : j < k). fit-within j (from_room _ _ (held_between i j k a b (squared_width r) (to_room _ _ (within-fit i f)) (to_room _ _ (within-fit k g)))))
        (λ (b : k ≤ j). let P : ℕ → Type 0 = λ t. fit_at t ≡ true in let is : k ≡ j = omega arith in subst P is g)
        (cases_lt j k))
        (λ (a : j ≤ i). let P : ℕ → Type 0 = λ t. fit_at t ≡ true in let is : i ≡ j = omega arith in subst P is f)
        (cases_lt i j)

    -- where they do not fit and the circle shrinks, they did not fit before
    pub none_before : (m t : ℕ) → fit_at m ≡ false → (over_at (m + 1) *ℤ under_at m) <ℤ (over_at m *ℤ under_at (m + 1)) → t ≤ m → fit_at t ≡ false
    none_before m t h falls l =
        not_true (fit_at t) (λ f.
        ⊎_elim
        (λ (a : t < m).
        no_peak_after t m (m + 1) a (omega arith)
        (weak _ (above_within (over_at t) (under_at t) (squared_width r) (over_at m) (under_at m) (under_above t) (under_above m) (within-fit t f) (above-fit m h)))
        (falling (over_at m) (under_at m) (over_at (m + 1)) (under_at (m + 1)) falls))
        (λ (a : m ≤ t). let is : t ≡ m = omega arith in true_false (fit_at t) (fit_at m) (ap fit_at is) f h)
        (cases_lt t m))

    -- where they do not fit and the circle does not shrink, they do not fit later
    pub none_after : (m t : ℕ) → fit_at m ≡ false → (over_at m *ℤ under_at (m + 1)) ≤ℤ (over_at (m + 1) *ℤ under_at m) → m ≤ t → fit_at t ≡ false
    none_after m t h rises l =
        let grown = rising (over_at m) (under_at m) (over_at (m + 1)) (under_at (m + 1)) rises in
        let large = above_onward (over_at m) (under_at m) (squared_width r) (over_at (m + 1)) (under_at (m + 1)) (under_above m) (under_above (m + 1)) (above-fit m h) grown in
        not_true (fit_at t) (λ f.
        ⊎_elim
        (λ (a : m + 1 < t).
        no_peak_after m (m + 1) t (omega arith) a grown
        (above_within (over_at t) (under_at t) (squared_width r) (over_at (m + 1)) (under_at (m + 1)) (under_above t) (under_above (m + 1)) (within-fit t f) large))
        (λ (a : t ≤ m + 1). ⊎_elim
        (λ (b : m < t). let is : t ≡ m + 1 = omega arith in
        let P : ℕ → Type 0 = λ k. fit_at k ≡ true in
        not_both (over_at (m + 1)) (squared_width r *ℤ under_at (m + 1)) large (within-fit (m + 1) (subst P is f)))
        (λ (b : t ≤ m). let is : t ≡ m = omega arith in true_false (fit_at t) (fit_at m) (ap fit_at is) f h)
        (cases_lt m t))
        (cases_lt (m + 1) t))
