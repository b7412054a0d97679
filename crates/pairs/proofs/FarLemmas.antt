-- Motions along lines that keep further apart than a distance: where they reach on one axis, or as one leads past the other.
use Rattle.std.proofs.Common.{◌≡◌, ℕ, ◌+◌, ◌-◌, ◌*◌, ◌<◌, ◌≤◌, Bool, true, false, ℤ, pos, ◌+ℤ◌, ◌-ℤ◌, ◌*ℤ◌, neg_ℤ, ◌≤ℤ◌, ◌<ℤ◌, ◌⊎◌, inl, inr, refl, ap, subst, ◌∙◌, arith}
use Rattle.std.specs.Prelude.{int_le, int_lt, nat_lt, unsigned_abs}
use Rattle.std.proofs.lemmas.Bool.{cases_Bool}
use Rattle.std.proofs.lemmas.Bool.Decides.{nat_tests}
use Rattle.std.proofs.lemmas.Int.{ints, by_lt_z, unsigned_abs-mul}
use Rattle.case_table.specs.Comparison.{compares, is_at_most}
use Rattle.case_table.specs.declared.compare.Op.{Op}
use Rattle.case_table.specs.declared.compare.Op.TheVariants.{Lt, Le, Eq, Ne, Ge, Gt}
use Rattle.exact.proofs.Ring.{part, number, sum, difference, product, same}
use Rattle.exact.proofs.Integers.{less_by, line_later, not_negative, sum_above_by_first, sum_above_by_second}
use Rattle.geometry.specs.Distance.{distance_compares}
use Rattle.geometry.specs.Plane.{square}
use Rattle.linear_crossing.proofs.Apart.{apart}
use Rattle.linear_crossing.specs.Moving.{distance_after, position_after}
use Rattle.linear_crossing.specs.Relative.{Relative, squared_distance_at}
use Rattle.linear_crossing.specs.declared.quad.Line.{Line}
use Rattle.distance_crossing.proofs.Signs.{product_above, square_least}
use Rattle.distance_crossing.proofs.FarLemmas.{fall_most, rise_least}
use Rattle.pairs.specs.Reach.{IsReached}
use Rattle.pairs.specs.declared.reach.Reach.{Reach}
use Rattle.atoms.specs.Routes.{IsPast}
use Rattle.atoms.proofs.RouteLemmas.{square_past}

-- ---- a coordinate that begins at x and changes by d at each tick
-- it is between where it begins and where it is at the last tick
between : (x d : ℤ) (k m : ℕ) →
    ((x ≤ℤ (x +ℤ d *ℤ pos k)) × ((x +ℤ d *ℤ pos k) ≤ℤ (x +ℤ d *ℤ pos (k + m)))) ⊎ (((x +ℤ d *ℤ pos (k + m)) ≤ℤ (x +ℤ d *ℤ pos k)) × ((x +ℤ d *ℤ pos k) ≤ℤ x))
between x d k m =
    let is = line_later x d k m in
    by_lt_z d (pos 0)
    (λ n. let first = fall_most d k n in let second = fall_most d m n in inr (omega (arith, ints, is, first, second), omega (arith, ints, first)))
    (λ p. let first = rise_least d k p in let second = rise_least d m p in inl (omega (arith, ints, first), omega (arith, ints, is, first, second)))

both_ends : (least greatest x y z : ℤ) → least ≤ℤ x → x ≤ℤ greatest → least ≤ℤ z → z ≤ℤ greatest → ((x ≤ℤ y) × (y ≤ℤ z)) ⊎ ((z ≤ℤ y) × (y ≤ℤ x)) →
    (least ≤ℤ y) × (y ≤ℤ greatest)
both_ends least greatest x y z a b c d between =
    elim between [
      | inl up ↦ let first = up.0 in let second = up.1 in (omega (arith, ints, a, first), omega (arith, ints, d, second))
      | inr down ↦ let first = down.0 in let second = down.1 in (omega (arith, ints, c, first), omega (arith, ints, b, second))
    ]

pub reached : (r : Reach) (x d : ℤ) (last k : ℕ) → k ≤ last → IsReached r x → IsReached r (x +ℤ d *ℤ pos last) → IsReached r (x +ℤ d *ℤ pos k)
reached r x d last k l begins ends =
    let whole : last ≡ k + (last - k) = omega arith in
    let end = subst (λ n. IsReached r (x +ℤ d *ℤ pos n)) whole ends in
    both_ends r.least r.greatest x (x +ℤ d *ℤ pos k) (x +ℤ d *ℤ pos (k + (last - k))) begins.0 begins.1 end.0 end.1 (between x d k (last - k))

-- a coordinate above all others, or below them, by more than c
pub past_above : (c l g m n : ℤ) → int_lt c (l -ℤ g) ≡ true → l ≤ℤ n → m ≤ℤ g → IsPast c (n -ℤ m)
past_above c l g m n far least greatest = let gap : c <ℤ (l -ℤ g) = grind (arith, ints, far) in inl (omega (arith, ints))

pub past_below : (c l g m n : ℤ) → int_lt c (l -ℤ g) ≡ true → l ≤ℤ m → n ≤ℤ g → IsPast c (n -ℤ m)
past_below c l g m n far least greatest = let gap : c <ℤ (l -ℤ g) = grind (arith, ints, far) in inr (omega (arith, ints))

-- ---- squares
squares_apart : (c v : ℤ) → (v -ℤ c) *ℤ (v +ℤ c) ≡ square v -ℤ square c
squares_apart c v =
    same (product (difference (part v) (part c)) (sum (part v) (part c))) (difference (product (part v) (part v)) (product (part c) (part c))) (omega arith)

square_above : (c v : ℤ) → pos 0 ≤ℤ c → c <ℤ v → square c <ℤ square v
square_above c v p l =
    let P : ℤ → Type 0 = λ z. pos 0 <ℤ z in
    less_by (square c) (square v) (subst P (squares_apart c v) (product_above (v -ℤ c) (v +ℤ c) (omega (arith, ints)) (omega (arith, ints))))

-- past the other on one axis, it is further away than that
pub far_by_first : (c u v : ℤ) → pos 0 ≤ℤ c → IsPast c u → square c <ℤ (square u +ℤ square v)
far_by_first c u v p past = sum_above_by_first (square c) (square u) (square v) (square_past c u p past) (square_least v)

pub far_by_second : (c u v : ℤ) → pos 0 ≤ℤ c → IsPast c v → square c <ℤ (square u +ℤ square v)
far_by_second c u v p past = sum_above_by_second (square c) (square u) (square v) (square_past c v p past) (square_least u)

-- ---- a place that moves along a line past a square
past_or_within : (c a : ℤ) → pos 0 ≤ℤ c → IsPast c a ⊎ (unsigned_abs a ≤ unsigned_abs c)
past_or_within c a p = by_lt_z c a (λ l. inl (inl l)) (λ l. by_lt_z a (neg_ℤ c) (λ m. inl (inr m)) (λ m. inr (omega (arith, ints))))

-- the cross product of the place and the step doesn't change
turn_same : (x y u v : ℤ) (k : ℕ) → (x +ℤ u *ℤ pos k) *ℤ v -ℤ (y +ℤ v *ℤ pos k) *ℤ u ≡ x *ℤ v -ℤ y *ℤ u
turn_same x y u v k =
    same
    (difference (product (sum (part x) (product (part u) (number k))) (part v)) (product (sum (part y) (product (part v) (number k))) (part u)))
    (difference (product (part x) (part v)) (product (part y) (part u))) (omega arith)

times_most : (m n c : ℕ) → m ≤ c → m * n ≤ c * n
times_most m n c l = let whole : c ≡ m + (c - m) = omega arith in let more : c * n ≡ m * n + (c - m) * n = ap (λ z. z * n) whole ∙ grind arith in omega (arith, more)

difference_most : (d e : ℤ) → unsigned_abs (d -ℤ e) ≤ unsigned_abs d + unsigned_abs e
difference_most d e = omega (arith, ints)

-- in the square it is at most so much
turn_most : (a b u v : ℤ) (c : ℕ) → unsigned_abs a ≤ c → unsigned_abs b ≤ c → unsigned_abs (a *ℤ v -ℤ b *ℤ u) ≤ c * (unsigned_abs u + unsigned_abs v)
turn_most a b u v c l m =
    let all = difference_most (a *ℤ v) (b *ℤ u) in
    let left = unsigned_abs-mul a v in
    let right = unsigned_abs-mul b u in
    let first = times_most (unsigned_abs a) (unsigned_abs v) c l in
    let second = times_most (unsigned_abs b) (unsigned_abs u) c m in
    let whole : c * (unsigned_abs u + unsigned_abs v) ≡ c * unsigned_abs u + c * unsigned_abs v = grind arith in
    omega (arith, all, left, right, first, second, whole)

outside_square : (c x y u v : ℤ) (k : ℕ) → pos 0 ≤ℤ c → unsigned_abs c * (unsigned_abs u + unsigned_abs v) < unsigned_abs (x *ℤ v -ℤ y *ℤ u) →
    square c <ℤ (square (x +ℤ u *ℤ pos k) +ℤ square (y +ℤ v *ℤ pos k))
outside_square c x y u v k p far =
    let a = x +ℤ u *ℤ pos k in
    let b = y +ℤ v *ℤ pos k in
    elim (past_or_within c a p) [
      | inl past ↦ far_by_first c a b p past
      | inr l ↦
          elim (past_or_within c b p) [
            | inl past ↦ far_by_second c a b p past
            | inr m ↦
                let most = turn_most a b u v (unsigned_abs c) l m in
                let is = ap unsigned_abs (turn_same x y u v k) in
                absurd (omega (arith, most, is, far))
          ]
    ]

-- as it is computed
leads_by : (c x y u v x' y' u' v' : ℤ) (r t : ℕ) → r ≡ unsigned_abs c * (unsigned_abs u' + unsigned_abs v') → t ≡ unsigned_abs (x' *ℤ v' -ℤ y' *ℤ u') →
    x' ≡ x → y' ≡ y → u' ≡ u → v' ≡ v → nat_lt r t ≡ true → unsigned_abs c * (unsigned_abs u + unsigned_abs v) < unsigned_abs (x *ℤ v -ℤ y *ℤ u)
leads_by c x y u v x' y' u' v' r t is says d e f g h =
    let first : r ≡ unsigned_abs c * (unsigned_abs u + unsigned_abs v) = is ∙ (λ i. unsigned_abs c * (unsigned_abs (f i) + unsigned_abs (g i))) in
    let second : t ≡ unsigned_abs (x *ℤ v -ℤ y *ℤ u) = says ∙ (λ i. unsigned_abs (d i *ℤ g i -ℤ e i *ℤ f i)) in
    let less : r < t = grind (arith, nat_tests, h) in
    omega (arith, first, second, less)

module _ (p q : Line) where
  -- the second motion as the first one sees it
  abbrev seen : Relative
  seen = record { x = q.at.x -ℤ p.at.x; y = q.at.y -ℤ p.at.y; dx = q.dx -ℤ p.dx; dy = q.dy -ℤ p.dy }

  pub leads_far : (c x y u v : ℤ) (r t : ℕ) → r ≡ unsigned_abs c * (unsigned_abs u + unsigned_abs v) → t ≡ unsigned_abs (x *ℤ v -ℤ y *ℤ u) →
      x ≡ seen.x → y ≡ seen.y → u ≡ seen.dx → v ≡ seen.dy → nat_lt r t ≡ true → pos 0 ≤ℤ c → (k : ℕ) → square c <ℤ distance_after p q k
  leads_far c x y u v r t is says d e f g h positive k =
      subst (λ z. square c <ℤ z) (apart p q seen k refl refl refl refl)
      (outside_square c seen.x seen.y seen.dx seen.dy k positive (leads_by c seen.x seen.y seen.dx seen.dy x y u v r t is says d e f g h))

-- ---- how a distance above c compares with it
above_none : (op : Op) (s v : ℤ) → is_at_most op ≡ true → s <ℤ v → compares op v s ≡ false
above_none Lt s v e l = grind (arith, ints)
above_none Le s v e l = grind (arith, ints)
above_none Eq s v e l = grind (arith, ints, nat_tests)
above_none Ne s v e l = absurd (let f : false ≡ true = e in cc)
above_none Ge s v e l = absurd (let f : false ≡ true = e in cc)
above_none Gt s v e l = absurd (let f : false ≡ true = e in cc)

-- a number below 0 is at no distance
none_below : (op : Op) (c v : ℤ) → is_at_most op ≡ true → int_le (pos 0) c ≡ false → distance_compares op c v ≡ false
none_below Lt c v e n = rw n
none_below Le c v e n = rw n
none_below Eq c v e n = rw n
none_below Ne c v e n = absurd (let f : false ≡ true = e in cc)
none_below Ge c v e n = absurd (let f : false ≡ true = e in cc)
none_below Gt c v e n = absurd (let f : false ≡ true = e in cc)

pub far_never : (op : Op) (c v : ℤ) → is_at_most op ≡ true → (pos 0 ≤ℤ c → square c <ℤ v) → distance_compares op c v ≡ false
far_never op c v near far =
    elim (cases_Bool (int_le (pos 0) c)) [
      | inl is ↦ rw is (above_none op (square c) v near (far (not_negative c is)))
      | inr is ↦ none_below op c v near is
    ]
