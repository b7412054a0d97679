-- For this crate and for the crates above: motions that are further apart than a distance on one axis at both ends of a window are so at each tick between.
use Rattle.std.proofs.Common.{◌≡◌, ℕ, ◌+◌, ◌-◌, ◌≤◌, Bool, true, false, ◌&&◌, ◌||◌, [], ℤ, pos, ◌+ℤ◌, ◌-ℤ◌, ◌*ℤ◌, neg_ℤ, ◌≤ℤ◌, ◌<ℤ◌, int_le, ◌⊎◌, inl, inr, refl, ap, subst, sym, ◌∙◌, List, arith}
use Rattle.std.specs.Prelude.{int_lt}
use Rattle.std.proofs.lemmas.Bool.{or_cases, and_parts, cases_Bool}
use Rattle.std.proofs.lemmas.Bool.Decides.{nat_tests}
use Rattle.std.proofs.lemmas.Int.{ints, by_lt_z}
use Rattle.case_table.specs.Comparison.{compares, sign_holds}
use Rattle.case_table.specs.declared.compare.Op.{Op}
use Rattle.case_table.specs.declared.compare.Op.TheVariants.{Lt, Le, Eq, Ne, Ge, Gt}
use Rattle.exact.proofs.Ring.{part, number, sum, difference, product, opposite, same}
use Rattle.exact.proofs.Integers.{above_fails_at_most, above_fails_less, below_from_int_test, below_passes_at_most, below_passes_less, less_by, line_later, not_negative, opposite_above, opposite_least, opposite_most, opposite_rise, product_least, sum_above_by_first, sum_above_by_second}
use Rattle.geometry.specs.Circle.{squared_width}
use Rattle.geometry.specs.Distance.{distance_compares}
use Rattle.geometry.specs.Plane.{square}
use Rattle.linear_crossing.proofs.Apart.{apart}
use Rattle.linear_crossing.specs.Moving.{distance_after}
use Rattle.linear_crossing.specs.Relative.{Relative, squared_distance_at}
use Rattle.linear_crossing.specs.declared.quad.Line.{Line}
use Rattle.tick_set.specs.Runs.{IsRuns}
use Rattle.tick_set.specs.Ticks.{within}
use Rattle.tick_set.specs.declared.spans.Span.{Span}
use Rattle.tick_set.specs.declared.spans.Window.{Window}
use Rattle.distance_crossing.specs.Far.{are_past, pass_by, stays_past}
use Rattle.distance_crossing.specs.NearTicks.{are_near, distance_holds_at, is_near_at, motions_compare}
use Rattle.distance_crossing.specs.Triples.{IsTripleOf}
use Rattle.distance_crossing.specs.declared.comparison.Triple.{Triple}
use Rattle.distance_crossing.proofs.RunLists.{runs_by, triple_by}
use Rattle.distance_crossing.proofs.Signs.{product_above, square_least}

-- ---- a number that begins at x and changes by d at each tick
pub rise_least : (d : ℤ) (k : ℕ) → pos 0 ≤ℤ d → pos 0 ≤ℤ (d *ℤ pos k)
rise_least d k p = product_least d (pos k) p (omega (arith, ints))

pub fall_most : (d : ℤ) (k : ℕ) → d <ℤ pos 0 → (d *ℤ pos k) ≤ℤ pos 0
fall_most d k n =
    let P : ℤ → Type 0 = λ z. pos 0 ≤ℤ z in
    opposite_most (d *ℤ pos k) (subst P (opposite_rise d k) (rise_least (neg_ℤ d) k (opposite_least d n)))

above_less : (c a b u : ℤ) → c <ℤ b → b ≡ a +ℤ u → u ≤ℤ pos 0 → c <ℤ a
above_less c a b u l e n = omega (arith, ints)

below_less : (c x u : ℤ) → x <ℤ c → u ≤ℤ pos 0 → (x +ℤ u) <ℤ c
below_less c x u l n = omega (arith, ints)

below_more : (c a b u : ℤ) → b <ℤ c → b ≡ a +ℤ u → pos 0 ≤ℤ u → a <ℤ c
below_more c a b u l e p = omega (arith, ints)

above_between : (c x d : ℤ) (k m : ℕ) → c <ℤ x → c <ℤ (x +ℤ d *ℤ pos (k + m)) → c <ℤ (x +ℤ d *ℤ pos k)
above_between c x d k m first last =
    by_lt_z d (pos 0)
    (λ n. above_less c (x +ℤ d *ℤ pos k) (x +ℤ d *ℤ pos (k + m)) (d *ℤ pos m) last (line_later x d k m) (fall_most d m n))
    (λ p. sum_above_by_first c x (d *ℤ pos k) first (rise_least d k p))

below_between : (c x d : ℤ) (k m : ℕ) → x <ℤ c → (x +ℤ d *ℤ pos (k + m)) <ℤ c → (x +ℤ d *ℤ pos k) <ℤ c
below_between c x d k m first last =
    by_lt_z d (pos 0)
    (λ n. below_less c x (d *ℤ pos k) first (fall_most d k n))
    (λ p. below_more c (x +ℤ d *ℤ pos k) (x +ℤ d *ℤ pos (k + m)) (d *ℤ pos m) last (line_later x d k m) (rise_least d m p))

-- further from 0 than c, on one side or the other
abbrev IsPast : ℤ → ℤ → Type 0
IsPast c v = (c <ℤ v) ⊎ (v <ℤ neg_ℤ c)

are_less : (a b u v : ℤ) → (int_lt a b && int_lt u v) ≡ true → (a <ℤ b) × (u <ℤ v)
are_less a b u v e = let both = and_parts (int_lt a b) (int_lt u v) e in (below_from_int_test a b both.0, below_from_int_test u v both.1)

past_between : (c x d : ℤ) (k m : ℕ) → stays_past c x d (k + m) ≡ true → IsPast c (x +ℤ d *ℤ pos k)
past_between c x d k m e =
    let last = x +ℤ d *ℤ pos (k + m) in
    elim (or_cases (int_lt c x && int_lt c last) (int_lt x (neg_ℤ c) && int_lt last (neg_ℤ c)) e) [
      | inl h ↦ let both = are_less c x c last h in inl (above_between c x d k m both.0 both.1)
      | inr h ↦ let both = are_less x (neg_ℤ c) last (neg_ℤ c) h in inr (below_between (neg_ℤ c) x d k m both.0 both.1)
    ]

-- ---- as it is computed
or_first : (r a b : Bool) → r ≡ true → r ≡ a → r ≡ (a || b)
or_first r a b t e = grind (arith, t, e)

or_second : (f r a b : Bool) → f ≡ false → f ≡ a → r ≡ b → r ≡ (a || b)
or_second f r a b n e h = grind (arith, n, e, h)

pub above_is : (c x y c' x' y' : ℤ) (r : Bool) → c' ≡ c → x' ≡ x → y' ≡ y → r ≡ true → r ≡ (int_lt c' x' && int_lt c' y') → r ≡ are_past c x y
above_is c x y c' x' y' r d e f t h =
    or_first r (int_lt c x && int_lt c y) (int_lt x (neg_ℤ c) && int_lt y (neg_ℤ c)) t (h ∙ (λ i. int_lt (d i) (e i) && int_lt (d i) (f i)))

pub below_is : (c x y c' n' x' y' : ℤ) (s r : Bool) → c' ≡ c → n' ≡ neg_ℤ c → x' ≡ x → y' ≡ y → s ≡ false → s ≡ (int_lt c' x' && int_lt c' y')
    → r ≡ (int_lt x' n' && int_lt y' n') → r ≡ are_past c x y
below_is c x y c' n' x' y' s r d n e f t g h =
    or_second s r (int_lt c x && int_lt c y) (int_lt x (neg_ℤ c) && int_lt y (neg_ℤ c)) t
    (g ∙ (λ i. int_lt (d i) (e i) && int_lt (d i) (f i)))
    (h ∙ (λ i. int_lt (e i) (n i) && int_lt (f i) (n i)))

module _ (c : ℤ) (p q : Line) (last : ℕ) where
  abbrev first_axis : Bool
  first_axis = stays_past c (q.at.x -ℤ p.at.x) (q.dx -ℤ p.dx) last

  abbrev second_axis : Bool
  second_axis = stays_past c (q.at.y -ℤ p.at.y) (q.dy -ℤ p.dy) last

  pub by_first : (r : Bool) → r ≡ true → r ≡ first_axis → r ≡ pass_by c p q last
  by_first r t e = or_first r first_axis second_axis t e

  pub by_second : (f r : Bool) → f ≡ false → f ≡ first_axis → r ≡ second_axis → r ≡ pass_by c p q last
  by_second f r n e h = or_second f r first_axis second_axis n e h

-- ---- squares
squares_apart : (c v : ℤ) → (v -ℤ c) *ℤ (v +ℤ c) ≡ square v -ℤ square c
squares_apart c v =
    same (product (difference (part v) (part c)) (sum (part v) (part c))) (difference (product (part v) (part v)) (product (part c) (part c))) (omega arith)

square_above : (c v : ℤ) → pos 0 ≤ℤ c → c <ℤ v → square c <ℤ square v
square_above c v p l =
    let P : ℤ → Type 0 = λ z. pos 0 <ℤ z in
    less_by (square c) (square v) (subst P (squares_apart c v) (product_above (v -ℤ c) (v +ℤ c) (omega (arith, ints)) (omega (arith, ints))))

pub opposite_square : (v : ℤ) → square (neg_ℤ v) ≡ square v
opposite_square v = same (product (opposite (part v)) (opposite (part v))) (product (part v) (part v)) (omega arith)

pub square_below : (c v : ℤ) → pos 0 ≤ℤ c → v <ℤ neg_ℤ c → square c <ℤ square v
square_below c v p l =
    let P : ℤ → Type 0 = λ z. square c <ℤ z in
    subst P (opposite_square v) (square_above c (neg_ℤ v) p (opposite_above c v l))

square_past : (c v : ℤ) → pos 0 ≤ℤ c → IsPast c v → square c <ℤ square v
square_past c v p h = elim h [ inl above ↦ square_above c v p above | inr below ↦ square_below c v p below ]

square_between : (c x d : ℤ) (k last : ℕ) → pos 0 ≤ℤ c → k ≤ last → stays_past c x d last ≡ true → square c <ℤ square (x +ℤ d *ℤ pos k)
square_between c x d k last p l e =
    let whole : last ≡ k + (last - k) = omega arith in
    let P : ℕ → Type 0 = λ n. stays_past c x d n ≡ true in
    square_past c (x +ℤ d *ℤ pos k) p (past_between c x d k (last - k) (subst P whole e))

-- ---- the square of the distance
-- further apart than c at each of the ticks up to the last; each distance is above a c below 0
abbrev pub IsFar : ℤ → Line → Line → ℕ → Type 0
IsFar c p q last = pos 0 ≤ℤ c → (k : ℕ) → k ≤ last → square c <ℤ distance_after p q k

module _ (p q : Line) where
  -- the second motion as the first one sees it
  abbrev seen : Relative
  seen = record { x = q.at.x -ℤ p.at.x; y = q.at.y -ℤ p.at.y; dx = q.dx -ℤ p.dx; dy = q.dy -ℤ p.dy }

  seen_far : (c : ℤ) (last k : ℕ) → pass_by c p q last ≡ true → pos 0 ≤ℤ c → k ≤ last → square c <ℤ squared_distance_at seen k
  seen_far c last k e positive l =
      let x = seen.x +ℤ seen.dx *ℤ pos k in
      let y = seen.y +ℤ seen.dy *ℤ pos k in
      elim (or_cases (stays_past c seen.x seen.dx last) (stays_past c seen.y seen.dy last) e) [
        | inl h ↦ sum_above_by_first (square c) (square x) (square y) (square_between c seen.x seen.dx k last positive l h) (square_least y)
        | inr h ↦ sum_above_by_second (square c) (square x) (square y) (square_between c seen.y seen.dy k last positive l h) (square_least x)
      ]

  seen_is : (k : ℕ) → squared_distance_at seen k ≡ distance_after p q k
  seen_is k = apart p q seen k refl refl refl refl

  pub passes_far : (c : ℤ) (last : ℕ) → pass_by c p q last ≡ true → IsFar c p q last
  passes_far c last e = λ positive k l.
      let P : ℤ → Type 0 = λ z. square c <ℤ z in
      subst P (seen_is k) (seen_far c last k e positive l)

-- ---- how a distance above c compares with it
pub above_Eq : (s v : ℤ) → s <ℤ v → compares Eq v s ≡ false
above_Eq s v l = grind (arith, ints, nat_tests)

pub above_Ne : (s v : ℤ) → s <ℤ v → compares Ne v s ≡ true
above_Ne s v l = grind (arith, ints, nat_tests)

pub compares_above : (op : Op) (s v : ℤ) → s <ℤ v → compares op v s ≡ sign_holds op (pos 1)
compares_above Lt s v l = above_fails_less s v l
compares_above Le s v l = above_fails_at_most s v l
compares_above Eq s v l = above_Eq s v l
compares_above Ne s v l = above_Ne s v l
compares_above Ge s v l = below_passes_at_most s v l
compares_above Gt s v l = below_passes_less s v l

pub distance_above : (op : Op) (c v : ℤ) → (pos 0 ≤ℤ c → square c <ℤ v) → distance_compares op c v ≡ sign_holds op (pos 1)
distance_above op c v h =
    elim (cases_Bool (int_le (pos 0) c)) [
      | inl is ↦ rw is (compares_above op (square c) v (h (not_negative c is)))
      | inr is ↦ rw is
    ]

-- ---- the ticks of a window
agree_here : (here a b : Bool) → (here ≡ true → a ≡ b) → (here && a) ≡ (here && b)
agree_here true a b h = h refl
agree_here false a b h = refl

none_here : (here a : Bool) → (here ≡ true → a ≡ false) → false ≡ (here && a)
none_here true a h = sym (h refl)
none_here false a h = refl

inside : (lo hi t : ℕ) → within lo hi t ≡ true → t - lo ≤ hi - lo
inside lo hi t e = grind (arith, nat_tests)

width_is : (r : ℤ) → square (pos 2 *ℤ r) ≡ squared_width r
width_is r =
    let twice = product (number 2) (part r) in
    same (product twice twice) (product (number 4) (product (part r) (part r))) (omega arith)

not_within : (v width limit : ℤ) → width <ℤ v → width ≡ limit → int_le v limit ≡ false
not_within v width limit l e = grind (arith, ints)

module _ (p q : Line) (w : Window) where
  pub far_compares : (op : Op) (c : ℤ) (all : Bool) (x : Triple) → IsFar c p q (w.hi - w.lo) → all ≡ sign_holds op (pos 1) → IsTripleOf (λ t. within w.lo w.hi t && all) x
      → IsTripleOf (motions_compare p q op c w) x
  far_compares op c all x far is h =
      triple_by (λ t. within w.lo w.hi t && all) (motions_compare p q op c w) x h
      (λ t.
      agree_here (within w.lo w.hi t) all (distance_compares op c (distance_after p q (t - w.lo)))
      (λ here. is ∙ sym (distance_above op c (distance_after p q (t - w.lo)) (λ positive. far positive (t - w.lo) (inside w.lo w.hi t here)))))

  pub far_never_near : (r c : ℤ) → pos 0 ≤ℤ c → c ≡ pos 2 *ℤ r → IsFar c p q (w.hi - w.lo) → IsRuns (are_near r p q w) []
  far_never_near r c positive twice far = record {
    normal = tt;
    ticks = λ t.
        none_here (within w.lo w.hi t) (int_le (distance_after p q (t - w.lo)) (squared_width r))
        (λ here.
        not_within (distance_after p q (t - w.lo)) (square c) (squared_width r) (far positive (t - w.lo) (inside w.lo w.hi t here)) (ap square twice ∙ width_is r));
  }

  -- of motions that are seen from each other
  module _ (m : Relative) (value : (k : ℕ) → squared_distance_at m k ≡ distance_after p q k) where
    pub seen_compares : (op : Op) (c : ℤ) (x : Triple) → IsTripleOf (distance_holds_at m op c w) x → IsTripleOf (motions_compare p q op c w) x
    seen_compares op c x h =
        triple_by (distance_holds_at m op c w) (motions_compare p q op c w) x h (λ t i. within w.lo w.hi t && distance_compares op c (value (t - w.lo) i))

    pub seen_near : (r limit : ℤ) (xs : List Span) → limit ≡ squared_width r → IsRuns (is_near_at m limit w) xs → IsRuns (are_near r p q w) xs
    seen_near r limit xs width h =
        runs_by (is_near_at m limit w) (are_near r p q w) xs h (λ t i. within w.lo w.hi t && int_le (value (t - w.lo) i) (width i))
