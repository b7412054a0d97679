-- Objects that are no further apart than so far, along each axis.
use Rattle.std.proofs.Common.{◌≡◌, ℕ, ◌*◌, ◌≤◌, ◌==◌, Bool, true, false, ◌&&◌, ◌||◌, Option, None, Some, Result, Ok, Err, List, [], ◌∷◌, ◌++◌, ℤ, pos, negsuc, ◌+ℤ◌, ◌-ℤ◌, ◌*ℤ◌, neg_ℤ, ◌≤ℤ◌, ◌<ℤ◌, int_le, inl, inr, refl, sym, ap, subst, ◌∙◌, arith}
use Rattle.std.specs.Prelude.{if◌then◌else◌, IfOk, IfSome, option_and_then, slice_get}
use Rattle.std.specs.Option.{option_map_or}
use Rattle.std.specs.List.Sorted.{IsStrictlyIncreasing}
use Rattle.std.proofs.lemmas.Bool.{false≢true, and_parts, both_ways, cases_Bool}
use Rattle.std.proofs.lemmas.Int.{ints}
use Rattle.case_table.specs.Comparison.{is_at_most, sign_holds}
use Rattle.case_table.specs.declared.compare.Op.{Op}
use Rattle.case_table.specs.declared.compare.Op.TheVariants.{Lt, Le, Eq, Ne, Ge, Gt}
use Rattle.exact.proofs.Ring.{part, sum, difference, product, same}
use Rattle.exact.proofs.Truths.{and_swap}
use Rattle.exact.proofs.Integers.{above_fails_at_most, above_fails_less, above_from_int_test, at_most_from_int_test, less_by, product_least, product_one_less, sum_above_by_first, sum_above_by_second}
use Rattle.fixed_point.specs.declared.number.Point.{Point}
use Rattle.geometry.specs.Plane.{point, square}
use Rattle.geometry.proofs.Squares.{square_is}
use Rattle.history.specs.History.{cells_at}
use Rattle.formula.specs.declared.tree.RAtom.{RAtom}
use Rattle.formula.specs.declared.tree.RAtom.TheVariants as atoms
use Rattle.formula_shape.specs.Shape as shapes
use Rattle.meaning.specs.Atom.{place_by, position_in}
use Rattle.meaning.specs.Trace.{trace_of}
use Rattle.motion.specs.Dynamic.{Dynamic, value_at}
use Rattle.motion.specs.declared.cell.Cell.{Cell}
use Rattle.motion.specs.declared.cell.Cell.TheVariants as cells
use Rattle.motion.specs.Cells.{dynamic_of}
use Rattle.object_store.specs.declared.areas.Area.{Area}
use Rattle.object_store.specs.declared.areas.Sides.{Sides}
use Rattle.object_store.specs.Areas.{is_between_sides, is_cell_between, is_in_area, is_told, AreNear}
use Rattle.object_store.specs.Contents.{Contents, history_of}
use Rattle.relation.specs.Frames.{IsIn}
use Rattle.relation.specs.Key.{has_id}
use Rattle.worlds.specs.Apart.{farthest_square, least_apart, nearest_square, possibly_compares}
use Rattle.worlds.specs.Blurred.{distance_holds_by, error_between}
use Rattle.narrowing.specs.declared.scene.Scene.{Scene}
use Rattle.narrowing.specs.Beside.{are_beside, is_close, AreBeside, AreDomainOf, AreFar, IsApart, IsGrown, IsGrownSides, IsWithNear, IsWithThose, NeedsBeside}
use Rattle.narrowing.specs.Holding.{AreLost, FailsWith}
use Rattle.narrowing.specs.Needed.{AreNeeded, CannotHoldIn}
use Rattle.narrowing.proofs.FailLemmas.{not_possible}
use Rattle.narrowing.proofs.HoldingLemmas.{lost_first, none_lost}
use Rattle.narrowing.proofs.ListLemmas.{has-append}

-- ---- squares

product_above : (a b : ℤ) → pos 0 <ℤ a → pos 0 <ℤ b → pos 0 <ℤ (a *ℤ b)
product_above a b p q =
    let rest = product_least (a -ℤ pos 1) (b -ℤ pos 1) (omega (arith, ints)) (omega (arith, ints)) in
    let is = product_one_less a b in
    omega (arith, ints)

square_least : (x : ℤ) → pos 0 ≤ℤ square x
square_least x = let whole = square_is x in omega (arith, ints)

squares_apart : (c v : ℤ) → (v -ℤ c) *ℤ (v +ℤ c) ≡ square v -ℤ square c
squares_apart c v =
    same (product (difference (part v) (part c)) (sum (part v) (part c))) (difference (product (part v) (part v)) (product (part c) (part c))) (omega arith)

square_above : (c v : ℤ) → pos 0 ≤ℤ c → c <ℤ v → square c <ℤ square v
square_above c v p l =
    let P : ℤ → Type 0 = λ z. pos 0 <ℤ z in
    less_by (square c) (square v) (subst P (squares_apart c v) (product_above (v -ℤ c) (v +ℤ c) (omega (arith, ints)) (omega (arith, ints))))

-- ---- what isn't beside is further apart

-- a square that is below the least one isn't reached
compares_not : (op : Op) → is_at_most op ≡ true → (c low high : ℤ) → (pos 0 ≤ℤ c → square c <ℤ low) → (b : Bool) → int_le (pos 0) c ≡ b →
    (if b then possibly_compares op low high (square c) else sign_holds op (pos 1)) ≡ false
compares_not Lt upper c low high far true is = above_fails_less (square c) low (far (at_most_from_int_test (pos 0) c is))
compares_not Le upper c low high far true is = above_fails_at_most (square c) low (far (at_most_from_int_test (pos 0) c is))
compares_not Eq upper c low high far true is = ap (λ b. b && int_le (square c) high) (above_fails_at_most (square c) low (far (at_most_from_int_test (pos 0) c is)))
compares_not Lt upper c low high far false is = refl
compares_not Le upper c low high far false is = refl
compares_not Eq upper c low high far false is = refl
compares_not Ne upper c low high far b is = absurd (false≢true upper)
compares_not Ge upper c low high far b is = absurd (false≢true upper)
compares_not Gt upper c low high far b is = absurd (false≢true upper)

module _ (error by : ℕ) (less : by ≤ error) where
  past : (c d : ℤ) → pos 0 ≤ℤ c → (c +ℤ pos (2 * error)) <ℤ d → c <ℤ pos (least_apart by d)
  past (pos k) (pos n) positive far = omega (arith, ints, less, far)
  past (pos k) (negsuc n) positive far = absurd (omega (arith, ints, far))
  past (negsuc k) d positive far = absurd (omega (arith, ints, positive))

  past_opposite : (c d : ℤ) → pos 0 ≤ℤ c → (c +ℤ pos (2 * error)) <ℤ neg_ℤ d → c <ℤ pos (least_apart by d)
  past_opposite (pos k) (pos n) positive far = absurd (omega (arith, ints, far))
  past_opposite (pos k) (negsuc n) positive far = omega (arith, ints, less, far)
  past_opposite (negsuc k) d positive far = absurd (omega (arith, ints, positive))

  other_way : (most m n : ℤ) → most <ℤ (m -ℤ n) → most <ℤ neg_ℤ (n -ℤ m)
  other_way most m n far = omega (arith, ints, far)

  not_close : (c m n : ℤ) → pos 0 ≤ℤ c → is_close (c +ℤ pos (2 * error)) m n ≡ false → c <ℤ pos (least_apart by (n -ℤ m))
  not_close c m n positive fails =
      let most = c +ℤ pos (2 * error) in
      elim (cases_Bool (int_le (m -ℤ n) most)) [
        | inl upto ↦ past c (n -ℤ m) positive (above_from_int_test (n -ℤ m) most (ap (λ b. b && int_le (n -ℤ m) most) (sym upto) ∙ fails))
        | inr beyond ↦ past_opposite c (n -ℤ m) positive (other_way most m n (above_from_int_test (m -ℤ n) most beyond))
      ]

  far_apart : (c : ℤ) (p q : Point) → pos 0 ≤ℤ c → (is_close (c +ℤ pos (2 * error)) p.x q.x && is_close (c +ℤ pos (2 * error)) p.y q.y) ≡ false →
      square c <ℤ nearest_square by p q
  far_apart c p q positive fails =
      let most = c +ℤ pos (2 * error) in
      let along_x = pos (least_apart by (q.x -ℤ p.x)) in
      let along_y = pos (least_apart by (q.y -ℤ p.y)) in
      elim (cases_Bool (is_close most p.x q.x)) [
        | inr apart ↦ sum_above_by_first (square c) (square along_x) (square along_y) (square_above c along_x positive (not_close c p.x q.x positive apart)) (square_least along_y)
        | inl close ↦
            sum_above_by_second (square c) (square along_x) (square along_y)
            (square_above c along_y positive (not_close c p.y q.y positive (ap (λ b. b && is_close most p.y q.y) (sym close) ∙ fails))) (square_least along_x)
      ]

  distance_fails : (op : Op) → is_at_most op ≡ true → (c : ℤ) (first second : Option Point) → are_beside (c +ℤ pos (2 * error)) first second ≡ false →
      distance_holds_by possibly_compares by op c first second ≡ false
  distance_fails op upper c None second fails = refl
  distance_fails op upper c (Some p) None fails = refl
  distance_fails op upper c (Some p) (Some q) fails =
      compares_not op upper c (nearest_square by p q) (farthest_square by p q) (λ positive. far_apart c p q positive fails) (int_le (pos 0) c) refl

no_more : (error : ℕ) (same : Bool) → (if same then 0 else error) ≤ error
no_more error true = omega arith
no_more error false = omega arith

swapped_close : (c m n : ℤ) → is_close c m n ≡ is_close c n m
swapped_close c m n = and_swap (int_le (m -ℤ n) c) (int_le (n -ℤ m) c)

swapped : (c : ℤ) (first second : Option Point) → are_beside c first second ≡ are_beside c second first
swapped c None None = refl
swapped c None (Some q) = refl
swapped c (Some p) None = refl
swapped c (Some p) (Some q) = λ i. swapped_close c p.x q.x i && swapped_close c p.y q.y i

pub first_beside : (error v u : ℕ) (op : Op) (c : ℤ) → is_at_most op ≡ true → NeedsBeside error v u (c +ℤ pos (2 * error)) (atoms.Dist v u op c)
first_beside error v u op c upper regions h b x t fails =
    distance_fails error (error_between error b v u) (no_more error (b v == b u)) op upper c (position_in t (h v t)) (position_in t (h u t)) fails

pub second_beside : (error v u : ℕ) (op : Op) (c : ℤ) → is_at_most op ≡ true → NeedsBeside error u v (c +ℤ pos (2 * error)) (atoms.Dist v u op c)
second_beside error v u op c upper regions h b x t fails =
    distance_fails error (error_between error b v u) (no_more error (b v == b u)) op upper c (position_in t (h v t)) (position_in t (h u t))
    (swapped (c +ℤ pos (2 * error)) (position_in t (h v t)) (position_in t (h u t)) ∙ fails)

-- ---- areas that are grown

too_low : (most l m n : ℤ) → (l +ℤ most) ≤ℤ n → m <ℤ l → most <ℤ (n -ℤ m)
too_low most l m n from below = omega (arith, ints)

too_high : (most g m n : ℤ) → n ≤ℤ (g -ℤ most) → g <ℤ m → most <ℤ (m -ℤ n)
too_high most g m n to above = omega (arith, ints)

below_side : (most m n : ℤ) (grown side : Option ℤ) → IfSome grown (λ l. side ≡ Some (l +ℤ most)) → option_map_or (λ l. int_le l n) side true ≡ true →
    option_map_or (λ l. int_le l m) grown true ≡ false → most <ℤ (n -ℤ m)
below_side most m n None side is told past = absurd (false≢true (sym past))
below_side most m n (Some l) side is told past =
    too_low most l m n (at_most_from_int_test (l +ℤ most) n (ap (λ (side : Option ℤ). option_map_or (λ l. int_le l n) side true) (sym is) ∙ told)) (above_from_int_test l m past)

above_side : (most m n : ℤ) (grown side : Option ℤ) → IfSome grown (λ g. side ≡ Some (g -ℤ most)) → option_map_or (λ g. int_le n g) side true ≡ true →
    option_map_or (λ g. int_le m g) grown true ≡ false → most <ℤ (m -ℤ n)
above_side most m n None side is told past = absurd (false≢true (sym past))
above_side most m n (Some g) side is told past =
    too_high most g m n (at_most_from_int_test n (g -ℤ most) (ap (λ (side : Option ℤ). option_map_or (λ g. int_le n g) side true) (sym is) ∙ told)) (above_from_int_test m g past)

pub grows : (most : ℤ) (sides grown : Sides) → IfSome grown.least (λ l. sides.least ≡ Some (l +ℤ most)) →
    IfSome grown.greatest (λ g. sides.greatest ≡ Some (g -ℤ most)) → IsGrownSides most sides grown
grows most sides grown least greatest m n told outside =
    let both = and_parts (option_map_or (λ l. int_le l n) sides.least true) (option_map_or (λ g. int_le n g) sides.greatest true) told in
    elim (cases_Bool (option_map_or (λ l. int_le l m) grown.least true)) [
      | inr past ↦
          ap (λ b. int_le (m -ℤ n) most && b) (above_fails_at_most most (n -ℤ m) (below_side most m n grown.least sides.least least both.0 past)) ∙ never (int_le (m -ℤ n) most)
      | inl within ↦
          ap (λ b. b && int_le (n -ℤ m) most)
          (above_fails_at_most most (m -ℤ n) (above_side most m n grown.greatest sides.greatest greatest both.1
          (ap (λ b. b && option_map_or (λ g. int_le m g) grown.greatest true) (sym within) ∙ outside)))
    ]
  where
    never : (b : Bool) → (b && false) ≡ false
    never true = refl
    never false = refl

-- ---- objects

told_apart : (most : ℤ) (first : Option Point) → are_beside most first None ≡ false
told_apart most None = refl
told_apart most (Some p) = refl

absent_apart : (most : ℤ) (t : ℕ) (there other : Option (List Cell)) → is_told None t other ≡ true → are_beside most (position_in t there) (position_in t other) ≡ false
absent_apart most t there None told = told_apart most (position_in t there)
absent_apart most t there (Some cells) told = absurd (false≢true told)

module _ (most : ℤ) (area grown : Area) (is : IsGrown most area grown) (t : ℕ) where
  by_values : (u v m n : Dynamic) → (is_between_sides grown.x (value_at u t) && is_between_sides grown.y (value_at v t)) ≡ false →
      (is_between_sides area.x (value_at m t) && is_between_sides area.y (value_at n t)) ≡ true →
      (is_close most (value_at u t) (value_at m t) && is_close most (value_at v t) (value_at n t)) ≡ false
  by_values u v m n outside told =
      let both = and_parts (is_between_sides area.x (value_at m t)) (is_between_sides area.y (value_at n t)) told in
      elim (cases_Bool (is_between_sides grown.x (value_at u t))) [
        | inr past ↦ ap (λ b. b && is_close most (value_at v t) (value_at n t)) (is.x (value_at u t) (value_at m t) both.0 past)
        | inl within ↦
            ap (λ b. is_close most (value_at u t) (value_at m t) && b)
            (is.y (value_at v t) (value_at n t) both.1 (ap (λ b. b && is_between_sides grown.y (value_at v t)) (sym within) ∙ outside))
            ∙ never (is_close most (value_at u t) (value_at m t))
      ]
    where
      never : (b : Bool) → (b && false) ≡ false
      never true = refl
      never false = refl

  by_others : (u v : Dynamic) (first second : Option Cell) → (is_between_sides grown.x (value_at u t) && is_between_sides grown.y (value_at v t)) ≡ false →
      (is_cell_between area.x t first && is_cell_between area.y t second) ≡ true →
      are_beside most (Some (point (value_at u t) (value_at v t))) (place_by (option_and_then dynamic_of first) (option_and_then dynamic_of second) t) ≡ false
  by_others u v None second outside told = refl
  by_others u v (Some (cells.Num n)) second outside told = refl
  by_others u v (Some (cells.Text s)) second outside told = refl
  by_others u v (Some (cells.Dyn m)) None outside told = refl
  by_others u v (Some (cells.Dyn m)) (Some (cells.Num n)) outside told = refl
  by_others u v (Some (cells.Dyn m)) (Some (cells.Text s)) outside told = refl
  by_others u v (Some (cells.Dyn m)) (Some (cells.Dyn n)) outside told = by_values u v m n outside told

  by_cells : (first second third fourth : Option Cell) → (is_cell_between grown.x t first && is_cell_between grown.y t second) ≡ false →
      (is_cell_between area.x t third && is_cell_between area.y t fourth) ≡ true →
      are_beside most (place_by (option_and_then dynamic_of first) (option_and_then dynamic_of second) t)
      (place_by (option_and_then dynamic_of third) (option_and_then dynamic_of fourth) t) ≡ false
  by_cells None second third fourth outside told = refl
  by_cells (Some (cells.Num n)) second third fourth outside told = refl
  by_cells (Some (cells.Text s)) second third fourth outside told = refl
  by_cells (Some (cells.Dyn u)) None third fourth outside told = refl
  by_cells (Some (cells.Dyn u)) (Some (cells.Num n)) third fourth outside told = refl
  by_cells (Some (cells.Dyn u)) (Some (cells.Text s)) third fourth outside told = refl
  by_cells (Some (cells.Dyn u)) (Some (cells.Dyn v)) third fourth outside told = by_others u v third fourth outside told

  outside_grown : (there other : Option (List Cell)) → is_told (Some area) t other ≡ true → is_in_area grown t there ≡ false →
      are_beside most (position_in t there) (position_in t other) ≡ false
  outside_grown None other told outside = refl
  outside_grown (Some first) None told outside = told_apart most (position_in t (Some first))
  outside_grown (Some first) (Some second) told outside =
      by_cells (slice_get first 0) (slice_get first 1) (slice_get second 0) (slice_get second 1) outside told

-- one object is apart from another one, by the area that is told of this
module _ (a : Scene) (most : ℤ) (id other : ℕ) where
  abbrev s : Contents
  s = a.store.now

  abbrev lo : ℕ
  lo = a.w.lo

  abbrev hi : ℕ
  hi = a.w.hi

  pub apart_absent : (area : Option Area) → area ≡ None → ((t : ℕ) → lo ≤ t → t ≤ hi → is_told area t (cells_at (history_of s) other t) ≡ true) → IsApart a most id other
  apart_absent area none told t from to =
      absent_apart most t (cells_at (history_of s) id t) (cells_at (history_of s) other t)
      (ap (λ (area : Option Area). is_told area t (cells_at (history_of s) other t)) (sym none) ∙ told t from to)

  pub apart_outside : (told_area : Option Area) (area grown : Area) → told_area ≡ Some area → IsGrown most area grown →
      ((t : ℕ) → lo ≤ t → t ≤ hi → is_told told_area t (cells_at (history_of s) other t) ≡ true) →
      ((t : ℕ) → lo ≤ t → t ≤ hi → is_in_area grown t (cells_at (history_of s) id t) ≡ false) → IsApart a most id other
  apart_outside told_area area grown is grows told outside t from to =
      outside_grown most area grown grows t (cells_at (history_of s) id t) (cells_at (history_of s) other t)
      (ap (λ (area : Option Area). is_told area t (cells_at (history_of s) other t)) (sym is) ∙ told t from to)
      (outside t from to)

-- ---- the objects of a class

either_lacks : (a b whole : Bool) → whole ≡ (a || b) → whole ≡ false → (a ≡ false) × (b ≡ false)
either_lacks true b whole is lacks = absurd (both_ways whole lacks is)
either_lacks false b whole is lacks = (refl, sym is ∙ lacks)

module _ (a : Scene) (class : ℕ) where
  pub pushed_near : (area : Area) (some found all : List ℕ) → AreNear a.store.now class area a.w.lo a.w.hi found → all ≡ some ++ found → IsWithNear a class area some all
  pushed_near area some found all near are =
      let both : (id : ℕ) → has_id all id ≡ (has_id some id || has_id found id) = λ id. ap (λ ids. has_id ids id) are ∙ has-append some found id in
      record {
        all = λ id lacks. (either_lacks (has_id some id) (has_id found id) (has_id all id) (both id) lacks).0;
        missed = λ id has lacks. near.missed id has (either_lacks (has_id some id) (has_id found id) (has_id all id) (both id) lacks).1;
      }

module _ (a : Scene) (class : ℕ) (most : ℤ) where
  abbrev TellsOf : Option Area → ℕ → Type 0
  TellsOf area other = (t : ℕ) → a.w.lo ≤ t → t ≤ a.w.hi → is_told area t (cells_at (history_of a.store.now) other t) ≡ true

  pub with_none : (other : ℕ) (area : Option Area) (ids : List ℕ) → area ≡ None → TellsOf area other → IsWithThose a class most other ids ids
  with_none other area ids none told = record {
    all = λ id lacks. lacks;
    far = λ id has lacks. apart_absent a most id other area none told;
  }

  with_near : (other : ℕ) (told_area : Option Area) (area grown : Area) (some all : List ℕ) → told_area ≡ Some area → IsGrown most area grown →
      TellsOf told_area other → IsWithNear a class grown some all → IsWithThose a class most other some all
  with_near other told_area area grown some all is grown_is told near = record {
    all = near.all;
    far = λ id has lacks. apart_outside a most id other told_area area grown is grown_is told (near.missed id has lacks);
  }

  pub told_with_near : {E : Type 0} (other : ℕ) (told_area : Option Area) (area grown : Area) (some all : List ℕ) (r : Result Bool E) → told_area ≡ Some area →
      IsGrown most area grown → TellsOf told_area other → IfOk r (λ are_told. are_told ≡ true → IsWithNear a class grown some all) →
      IfOk r (λ are_told. are_told ≡ true → IsWithThose a class most other some all)
  told_with_near other told_area area grown some all (Err fault) is grown_is told near = near
  told_with_near other told_area area grown some all (Ok are_told) is grown_is told near = λ so. with_near other told_area area grown some all is grown_is told (near so)

  pub far_first : (others : List ℕ) → AreLost (AreFar a class most []) others others
  far_first others = none_lost (AreFar a class most []) others

  pub far_more : (others rest some ids : List ℕ) (other : ℕ) → AreLost (AreFar a class most some) others (other ∷ rest) →
      IsWithThose a class most other some ids → AreLost (AreFar a class most ids) others rest
  far_more others rest some ids other before with_those =
      lost_first (AreFar a class most ids) others rest other
      (λ k has lacks id its lacking. before k has lacks id its (with_those.all id lacking)) with_those.far

  pub beside_in_order : (others ids all : List ℕ) → AreLost (AreFar a class most ids) others [] → IsStrictlyIncreasing all →
      ((id : ℕ) → has_id all id ≡ has_id ids id) → AreBeside a class most others all
  beside_in_order others ids all far up same = record {
    ascending = up;
    far = λ k has lacks id its lacking. far k has lacks id its (sym (same id) ∙ lacking);
  }

-- ---- atoms

module _ (a : Scene) (v u : ℕ) (most : ℤ) (atom : RAtom) (needs : NeedsBeside a.error v u most atom) (others : List ℕ) (domain : AreDomainOf u a.domains.now others) where
  has_other : (b : ℕ → ℕ) → IsIn a.domains.now b → has_id others (b u) ≡ true
  has_other b is_in = ap (λ ids. has_id ids (b u)) domain.are ∙ is_in u domain.within

  apart_fails : (b : ℕ → ℕ) → IsApart a most (b v) (b u) → CannotHoldIn a b (shapes.Atom atom)
  apart_fails b apart j possible x t from to =
      not_possible a.error a.store.now a.regions.now b atom j x t possible (needs a.regions.now (trace_of (history_of a.store.now) b) b x t (apart t from to))

  pub beside_lost : (id : ℕ) → AreLost (IsApart a most id) others [] → FailsWith a v (shapes.Atom atom) id
  beside_lost id lost b is_in is =
      apart_fails b (subst (λ (id : ℕ). IsApart a most id (b u)) (sym is) (lost (b u) (has_other b is_in) refl))

  pub beside_needed : (class : ℕ) (ids : List ℕ) → AreBeside a class most others ids → AreNeeded a class v (shapes.Atom atom) ids
  beside_needed class ids beside = record {
    ascending = beside.ascending;
    fails = λ b is_in has lacks. apart_fails b (beside.far (b u) (has_other b is_in) refl (b v) has lacks);
  }

-- ---- the same of what is told in the end

module _ {V : Type 0} (items : V → List ℕ) (a : Scene) (class u : ℕ) (most : ℤ) where
  abbrev IsNeeded : V → Type 0
  IsNeeded ids = (v : ℕ) (atom : RAtom) → NeedsBeside a.error v u most atom → AreNeeded a class v (shapes.Atom atom) (items ids)

  pub told_needed : {E : Type 0} (others : List ℕ) (r : Result (Option V) E) → AreDomainOf u a.domains.now others →
      IfOk r (λ found. IfSome found (λ ids. AreBeside a class most others (items ids))) → IfOk r (λ found. IfSome found IsNeeded)
  told_needed others (Err fault) domain beside = beside
  told_needed others (Ok None) domain beside = tt
  told_needed others (Ok (Some ids)) domain beside = λ v atom needs. beside_needed a v u most atom needs others domain class (items ids) beside

  pub needed_of_told : {E : Type 0} (v : ℕ) (atom : RAtom) (r : Result (Option V) E) → NeedsBeside a.error v u most atom →
      IfOk r (λ found. IfSome found IsNeeded) → IfOk r (λ found. IfSome found (λ ids. AreNeeded a class v (shapes.Atom atom) (items ids)))
  needed_of_told v atom (Err fault) needs are = are
  needed_of_told v atom (Ok None) needs are = tt
  needed_of_told v atom (Ok (Some ids)) needs are = are v atom needs
