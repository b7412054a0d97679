-- The box of values over ticks, by their least and greatest.
use Rattle.std.proofs.Common.{◌≡◌, ℕ, zero, suc, ◌+◌, ◌-◌, ◌<◌, ◌≤◌, ℤ, ◌≤ℤ◌, Option, None, Some, List, [], map, refl, ap, ◌∙◌, inl, inr, arith}
use Rattle.std.specs.Int.{int_max, int_min}
use Rattle.std.specs.List.{cons_option, filter_map, fold, range_with_len}
use Rattle.std.proofs.lemmas.Int.{ints}
use Rattle.std.proofs.lemmas.Bool.{cases_eq}
use Rattle.std.proofs.lemmas.Bool.Decides.{nat_tests}
use Rattle.tick_set.specs.Ticks.{between}
use Rattle.plane.specs.Boxes.{box_of}

-- ---- a fold over values

min_under : (x y : ℤ) → (int_min x y ≤ℤ x) × (int_min x y ≤ℤ y)
min_under x y = (grind (arith, ints, nat_tests), grind (arith, ints, nat_tests))

max_over : (x y : ℤ) → (x ≤ℤ int_max x y) × (y ≤ℤ int_max x y)
max_over x y = (grind (arith, ints, nat_tests), grind (arith, ints, nat_tests))

min_above : (least x y : ℤ) → least ≤ℤ x → least ≤ℤ y → least ≤ℤ int_min x y
min_above least x y h k = grind (arith, ints, nat_tests)

max_below : (greatest x y : ℤ) → x ≤ℤ greatest → y ≤ℤ greatest → int_max x y ≤ℤ greatest
max_below greatest x y h k = grind (arith, ints, nat_tests)

abbrev values : (ℕ → ℤ) → ℕ → ℕ → List ℤ
values v a n = map v (range_with_len a n)

fold_above : (v : ℕ → ℤ) (least acc : ℤ) (n a : ℕ) → least ≤ℤ acc → ((t : ℕ) → a ≤ t → t < a + n → least ≤ℤ v t) → least ≤ℤ fold int_min acc (values v a n)
fold_above v least acc zero a h each = h
fold_above v least acc (suc n) a h each =
    fold_above v least (int_min acc (v a)) n (a + 1) (min_above least acc (v a) h (each a (omega arith) (omega arith)))
    (λ t from below. each t (omega arith) (omega arith))

fold_below : (v : ℕ → ℤ) (greatest acc : ℤ) (n a : ℕ) → acc ≤ℤ greatest → ((t : ℕ) → a ≤ t → t < a + n → v t ≤ℤ greatest) → fold int_max acc (values v a n) ≤ℤ greatest
fold_below v greatest acc zero a h each = h
fold_below v greatest acc (suc n) a h each =
    fold_below v greatest (int_max acc (v a)) n (a + 1) (max_below greatest acc (v a) h (each a (omega arith) (omega arith)))
    (λ t from below. each t (omega arith) (omega arith))

fold_under : (v : ℕ → ℤ) (acc : ℤ) (n a : ℕ) → fold int_min acc (values v a n) ≤ℤ acc
fold_under v acc zero a = omega (arith, ints)
fold_under v acc (suc n) a = let h = fold_under v (int_min acc (v a)) n (a + 1) in let m = min_under acc (v a) in omega (arith, ints, h, m.0)

fold_over : (v : ℕ → ℤ) (acc : ℤ) (n a : ℕ) → acc ≤ℤ fold int_max acc (values v a n)
fold_over v acc zero a = omega (arith, ints)
fold_over v acc (suc n) a = let h = fold_over v (int_max acc (v a)) n (a + 1) in let m = max_over acc (v a) in omega (arith, ints, h, m.0)

fold_down_to : (v : ℕ → ℤ) (acc : ℤ) (n a t : ℕ) → a ≤ t → t < a + n → fold int_min acc (values v a n) ≤ℤ v t
fold_down_to v acc zero a t from below = absurd (omega arith)
fold_down_to v acc (suc n) a t from below =
    elim (cases_eq a t) [
      | inl same ↦
          let h = fold_under v (int_min acc (v a)) n (a + 1) in
          let m = min_under acc (v a) in
          let e : v a ≡ v t = ap v same in
          omega (arith, ints, h, m.1, e)
      | inr apart ↦ fold_down_to v (int_min acc (v a)) n (a + 1) t (omega (arith, apart)) (omega arith)
    ]

fold_up_to : (v : ℕ → ℤ) (acc : ℤ) (n a t : ℕ) → a ≤ t → t < a + n → v t ≤ℤ fold int_max acc (values v a n)
fold_up_to v acc zero a t from below = absurd (omega arith)
fold_up_to v acc (suc n) a t from below =
    elim (cases_eq a t) [
      | inl same ↦
          let h = fold_over v (int_max acc (v a)) n (a + 1) in
          let m = max_over acc (v a) in
          let e : v a ≡ v t = ap v same in
          omega (arith, ints, h, m.1, e)
      | inr apart ↦ fold_up_to v (int_max acc (v a)) n (a + 1) t (omega (arith, apart)) (omega arith)
    ]

-- ---- the box of values

pub record IsExtent (v : ℕ → ℤ) (a b : ℕ) (least greatest : ℤ) : Type 0 where
  pub at_least : (t : ℕ) → a ≤ t → t < b → least ≤ℤ v t
  pub at_most : (t : ℕ) → a ≤ t → t < b → v t ≤ℤ greatest
  pub least_reached : (t : ℕ) × (a ≤ t) × (t < b) × (v t ≡ least)
  pub greatest_reached : (t : ℕ) × (a ≤ t) × (t < b) × (v t ≡ greatest)

same_ends : (x y z u : ℤ) → x ≤ℤ y → y ≤ℤ x → z ≤ℤ u → u ≤ℤ z → (x ≡ y) × (z ≡ u)
same_ends x y z u h k l m = (omega (arith, ints), omega (arith, ints))

-- a box of a first value and others
box_from : (v : ℕ → ℤ) (a n : ℕ) (least greatest : ℤ) → IsExtent v a (a + suc n) least greatest →
    box_of (values v a (suc n)) ≡ Some (record { least = least; greatest = greatest })
box_from v a n least greatest is =
    let (t, after, before, low) = is.least_reached in
    let (u, from, until, high) = is.greatest_reached in
    let xs = values v (a + 1) n in
    let above : least ≤ℤ fold int_min (v a) xs = fold_above v least (v a) n (a + 1) (is.at_least a (omega arith) (omega arith)) (λ k h l. is.at_least k (omega arith) (omega arith)) in
    let below : fold int_max (v a) xs ≤ℤ greatest = fold_below v greatest (v a) n (a + 1) (is.at_most a (omega arith) (omega arith)) (λ k h l. is.at_most k (omega arith) (omega arith)) in
    let down : fold int_min (v a) xs ≤ℤ v t =
    elim (cases_eq a t) [
      | inl same ↦ let h = fold_under v (v a) n (a + 1) in let e : v a ≡ v t = ap v same in omega (arith, ints, h, e)
      | inr apart ↦ fold_down_to v (v a) n (a + 1) t (omega (arith, apart)) (omega arith)
    ] in
    let up : v u ≤ℤ fold int_max (v a) xs =
    elim (cases_eq a u) [
      | inl same ↦ let h = fold_over v (v a) n (a + 1) in let e : v a ≡ v u = ap v same in omega (arith, ints, h, e)
      | inr apart ↦ fold_up_to v (v a) n (a + 1) u (omega (arith, apart)) (omega arith)
    ] in
    let ends = same_ends (fold int_min (v a) xs) least (fold int_max (v a) xs) greatest (omega (arith, ints, down, low)) above below (omega (arith, ints, up, high)) in
    λ i. Some (record { least = ends.0 i; greatest = ends.1 i })

as_map : (f : ℕ → Option ℤ) (v : ℕ → ℤ) (n a : ℕ) → ((t : ℕ) → a ≤ t → t < a + n → f t ≡ Some (v t)) → filter_map f (range_with_len a n) ≡ values v a n
as_map f v zero a is = refl
as_map f v (suc n) a is =
    let first = is a (omega arith) (omega arith) in
    let later = as_map f v n (a + 1) (λ t from below. is t (omega arith) (omega arith)) in
    λ i. cons_option (first i) (later i)

as_none : (f : ℕ → Option ℤ) (n a : ℕ) → ((t : ℕ) → a ≤ t → t < a + n → f t ≡ None) → filter_map f (range_with_len a n) ≡ []
as_none f zero a is = refl
as_none f (suc n) a is =
    let first = is a (omega arith) (omega arith) in
    let later = as_none f n (a + 1) (λ t from below. is t (omega arith) (omega arith)) in
    λ i. cons_option (first i) (later i)

sized : (f : ℕ → Option ℤ) (v : ℕ → ℤ) (a n b : ℕ) (least greatest : ℤ) → b ≡ a + n → a < b → ((t : ℕ) → a ≤ t → t < b → f t ≡ Some (v t)) →
    IsExtent v a b least greatest → box_of (filter_map f (range_with_len a n)) ≡ Some (record { least = least; greatest = greatest })
sized f v a zero b least greatest to some is extent = absurd (omega arith)
sized f v a (suc n) b least greatest to some is extent =
    ap box_of (as_map f v (suc n) a (λ t from below. is t from (omega arith)))
    ∙ box_from v a n least greatest (record {
      at_least = λ t from below. extent.at_least t from (omega arith);
      at_most = λ t from below. extent.at_most t from (omega arith);
      least_reached = (let (t, from, below, e) = extent.least_reached in (t, from, omega arith, e));
      greatest_reached = (let (t, from, below, e) = extent.greatest_reached in (t, from, omega arith, e));
    })

pub box_between : (f : ℕ → Option ℤ) (v : ℕ → ℤ) (a b : ℕ) (least greatest : ℤ) → a < b → ((t : ℕ) → a ≤ t → t < b → f t ≡ Some (v t)) →
    IsExtent v a b least greatest → box_of (filter_map f (between a b)) ≡ Some (record { least = least; greatest = greatest })
unfolding between
box_between f v a b least greatest some is extent = sized f v a (b - a) b least greatest (omega arith) some is extent

pub no_box : (f : ℕ → Option ℤ) (a b : ℕ) → ((t : ℕ) → a ≤ t → t < b → f t ≡ None) → box_of (filter_map f (between a b)) ≡ None
unfolding between
no_box f a b none = ap box_of (as_none f (b - a) a (λ t from below. none t from (omega arith)))

same_in : (f h : ℕ → Option ℤ) (n a : ℕ) → ((t : ℕ) → a ≤ t → t < a + n → f t ≡ h t) → filter_map f (range_with_len a n) ≡ filter_map h (range_with_len a n)
same_in f h zero a is = refl
same_in f h (suc n) a is =
    let first = is a (omega arith) (omega arith) in
    let later = same_in f h n (a + 1) (λ t from below. is t (omega arith) (omega arith)) in
    λ i. cons_option (first i) (later i)

pub same_numbers : (f h : ℕ → Option ℤ) (a b : ℕ) → ((t : ℕ) → a ≤ t → t < b → f t ≡ h t) → filter_map f (between a b) ≡ filter_map h (between a b)
unfolding between
same_numbers f h a b is = same_in f h (b - a) a (λ t from below. is t from (omega arith))
