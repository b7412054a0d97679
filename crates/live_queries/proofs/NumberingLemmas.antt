-- The bindings of columns, listed by their numbers.
use Rattle.std.proofs.Common.{◌≡◌, ℕ, zero, suc, ◌+◌, ◌*◌, ◌-◌, ◌/◌, ◌%◌, ◌<◌, ◌≤◌, Bool, true, false, ◌&&◌, Option, None, List, [], ◌∷◌, ◌++◌, length, map, refl, sym, ap, ◌∙◌, arith, if◌then◌else◌}
use Rattle.std.specs.Prelude.{nat_lt, slice_index}
use Rattle.std.specs.List.{cons_option, filter_map, flat_map, range_with_len}
use Rattle.std.proofs.lemmas.Bool.Decides.{nat_tests}
use Rattle.std.proofs.lemmas.List.Elements.{filter_map-append}
use Rattle.std.proofs.lemmas.Nat.{div-mul-add, le-div, mod-mul-add, mul-le}
use Rattle.tick_set.specs.Ticks.{between}
use Rattle.kept_rows.specs.Numbers.{counts, size_of}
use Rattle.kept_rows.proofs.NumberLemmas.{size-some}
use Rattle.meaning.specs.Binding.{product}
use Rattle.live_queries.specs.Columns.{AreCounted, Column, column_variables}
use Rattle.exact.proofs.Items.{range_append}
use Rattle.evaluator.proofs.FullLemmas.{between_more}

-- the objects of a number, column by column
abbrev pub objects_at : List Column → ℕ → List ℕ
objects_at [] n = []
objects_at (c ∷ cs) n = slice_index c.ids (n / size_of (column_variables cs)) ∷ objects_at cs (n % size_of (column_variables cs))

-- what there is of the objects of a number, where it is that of a binding
abbrev pub at_number : {X : Type 0} → (List ℕ → Option X) → List Column → ℕ → Option X
at_number g cs n = if counts (column_variables cs) n then g (objects_at cs n) else None

-- ---- lists of numbers

range_shift : (a k b : ℕ) → range_with_len (a + b) k ≡ map (λ d. a + d) (range_with_len b k)
range_shift a zero b = refl
range_shift a (suc k) b =
    ap (λ rest. (a + b) ∷ rest) (ap (λ m. range_with_len m k) (let e : a + b + 1 ≡ a + (b + 1) = omega arith in e) ∙ range_shift a k (b + 1))

pub between_split : (a m b : ℕ) → a ≤ m → m ≤ b → between a b ≡ between a m ++ between m b
unfolding between
between_split a m b h l =
    ap (range_with_len a) (let e : b - a ≡ (m - a) + (b - m) = omega (arith, h, l) in e)
    ∙ range_append (m - a) (b - m) a
    ∙ ap (λ c. range_with_len a (m - a) ++ range_with_len c (b - m)) (let e : a + (m - a) ≡ m = omega (arith, h) in e)

pub between_no : between 0 0 ≡ []
unfolding between
between_no = refl

pub between_shift : (a k : ℕ) → between a (a + k) ≡ map (λ d. a + d) (between 0 k)
unfolding between
between_shift a k =
    ap (range_with_len a) (let e : (a + k) - a ≡ k = omega arith in e)
    ∙ ap (λ b. range_with_len b k) (let e : a ≡ a + 0 = omega arith in e)
    ∙ range_shift a k 0
    ∙ ap (λ l. map (λ d. a + d) (range_with_len 0 l)) (let e : k ≡ k - 0 = omega arith in e)

-- ---- what there is of each

module _ {X : Type 0} where
  pub mapped : {K L : Type 0} (g : L → Option X) (f : K → L) (ks : List K) → filter_map g (map f ks) ≡ filter_map (λ k. g (f k)) ks
  mapped g f [] = refl
  mapped g f (k ∷ ks) = ap (cons_option (g (f k))) (mapped g f ks)

  flat : {K L : Type 0} (g : L → Option X) (f : K → List L) (ks : List K) → filter_map g (flat_map f ks) ≡ flat_map (λ k. filter_map g (f k)) ks
  flat g f [] = refl
  flat g f (k ∷ ks) = filter_map-append g (f k) (flat_map f ks) ∙ ap (λ rest. filter_map g (f k) ++ rest) (flat g f ks)

  range_same : (f g : ℕ → Option X) (k a : ℕ) → ((n : ℕ) → a ≤ n → n < a + k → f n ≡ g n) → filter_map f (range_with_len a k) ≡ filter_map g (range_with_len a k)
  range_same f g zero a same = refl
  range_same f g (suc k) a same =
      let first : f a ≡ g a = same a (omega arith) (omega arith) in
      let rest = range_same f g k (a + 1) (λ n h l. same n (omega (arith, h)) (omega (arith, l))) in
      λ i. cons_option (first i) (rest i)

  pub between_same : (f g : ℕ → Option X) (a b : ℕ) → ((n : ℕ) → a ≤ n → n < b → f n ≡ g n) → filter_map f (between a b) ≡ filter_map g (between a b)
  unfolding between
  between_same f g a b same = range_same f g (b - a) a (λ n h l. same n h (omega (arith, h, l)))

  abbrev nothing : {K : Type 0} → K → Option X
  nothing k = None

  all_none : {K : Type 0} (ks : List K) → filter_map nothing ks ≡ []
  all_none [] = refl
  all_none (k ∷ ks) = all_none ks

  pub between_none : (f : ℕ → Option X) (a b : ℕ) → ((n : ℕ) → a ≤ n → n < b → f n ≡ None) → filter_map f (between a b) ≡ []
  between_none f a b none = between_same f nothing a b none ∙ all_none (between a b)

  -- ---- the product of the columns

  module _ (g : List ℕ → Option X) (c : Column) (cs : List Column) where
    abbrev width : ℕ
    width = size_of (column_variables cs)

    abbrev here : ℕ → Option X
    here n = at_number g (c ∷ cs) n

    place_is : (n p d : ℕ) (b : Bool) (id : ℕ) → n / width ≡ p → n % width ≡ d → nat_lt p c.numbers.count ≡ b → slice_index c.ids p ≡ id →
        here n ≡ (if b && counts (column_variables cs) d then g (id ∷ objects_at cs d) else None)
    place_is n p d b id e f at object =
        (λ i. if nat_lt (e i) c.numbers.count && counts (column_variables cs) (f i) then g (slice_index c.ids (e i) ∷ objects_at cs (f i)) else None)
        ∙ (λ i. if at i && counts (column_variables cs) d then g (object i ∷ objects_at cs d) else None)

    not_less : (p n : ℕ) → n ≤ p → nat_lt p n ≡ false
    not_less p n h = grind (arith, nat_tests, h)

    less : (p n : ℕ) → p < n → nat_lt p n ≡ true
    less p n h = grind (arith, nat_tests, h)

    -- the numbers of one object
    one_place : (p x : ℕ) → p < c.numbers.count → slice_index c.ids p ≡ x →
        filter_map here (between (p * width) (p * width + width)) ≡ filter_map (at_number (λ l. g (x ∷ l)) cs) (between 0 width)
    one_place p x h object =
        ap (filter_map here) (between_shift (p * width) width)
        ∙ mapped here (λ d. p * width + d) (between 0 width)
        ∙ between_same (λ d. here (p * width + d)) (at_number (λ l. g (x ∷ l)) cs) 0 width
        (λ d from below. place_is (p * width + d) p d true x (div-mul-add p width d below) (mod-mul-add p width d below) (less p c.numbers.count h) object)

    -- the objects from a place on
    places_from : ((g' : List ℕ → Option X) → filter_map g' (product (map (λ k. k.ids) cs)) ≡ filter_map (at_number g' cs) (between 0 width)) →
        (ys : List ℕ) (p : ℕ) → p + length ys ≡ c.numbers.count → ((i : ℕ) → i < length ys → slice_index ys i ≡ slice_index c.ids (p + i)) →
        flat_map (λ x. filter_map g (map (λ later. x ∷ later) (product (map (λ k. k.ids) cs)))) ys
        ≡ filter_map here (between (p * width) (c.numbers.capacity * width))
    places_from later [] p count same =
        sym (between_none here (p * width) (c.numbers.capacity * width)
        (λ n from below. place_is n (n / width) (n % width) false (slice_index c.ids (n / width)) refl refl
        (not_less (n / width) c.numbers.count (omega (arith, le-div p n width (size-some (column_variables cs)) from, count))) refl))
    places_from later (y ∷ ys) p count same =
        let object : slice_index c.ids p ≡ y = sym (same 0 (omega arith) ∙ ap (slice_index c.ids) (let e : p + 0 ≡ p = omega arith in e)) in
        let below : p < c.numbers.count = omega (arith, count) in
        let room : (p + 1) * width ≤ c.numbers.capacity * width = mul-le (p + 1) width c.numbers.capacity width (omega (arith, below, c.numbers.room)) (omega arith) in
        let next : p * width + width ≡ (p + 1) * width = omega arith in
        (λ i. (mapped g (λ l. y ∷ l) (product (map (λ k. k.ids) cs)) ∙ later (λ l. g (y ∷ l)) ∙ sym (one_place p y below object)) i
        ++ places_from later ys (p + 1) (omega (arith, count))
        (λ j h. same (suc j) (omega (arith, h)) ∙ ap (slice_index c.ids) (let e : p + suc j ≡ p + 1 + j = omega arith in e)) i)
        ∙ ap (λ m. filter_map here (between (p * width) (p * width + width)) ++ filter_map here (between m (c.numbers.capacity * width))) (sym next)
        ∙ sym (filter_map-append here (between (p * width) (p * width + width)) (between (p * width + width) (c.numbers.capacity * width)))
        ∙ ap (filter_map here) (sym (between_split (p * width) (p * width + width) (c.numbers.capacity * width) (omega arith) (omega (arith, room, next))))

  -- the one binding of no columns
  one_number : (g : List ℕ → Option X) → cons_option (g []) [] ≡ filter_map (at_number g []) (between 0 1)
  unfolding between
  one_number g = refl

  pub listed_product : (g : List ℕ → Option X) (cs : List Column) → AreCounted cs →
      filter_map g (product (map (λ c. c.ids) cs)) ≡ filter_map (at_number g cs) (between 0 (size_of (column_variables cs)))
  listed_product g [] counted = one_number g
  listed_product g (c ∷ cs) counted =
      flat g (λ x. map (λ later. x ∷ later) (product (map (λ k. k.ids) cs))) c.ids
      ∙ places_from g c cs (λ g'. listed_product g' cs counted.1) c.ids 0 (omega (arith, counted.0)) (λ i h. ap (slice_index c.ids) (let e : i ≡ 0 + i = omega arith in e))
      ∙ ap (λ m. filter_map (at_number g (c ∷ cs)) (between m (c.numbers.capacity * size_of (column_variables cs)))) (let e : 0 * size_of (column_variables cs) ≡ 0 = omega arith in e)
