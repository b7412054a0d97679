-- For this crate and for the crates above: what a search finds where numbers rise.
use Rattle.std.proofs.Common.{◌≡◌, ℕ, zero, suc, ◌+◌, ◌-◌, ◌<◌, ◌≤◌, true, false, ◌==◌, nat_lt, List, [], ◌∷◌, ◌++◌, length, get_or, take, drop, map, Some, None, unwrap_or, refl, sym, ap, ◌∙◌, subst, inl, inr, arith, get_or-drop, get_or-take, length-drop, length-take-le, take-append-drop}
use Rattle.std.specs.List.{slice_get}
use Rattle.std.specs.List.Sorted.{IsNonDecreasingBy, IsStrictlyIncreasing}
use Rattle.std.proofs.lemmas.Bool.{cases_lt, eq-eqb, lt-ltb, ne_eqb, or_from, or_left, or_right}
use Rattle.std.proofs.lemmas.List.{get_or_default, get_or_read, map-id}
use Rattle.relation.specs.declared.row.Row.{Row}
use Rattle.relation.specs.Group.{IsGroup, IsNextIn, id_at}
use Rattle.relation.specs.Key.{has_id}
use Rattle.exact.proofs.Items.{all_from_at}

-- a number that no item has is not among those of the items
pub has_id-none : {X : Type 0} (f : X → ℕ) (xs : List X) (y : ℕ) → ((k : ℕ) (d : X) → k < length xs → f (get_or xs k d) ≡ y → ⊥) → has_id (map f xs) y ≡ false
has_id-none f [] y h = refl
has_id-none f (x ∷ xs) y h = or_from _ _ (ne_eqb (f x) y (h 0 x (omega arith))) (has_id-none f xs y (λ k d l. h (suc k) d (omega arith)))

pub has_id-at : {X : Type 0} (f : X → ℕ) (xs : List X) (i : ℕ) (d : X) → i < length xs → has_id (map f xs) (f (get_or xs i d)) ≡ true
has_id-at f [] i d l = absurd (omega arith)
has_id-at f (x ∷ xs) zero d l = or_left _ _ (eq-eqb (f x) (f x) refl)
has_id-at f (x ∷ xs) (suc i) d l = or_right _ _ (has_id-at f xs i d (omega arith))

-- a place that cuts items by a bound on their numbers
pub record IsCut {X : Type 0} (f : X → ℕ) (xs : List X) (bound at : ℕ) : Type 0 where
  pub in_range : at ≤ length xs
  pub before : (k : ℕ) (d : X) → k < at → f (get_or xs k d) < bound
  pub after : (k : ℕ) (d : X) → at ≤ k → k < length xs → bound ≤ f (get_or xs k d)

module _ {X : Type 0} (f : X → ℕ) (xs : List X) where
  -- the item in the middle decides for those before it, or from it on
  pub cut_before : (m bound : ℕ) (x : X) → IsNonDecreasingBy f xs → m < length xs → x ≡ get_or xs m x → f x < bound → (k : ℕ) (d : X) → k < m + 1 → f (get_or xs k d) < bound
  cut_before m bound x rises l e below k d in_front =
      let risen : f (get_or xs k d) ≤ f (get_or xs m d) = rises k m d (omega arith) l in
      let here : f x ≡ f (get_or xs m d) = ap f (get_or_read xs m x l e d) in
      omega arith

  pub cut_after : (m bound : ℕ) (x : X) → IsNonDecreasingBy f xs → m < length xs → x ≡ get_or xs m x → bound ≤ f x → (k : ℕ) (d : X) → m ≤ k → k < length xs → bound ≤ f (get_or xs k d)
  cut_after m bound x rises l e above k d from in_list =
      let risen : f (get_or xs m d) ≤ f (get_or xs k d) = rises m k d from in_list in
      let here : f x ≡ f (get_or xs m d) = ap f (get_or_read xs m x l e d) in
      omega arith

  pub rises_drop : (n : ℕ) → IsNonDecreasingBy f xs → IsNonDecreasingBy f (drop n xs)
  rises_drop n rises = λ i j d l k.
      let lengths : length (drop n xs) ≡ length xs - n = length-drop n xs in
      let risen : f (get_or xs (n + i) d) ≤ f (get_or xs (n + j) d) = rises (n + i) (n + j) d (omega arith) (omega arith) in
      let first : f (get_or (drop n xs) i d) ≡ f (get_or xs (n + i) d) = ap f (get_or-drop n xs i d) in
      let second : f (get_or (drop n xs) j d) ≡ f (get_or xs (n + j) d) = ap f (get_or-drop n xs j d) in
      omega arith

-- ascending numbers rise
rise_by : (xs : List ℕ) (i n : ℕ) → IsStrictlyIncreasing xs → i + n < length xs → get_or xs i 0 ≤ get_or xs (i + n) 0
rise_by xs i zero up l = let e : get_or xs (i + 0) 0 ≡ get_or xs i 0 = ap (λ k. get_or xs k 0) (let e' : i + 0 ≡ i = omega arith in e') in omega arith
rise_by xs i (suc n) up l =
    let before : get_or xs i 0 ≤ get_or xs (i + n) 0 = rise_by xs i n up (omega arith) in
    let step : get_or xs (i + n) 0 < get_or xs (i + n + 1) 0 = up (i + n) (omega arith) in
    let e : get_or xs (i + n + 1) 0 ≡ get_or xs (i + suc n) 0 = ap (λ k. get_or xs k 0) (let e' : i + n + 1 ≡ i + suc n = omega arith in e') in
    omega arith

pub numbers_rise : (xs : List ℕ) → IsStrictlyIncreasing xs → IsNonDecreasingBy (λ x. x) xs
numbers_rise xs up = λ i j d l k.
    let risen : get_or xs i 0 ≤ get_or xs (i + (j - i)) 0 = rise_by xs i (j - i) up (omega arith) in
    let e : get_or xs (i + (j - i)) 0 ≡ get_or xs j 0 = ap (λ k. get_or xs k 0) (let e' : i + (j - i) ≡ j = omega arith in e') in
    let first : get_or xs i d ≡ get_or xs i 0 = get_or_default xs i d 0 (omega arith) in
    let second : get_or xs j d ≡ get_or xs j 0 = get_or_default xs j d 0 k in
    omega arith

pub get_or-unwrapped : (xs : List ℕ) (k : ℕ) → unwrap_or (slice_get xs k) 0 ≡ get_or xs k 0
get_or-unwrapped [] k = refl
get_or-unwrapped (x ∷ xs) zero = refl
get_or-unwrapped (x ∷ xs) (suc k) = get_or-unwrapped xs k

pub next_none : {X : Type 0} (f : X → ℕ) (xs : List X) (from at : ℕ) → IsCut f xs from at → length xs ≤ at → IsNextIn (map f xs) from None
next_none f xs from at cut l = λ y m. has_id-none f xs y (λ k d n e. let b : f (get_or xs k d) < from = cut.before k d (omega arith) in omega arith)

pub next_some : {X : Type 0} (f : X → ℕ) (xs : List X) (from at : ℕ) (x : X) → IsNonDecreasingBy f xs → IsCut f xs from at → at < length xs → x ≡ get_or xs at x →
    IsNextIn (map f xs) from (Some (f x))
next_some f xs from at x rises cut l e = (
  subst (λ z. from ≤ f z) (sym e) (cut.after at x (omega arith) l),
  subst (λ z. has_id (map f xs) (f z) ≡ true) (sym e) (has_id-at f xs at x l),
  λ y m n. has_id-none f xs y (λ k d in_list same. between k d y m n in_list same),
)
  where
    before : (k : ℕ) (d : _) (y : ℕ) → from ≤ y → k < at → f (get_or xs k d) ≡ y → ⊥
    before k d y m l' same = let b : f (get_or xs k d) < from = cut.before k d l' in omega arith

    after : (k : ℕ) (d : _) (y : ℕ) → y < f x → at ≤ k → k < length xs → f (get_or xs k d) ≡ y → ⊥
    after k d y n l' in_list same =
        let risen : f (get_or xs at d) ≤ f (get_or xs k d) = rises at k d l' in_list in
        let here : f x ≡ f (get_or xs at d) = ap f (get_or_read xs at x l e d) in
        omega arith

    between : (k : ℕ) (d : _) (y : ℕ) → from ≤ y → y < f x → k < length xs → f (get_or xs k d) ≡ y → ⊥
    between k d y m n in_list same = elim (cases_lt k at) [ inl l' ↦ before k d y m l' same | inr l' ↦ after k d y n l' in_list same ]

-- the items from a first cut to a second one, at the next number, are those with the number
pub group_between : {S : Type 0} (place id n m : ℕ) (rows : List (Row S)) → IsCut (id_at place) rows id n → IsCut (id_at place) (drop n rows) (id + 1) m →
    IsGroup place id rows (take m (drop n rows))
group_between place id n m rows low high = record {
  front = take n rows;
  back = drop m (drop n rows);
  parts = sym (ap (λ z. take n rows ++ z) (take-append-drop m (drop n rows)) ∙ take-append-drop n rows);
  before = all_from_at _ (take n rows) (λ k d l. first k d l);
  here = all_from_at _ (take m (drop n rows)) (λ k d l. middle k d l);
  after = all_from_at _ (drop m (drop n rows)) (λ k d l. last k d l);
}
  where
    first : (k : ℕ) (d : Row _) → k < length (take n rows) → nat_lt (id_at place (get_or (take n rows) k d)) id ≡ true
    first k d l =
        let lengths : length (take n rows) ≡ n = length-take-le n rows low.in_range in
        let below : k < n = omega arith in
        lt-ltb _ _ (subst (λ r. id_at place r < id) (sym (get_or-take n rows k d below)) (low.before k d below))

    middle : (k : ℕ) (d : Row _) → k < length (take m (drop n rows)) → (id_at place (get_or (take m (drop n rows)) k d) == id) ≡ true
    middle k d l =
        let lengths : length (take m (drop n rows)) ≡ m = length-take-le m (drop n rows) high.in_range in
        let rest : length (drop n rows) ≡ length rows - n = length-drop n rows in
        let below : k < m = omega arith in
        let upper : id_at place (get_or (drop n rows) k d) < id + 1 = high.before k d below in
        let in_rows : n + k < length rows = omega (arith, high.in_range, low.in_range) in
        let lower : id ≤ id_at place (get_or rows (n + k) d) = low.after (n + k) d (omega arith) in_rows in
        let lower' : id ≤ id_at place (get_or (drop n rows) k d) = subst (λ r. id ≤ id_at place r) (sym (get_or-drop n rows k d)) lower in
        eq-eqb _ id (ap (id_at place) (get_or-take m (drop n rows) k d below) ∙ omega arith)

    last : (k : ℕ) (d : Row _) → k < length (drop m (drop n rows)) → nat_lt id (id_at place (get_or (drop m (drop n rows)) k d)) ≡ true
    last k d l =
        let lengths : length (drop m (drop n rows)) ≡ length (drop n rows) - m = length-drop m (drop n rows) in
        let lower : id + 1 ≤ id_at place (get_or (drop n rows) (m + k) d) = high.after (m + k) d (omega arith) (omega arith) in
        lt-ltb _ _ (subst (λ r. id < id_at place r) (sym (get_or-drop m (drop n rows) k d)) (omega arith))

pub group_found : {S : Type 0} (place id low high n m : ℕ) (rows rest : List (Row S)) → rest ≡ drop n rows → low ≡ id → high ≡ id + 1 → IsCut (id_at place) rows low n →
    IsCut (id_at place) rest high m → IsGroup place id rows (take m rest)
group_found {S} place id low high n m rows rest e el eh cut_low cut_high =
    let cut_low' = subst (λ b. IsCut (id_at place) rows b n) el cut_low in
    let cut_high' = subst (λ b. IsCut (id_at place) rest b m) eh cut_high in
    let cut_high'' = subst (λ (z : List (Row S)). IsCut (id_at place) z (id + 1) m) e cut_high' in
    subst (λ (z : List (Row S)). IsGroup place id rows (take m z)) (sym e) (group_between place id n m rows cut_low' cut_high'')

-- the same of a list of ascending numbers
module _ (xs : List ℕ) (up : IsStrictlyIncreasing xs) where
  pub number_before : (m bound : ℕ) → m < length xs → get_or xs m 0 < bound → (k : ℕ) → k < m + 1 → get_or xs k 0 < bound
  number_before m bound l below k in_front = cut_before (λ x. x) xs m bound (get_or xs m 0) (numbers_rise xs up) l (get_or_default xs m 0 (get_or xs m 0) l) below k 0 in_front

  pub number_after : (m bound : ℕ) → m < length xs → bound ≤ get_or xs m 0 → (k : ℕ) → m ≤ k → k < length xs → bound ≤ get_or xs k 0
  number_after m bound l above k from in_list = cut_after (λ x. x) xs m bound (get_or xs m 0) (numbers_rise xs up) l (get_or_default xs m 0 (get_or xs m 0) l) above k 0 from in_list

  number_cut : (bound at : ℕ) → at ≤ length xs → ((k : ℕ) → k < at → get_or xs k 0 < bound) → ((k : ℕ) → at ≤ k → k < length xs → bound ≤ get_or xs k 0) → IsCut (λ x. x) xs bound at
  number_cut bound at in_range before after = record {
    in_range = in_range;
    before = λ k d l. let e : get_or xs k d ≡ get_or xs k 0 = get_or_default xs k d 0 (omega arith) in let b : get_or xs k 0 < bound = before k l in omega arith;
    after = λ k d m l. let e : get_or xs k d ≡ get_or xs k 0 = get_or_default xs k d 0 l in let b : bound ≤ get_or xs k 0 = after k m l in omega arith;
  }

  pub next_number : (from at : ℕ) → at ≤ length xs → ((k : ℕ) → k < at → get_or xs k 0 < from) → ((k : ℕ) → at ≤ k → k < length xs → from ≤ get_or xs k 0) → at < length xs →
      IsNextIn xs from (Some (get_or xs at 0))
  next_number from at in_range before after l =
      subst (λ (z : List ℕ). IsNextIn z from (Some (get_or xs at 0))) (map-id xs)
      (next_some (λ x. x) xs from at (get_or xs at 0) (numbers_rise xs up) (number_cut from at in_range before after) l (get_or_default xs at 0 (get_or xs at 0) l))

  pub no_next_number : (from at : ℕ) → at ≤ length xs → ((k : ℕ) → k < at → get_or xs k 0 < from) → ((k : ℕ) → at ≤ k → k < length xs → from ≤ get_or xs k 0) → length xs ≤ at →
      IsNextIn xs from None
  no_next_number from at in_range before after l =
      subst (λ (z : List ℕ). IsNextIn z from None) (map-id xs) (next_none (λ x. x) xs from at (number_cut from at in_range before after) l)
