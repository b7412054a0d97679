-- An object that becomes stale.
use Rattle.std.proofs.Common.{◌≡◌, ℕ, ◌<◌, ◌≤◌, Bool, true, false, ◌&&◌, not, List, length, set, refl, sym, ap, subst, ◌∙◌, inl, inr, arith}
use Rattle.std.specs.Prelude.{◌==◌, ◌≢◌, Ok, Err, slice_index}
use Rattle.std.specs.Ordering.{nat_cmp}
use Rattle.std.specs.List.Sorted.{IsBinarySearchResult}
use Rattle.std.proofs.lemmas.Bool.{cases_Bool, cases_eq, cases_lt}
use Rattle.std.proofs.lemmas.Bool.Decides.{nat_tests}
use Rattle.std.proofs.lemmas.List.{get_or-set_other, get_or-set_same}
use Rattle.std.proofs.lemmas.List.Sorted.{searched}
use Rattle.plane.specs.Boxes.{Grid}
use Rattle.plane_index.specs.Index.{AreIndexFields, Index, fresh_at, index_of, is_fresh, AreAscendingIds, IsTouched}
use Rattle.plane_index.specs.declared.state.State.{State}
use Rattle.plane_index.proofs.IndexLemmas.{fresh_of, seen_if_fresh, strips_of_index}

left_of : (a b : Bool) → (a && b) ≡ true → a ≡ true
left_of true b is = refl
left_of false b is = is

and_true : (a b : Bool) → b ≡ true → a ≡ (a && b)
and_true a b is = grind (arith, nat_tests, is)

and_false : (a b : Bool) → b ≡ false → false ≡ (a && b)
and_false a b is = grind (arith, nat_tests, is)

-- no object stands past those that were seen
past_fresh : (grid : Grid) (ids : List ℕ) (fresh : List Bool) (states : List State) (k : ℕ) → length ids ≤ k →
    is_fresh (index_of grid ids fresh states) k ≡ false
past_fresh grid ids fresh states k past =
    elim (cases_Bool (is_fresh (index_of grid ids fresh states) k)) [
      | inl is ↦ absurd (let below = seen_if_fresh grid ids fresh states k is in omega (arith, below, past))
      | inr none ↦ none
    ]

touched : (id : ℕ) (grid : Grid) (ids : List ℕ) (fresh fresh' : List Bool) (states : List State) →
    ((k : ℕ) → k < length ids → fresh_at fresh' k ≡ (fresh_at fresh k && not (slice_index ids k == id))) →
    IsTouched id (index_of grid ids fresh states) (index_of grid ids fresh' states)
touched id grid ids fresh fresh' states tells = record {
  grid = refl;
  ids = refl;
  fresh = λ k.
      elim (cases_lt k (length ids)) [
        | inl below ↦
            fresh_of grid ids fresh' states k below ∙ tells k below
            ∙ ap (λ b. b && not (slice_index ids k == id)) (sym (fresh_of grid ids fresh states k below))
        | inr past ↦
            past_fresh grid ids fresh' states k past
            ∙ ap (λ b. b && not (slice_index ids k == id)) (sym (past_fresh grid ids fresh states k past))
      ];
  strips = λ k slice is under.
      let below = seen_if_fresh grid ids fresh' states k is in
      let now = sym (fresh_of grid ids fresh' states k below) ∙ is in
      let before = left_of (fresh_at fresh k) (not (slice_index ids k == id)) (sym (tells k below) ∙ now) in
      strips_of_index grid ids fresh' states k slice below now under ∙ sym (strips_of_index grid ids fresh states k slice below before under);
}

in_order : (ids : List ℕ) → AreAscendingIds ids →
    (i j : ℕ) → i ≤ j → j < length ids → slice_index ids i ≤ slice_index ids j
in_order ids ascending i j order below =
    elim (cases_eq i j) [
      | inl same ↦ let e = ap (slice_index ids) same in omega (arith, e)
      | inr apart ↦ let less = ascending i j (omega (arith, order, apart)) below in omega (arith, less)
    ]

other : (ids : List ℕ) → AreAscendingIds ids →
    (k place id : ℕ) → k ≢ place → k < length ids → place < length ids → slice_index ids place ≡ id → (slice_index ids k == id) ≡ false
other ids ascending k place id apart below there is =
    elim (cases_lt k place) [
      | inl before ↦ let less = ascending k place before there in grind (arith, nat_tests, less, is)
      | inr after ↦ let less = ascending place k (omega (arith, apart, after)) below in grind (arith, nat_tests, less, is)
    ]

is_one : (x id : ℕ) → x ≡ id → not (x == id) ≡ false
is_one x id same = grind (arith, nat_tests, same)

-- it was found
pub stale_now : (id place : ℕ) (grid : Grid) (ids there : List ℕ) (fresh : List Bool) (states : List State) (old : Index) → AreIndexFields ids fresh states → there ≡ ids →
    IsBinarySearchResult (λ y. nat_cmp y id) there (Ok place) → index_of grid ids fresh states ≡ old →
    IsTouched id old (index_of grid ids (set fresh place false) states)
stale_now id place grid ids there fresh states old are same found was =
    let is = searched ids id (Ok place) (subst (λ xs. IsBinarySearchResult (λ y. nat_cmp y id) xs (Ok place)) same found) (in_order ids are.ascending) in
    let in_ids : place < length ids = is.0 in
    let seen = are.seen in
    subst (λ (index : Index). IsTouched id index (index_of grid ids (set fresh place false) states)) was
    (touched id grid ids fresh (set fresh place false) states
    (λ k below.
    elim (cases_eq k place) [
      | inl e ↦
          ap (fresh_at (set fresh place false)) e
          ∙ get_or-set_same fresh place false false (omega (arith, in_ids, seen))
          ∙ and_false (fresh_at fresh k) (not (slice_index ids k == id)) (is_one (slice_index ids k) id (ap (slice_index ids) e ∙ is.1))
      | inr apart ↦
          get_or-set_other fresh place k false false apart
          ∙ and_true (fresh_at fresh k) (not (slice_index ids k == id)) (ap not (other ids are.ascending k place id apart below in_ids is.1))
    ]))

none_is : (ids : List ℕ) (id gap : ℕ) → ((k : ℕ) → k < gap → slice_index ids k < id) → ((k : ℕ) → gap ≤ k → k < length ids → id < slice_index ids k) →
    (k : ℕ) → k < length ids → (slice_index ids k == id) ≡ false
none_is ids id gap less more k below =
    elim (cases_lt k gap) [
      | inl before ↦ let h = less k before in grind (arith, nat_tests, h)
      | inr after ↦ let h = more k after below in grind (arith, nat_tests, h)
    ]

-- it wasn't
pub stale_anyway : (id gap : ℕ) (grid : Grid) (ids there : List ℕ) (fresh : List Bool) (states : List State) (old : Index) → AreIndexFields ids fresh states → there ≡ ids →
    IsBinarySearchResult (λ y. nat_cmp y id) there (Err gap) → index_of grid ids fresh states ≡ old →
    IsTouched id old old
stale_anyway id gap grid ids there fresh states old are same missing was =
    let is = searched ids id (Err gap) (subst (λ xs. IsBinarySearchResult (λ y. nat_cmp y id) xs (Err gap)) same missing) (in_order ids are.ascending) in
    subst (λ (index : Index). IsTouched id index index) was
    (touched id grid ids fresh fresh states
    (λ k below. and_true (fresh_at fresh k) (not (slice_index ids k == id)) (ap not (none_is ids id gap is.1 is.2 k below))))
