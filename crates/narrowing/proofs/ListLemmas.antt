-- Ascending lists of ids.
use Rattle.std.proofs.Common.{◌≡◌, ℕ, zero, suc, ◌+◌, ◌<◌, ◌≤◌, ◌==◌, Bool, true, false, cond, ◌&&◌, ◌||◌, Result, Ok, Err, List, [], ◌∷◌, ◌++◌, length, get_or, refl, sym, ap, subst, ◌∙◌, inl, inr, arith, eqb, eqb-true}
use Rattle.std.specs.Ordering.{nat_cmp}
use Rattle.std.specs.List.{dedup, dedup_from, filter}
use Rattle.std.specs.List.Sorted.{IsBinarySearchResult, IsPermutation, IsStrictlyIncreasing}
use Rattle.std.specs.Result.{is_ok}
use Rattle.std.proofs.lemmas.Bool.{false≢true, both_ways, cases_Bool, cases_lt, ne_eqb, or_cases, or_from, or_right}
use Rattle.std.proofs.lemmas.Bool.Decides.{nat_tests}
use Rattle.std.proofs.lemmas.List.Kept.{AllPairs-from_increasing}
use Rattle.std.proofs.lemmas.List.Sorted.{list_any-IsPermutation, searched}
use Rattle.relation.specs.Key.{has_id}
use Rattle.relation.proofs.SearchLemmas.{numbers_rise}
use Rattle.exact.proofs.Naturals.{differs_below}

-- ---- a binary search

pub has_at : (ids : List ℕ) (k id : ℕ) → k < length ids → get_or ids k 0 ≡ id → has_id ids id ≡ true
has_at [] k id within is = absurd (omega (arith, within))
has_at (x ∷ ids) zero id within is = grind (arith, nat_tests, is)
has_at (x ∷ ids) (suc k) id within is = or_right (x == id) (has_id ids id) (has_at ids k id (omega (arith, within)) is)

has_absent : (ids : List ℕ) (id : ℕ) → ((k : ℕ) → k < length ids → get_or ids k 0 ≡ id → ⊥) → has_id ids id ≡ false
has_absent [] id none = refl
has_absent (x ∷ ids) id none =
    or_from (x == id) (has_id ids id) (ne_eqb x id (none 0 (omega arith))) (has_absent ids id (λ k within. none (suc k) (omega (arith, within))))

pub search_is_has : (ids : List ℕ) (id : ℕ) (r : Result ℕ ℕ) → IsStrictlyIncreasing ids → IsBinarySearchResult (λ y. nat_cmp y id) ids r → is_ok r ≡ has_id ids id
search_is_has ids id (Ok i) up is =
    let found = searched ids id (Ok i) is (λ i j order within. numbers_rise ids up i j 0 order within) in
    sym (has_at ids i id found.0 found.1)
search_is_has ids id (Err i) up is =
    let gap = searched ids id (Err i) is (λ i j order within. numbers_rise ids up i j 0 order within) in
    sym (has_absent ids id (λ k within same. grind (arith, gap.1 k, gap.2 k, within, same)))

-- ---- some of a list

one_filtered : (p : ℕ → Bool) (x id : ℕ) (kept here : Bool) (rest : List ℕ) → p x ≡ kept → has_id rest id ≡ (here && p id) →
    has_id (cond kept (x ∷ rest) rest) id ≡ (((x == id) || here) && p id)
one_filtered p x id kept here rest is later =
    elim (cases_Bool (x == id)) [
      | inl same ↦
          let equal : x ≡ id = grind (arith, nat_tests, same) in
          let also : p id ≡ kept = ap p (sym equal) ∙ is in
          by_same kept same also
      | inr differs ↦ by_rest kept differs
    ]
  where
    by_same : (kept : Bool) → (x == id) ≡ true → p id ≡ kept → has_id (cond kept (x ∷ rest) rest) id ≡ (((x == id) || here) && p id)
    by_same true same also = ap (λ b. b || has_id rest id) same ∙ sym (ap (λ b. (b || here) && p id) same ∙ also)
    by_same false same also = later ∙ ap (λ b. here && b) also ∙ and_false here ∙ sym (ap (λ b. (b || here) && p id) same ∙ also)
      where
        and_false : (b : Bool) → (b && false) ≡ false
        and_false true = refl
        and_false false = refl

    by_rest : (kept : Bool) → (x == id) ≡ false → has_id (cond kept (x ∷ rest) rest) id ≡ (((x == id) || here) && p id)
    by_rest true differs = ap (λ b. b || has_id rest id) differs ∙ later ∙ sym (ap (λ b. (b || here) && p id) differs)
    by_rest false differs = later ∙ sym (ap (λ b. (b || here) && p id) differs)

pub has-filter : (p : ℕ → Bool) (ids : List ℕ) (id : ℕ) → has_id (filter p ids) id ≡ (has_id ids id && p id)
has-filter p [] id = refl
has-filter p (x ∷ ids) id = one_filtered p x id (p x) (has_id ids id) (filter p ids) refl (has-filter p ids id)

-- ---- two lists

pub has-append : (ids others : List ℕ) (id : ℕ) → has_id (ids ++ others) id ≡ (has_id ids id || has_id others id)
has-append [] others id = refl
has-append (x ∷ ids) others id = ap (λ b. (x == id) || b) (has-append ids others id) ∙ regroup (x == id) (has_id ids id) (has_id others id)
  where
    regroup : (a b c : Bool) → (a || (b || c)) ≡ ((a || b) || c)
    regroup true b c = refl
    regroup false b c = refl

or_twice : (a b : Bool) → (a || b) ≡ (a || (a || b))
or_twice true b = refl
or_twice false b = refl

dedup_step : (k x : ℕ) (ids : List ℕ) (id : ℕ) (same : Bool) → eqb x k ≡ same →
    has_id (dedup_from eqb k ids) id ≡ ((k == id) || has_id ids id) → has_id (dedup_from eqb x ids) id ≡ ((x == id) || has_id ids id) →
    has_id (cond same (dedup_from eqb k ids) (k ∷ dedup_from eqb x ids)) id ≡ ((k == id) || ((x == id) || has_id ids id))
dedup_step k x ids id true is by_last by_own =
    let equal : x ≡ k = eqb-true x k is in
    by_last ∙ or_twice (k == id) (has_id ids id) ∙ ap (λ (y : ℕ). (k == id) || ((y == id) || has_id ids id)) (sym equal)
dedup_step k x ids id false is by_last by_own = ap (λ b. (k == id) || b) by_own

has-dedup_from : (k : ℕ) (ids : List ℕ) (id : ℕ) → has_id (dedup_from eqb k ids) id ≡ ((k == id) || has_id ids id)
has-dedup_from k [] id = refl
has-dedup_from k (x ∷ ids) id = dedup_step k x ids id (eqb x k) refl (has-dedup_from k ids id) (has-dedup_from x ids id)

pub has-dedup : (ids : List ℕ) (id : ℕ) → has_id (dedup eqb ids) id ≡ has_id ids id
has-dedup [] id = refl
has-dedup (x ∷ ids) id = has-dedup_from x ids id

pub has-permutation : (ids others : List ℕ) (id : ℕ) → IsPermutation ids others → has_id ids id ≡ has_id others id
has-permutation ids others id same = list_any-IsPermutation (λ (i : ℕ). i == id) ids others same

-- ---- ascending ids of another list are no more than it has

pub rest_increases : (x : ℕ) (ids : List ℕ) → IsStrictlyIncreasing (x ∷ ids) → IsStrictlyIncreasing ids
rest_increases x ids up k within =
    subst (λ (m : ℕ). get_or ids k 0 < get_or (x ∷ ids) m 0) (let e : suc k + 1 ≡ suc (k + 1) = omega arith in e) (up (suc k) (omega (arith, within)))

later_above : (x : ℕ) (ids : List ℕ) → IsStrictlyIncreasing (x ∷ ids) → (id : ℕ) → has_id ids id ≡ true → x < id
later_above x ids up id has =
    elim (cases_lt x id) [
      | inl above ↦ above
      | inr upto ↦
          absurd (both_ways (has_id ids id)
          (has_absent ids id (λ k within same.
          let over : x < get_or ids k 0 = AllPairs-from_increasing (x ∷ ids) up 0 (suc k) 0 (omega arith) (omega (arith, within)) in
          omega (arith, over, same, upto)))
          has)
    ]

tail_has : (y : ℕ) (ids : List ℕ) (id : ℕ) → (y == id) ≡ false → has_id (y ∷ ids) id ≡ true → has_id ids id ≡ true
tail_has y ids id differs has = ap (λ b. b || has_id ids id) (sym differs) ∙ has

first_has : (x : ℕ) (ids : List ℕ) → has_id (x ∷ ids) x ≡ true
first_has x ids = grind (arith, nat_tests)

pub no_more : (ids others : List ℕ) → IsStrictlyIncreasing ids → IsStrictlyIncreasing others → ((id : ℕ) → has_id ids id ≡ true → has_id others id ≡ true) → length ids ≤ length others
no_more [] others up rise among = omega arith
no_more (x ∷ ids) [] up rise among = absurd (false≢true (among x (first_has x ids)))
no_more (x ∷ ids) (y ∷ others) up rise among =
    elim (cases_Bool (y == x)) [
      | inl same ↦
          let equal : y ≡ x = grind (arith, nat_tests, same) in
          let rest : length ids ≤ length others =
          no_more ids others (rest_increases x ids up) (rest_increases y others rise)
          (λ id has.
          let above : x < id = later_above x ids up id has in
          tail_has y others id (differs_below y id (omega (arith, equal, above))) (among id (or_right (x == id) (has_id ids id) has))) in
          omega (arith, rest)
      | inr differs ↦
          let first : has_id others x ≡ true = tail_has y others x differs (among x (first_has x ids)) in
          let below : y < x = later_above y others rise x first in
          let rest : suc (length ids) ≤ length others =
          no_more (x ∷ ids) others up (rest_increases y others rise)
          (λ id has. tail_has y others id (differs_below y id (at_least id has below)) (among id has)) in
          omega (arith, rest)
    ]
  where
    at_least : (id : ℕ) → has_id (x ∷ ids) id ≡ true → y < x → y < id
    at_least id has below =
        elim (or_cases (x == id) (has_id ids id) has) [
          | inl same ↦ let equal : x ≡ id = grind (arith, nat_tests, same) in omega (arith, equal, below)
          | inr later ↦ let above : x < id = later_above x ids up id later in omega (arith, above, below)
        ]
