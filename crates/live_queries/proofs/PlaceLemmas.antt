-- The place of a number in a list that ascends.
use Rattle.std.proofs.Common.{◌≡◌, ℕ, zero, suc, ◌+◌, ◌-◌, ◌<◌, ◌≤◌, Bool, true, false, List, [], ◌∷◌, ◌++◌, length, sym, ap, ◌∙◌, subst, inl, inr, arith}
use Rattle.std.specs.Prelude.{◌==◌, Ok, Err, slice_index}
use Rattle.std.specs.Ordering.{nat_cmp}
use Rattle.std.specs.List.Sorted.{IsBinarySearchResult, IsStrictlyIncreasing}
use Rattle.std.proofs.lemmas.Bool.{cases_lt}
use Rattle.std.proofs.lemmas.List.Sorted.{searched}
use Rattle.kept_rows.specs.declared.binding.Variable.{Variable}
use Rattle.live_queries.specs.Columns.{Column}
use Rattle.live_queries.specs.Written.{IsVariableWith, ids_with}
use Rattle.live_queries.proofs.ColumnLemmas.{last_index, one_more}
use Rattle.exact.proofs.Naturals.{equal_if_same, same_from_equal}
use Rattle.exact.proofs.Truths.{same_truth}

-- ---- each number stands once

below : (xs : List ℕ) → IsStrictlyIncreasing xs → (i d : ℕ) → i + suc d < length xs → slice_index xs i < slice_index xs (i + suc d)
below xs ascend i zero l =
    subst (λ (n : ℕ). slice_index xs i < slice_index xs n) (let e : i + 1 ≡ i + suc zero = omega arith in e) (ascend i (omega (arith, l)))
below xs ascend i (suc d) l =
    let before : slice_index xs i < slice_index xs (i + suc d) = below xs ascend i d (omega (arith, l)) in
    let next : slice_index xs (i + suc d) < slice_index xs (i + suc d + 1) = ascend (i + suc d) (omega (arith, l)) in
    subst (λ (n : ℕ). slice_index xs i < slice_index xs n) (let e : i + suc d + 1 ≡ i + suc (suc d) = omega arith in e) (omega (arith, before, next))

later : (xs : List ℕ) → IsStrictlyIncreasing xs → (i j : ℕ) → i < j → j < length xs → slice_index xs i < slice_index xs j
later xs ascend i j h l =
    let e : i + suc (j - (i + 1)) ≡ j = omega (arith, h) in
    subst (λ (n : ℕ). slice_index xs i < slice_index xs n) e (below xs ascend i (j - (i + 1)) (omega (arith, e, l)))

no_later : (xs : List ℕ) → IsStrictlyIncreasing xs → (i j : ℕ) → i ≤ j → j < length xs → slice_index xs i ≤ slice_index xs j
no_later xs ascend i j h l = elim (cases_lt i j) [
  | inl less ↦ let e : slice_index xs i < slice_index xs j = later xs ascend i j less l in omega (arith, e)
  | inr not_less ↦
      let e : i ≡ j = omega (arith, h, not_less) in
      subst (λ (n : ℕ). slice_index xs i ≤ slice_index xs n) e (omega arith)
]

pub once : (xs : List ℕ) → IsStrictlyIncreasing xs → (i j : ℕ) → i < length xs → j < length xs → slice_index xs i ≡ slice_index xs j → i ≡ j
once xs ascend i j a b same = elim (cases_lt i j) [
  | inl less ↦ let e : slice_index xs i < slice_index xs j = later xs ascend i j less b in absurd (omega (arith, e, same))
  | inr other ↦ elim (cases_lt j i) [
    | inl less ↦ let e : slice_index xs j < slice_index xs i = later xs ascend j i less a in absurd (omega (arith, e, same))
    | inr both ↦ omega (arith, other, both)
  ]
]

pub at_place : (xs : List ℕ) → IsStrictlyIncreasing xs → (at id : ℕ) → at < length xs → slice_index xs at ≡ id →
    (p : ℕ) → p < length xs → (p == at) ≡ (slice_index xs p == id)
at_place xs ascend at id there object p l =
    same_truth (p == at) (slice_index xs p == id)
    (λ h. equal_if_same (slice_index xs p) id (ap (slice_index xs) (same_from_equal p at h) ∙ object))
    (λ h. equal_if_same p at (once xs ascend p at l there (same_from_equal (slice_index xs p) id h ∙ sym object)))

-- ---- what a search finds

pub place_found : (xs : List ℕ) → IsStrictlyIncreasing xs → (id at : ℕ) → IsBinarySearchResult (λ y. nat_cmp y id) xs (Ok at) →
    (p : ℕ) → p < length xs → (p == at) ≡ (slice_index xs p == id)
place_found xs ascend id at found =
    let is = searched xs id (Ok at) found (no_later xs ascend) in
    at_place xs ascend at id is.0 is.1

pub place_missing : (xs : List ℕ) → IsStrictlyIncreasing xs → (id gap other : ℕ) → IsBinarySearchResult (λ y. nat_cmp y id) xs (Err gap) → length xs ≤ other →
    (p : ℕ) → p < length xs → (p == other) ≡ (slice_index xs p == id)
place_missing xs ascend id gap other missing past p l =
    let is = searched xs id (Err gap) missing (no_later xs ascend) in
    same_truth (p == other) (slice_index xs p == id)
    (λ h. let e : p ≡ other = same_from_equal p other h in absurd (omega (arith, e, l, past)))
    (λ h.
    let e : slice_index xs p ≡ id = same_from_equal (slice_index xs p) id h in
    elim (cases_lt p gap) [
      | inl before ↦ let less : slice_index xs p < id = is.1 p before in absurd (omega (arith, e, less))
      | inr after ↦ let more : id < slice_index xs p = is.2 p after l in absurd (omega (arith, e, more))
    ])

-- ---- the variable of a column

-- a column that takes the object has it last
pub variable_added : (takes : Bool) → takes ≡ true → (x c : Column) → x ≡ c → (id : ℕ) (v : Variable) →
    x.numbers.count ≡ length x.ids → IsStrictlyIncreasing (ids_with takes id c) →
    v.count ≡ x.numbers.count + 1 → v.capacity ≡ x.numbers.capacity → v.own ≡ x.numbers.count → IsVariableWith takes id c v
variable_added takes yes_takes x c e id v counted ascend count capacity own_place =
    subst (λ (b : Bool). IsVariableWith b id c v) (sym yes_takes)
    (subst (λ (d : Column). IsVariableWith true id d v) e
    (let many : length (x.ids ++ id ∷ []) ≡ length x.ids + 1 = one_more x.ids id in
    let rising : IsStrictlyIncreasing (x.ids ++ id ∷ []) =
    subst (λ (d : Column). IsStrictlyIncreasing (d.ids ++ id ∷ [])) (sym e) (subst (λ (b : Bool). IsStrictlyIncreasing (ids_with b id c)) yes_takes ascend) in
    record {
      count = omega (arith, count, counted, many);
      capacity = capacity;
      own = λ p l.
          ap (λ n. p == n) (own_place ∙ counted)
          ∙ at_place (x.ids ++ id ∷ []) rising (length x.ids) id (omega (arith, many)) (last_index x.ids id) p (omega (arith, l, count, counted, many));
    }))

pub variable_as_it_is : (takes : Bool) → takes ≡ false → (x c : Column) → x ≡ c → (id : ℕ) (v : Variable) →
    x.numbers.count ≡ length x.ids → v.count ≡ x.numbers.count → v.capacity ≡ x.numbers.capacity →
    ((p : ℕ) → p < length x.ids → (p == v.own) ≡ (slice_index x.ids p == id)) → IsVariableWith takes id c v
variable_as_it_is takes no_takes x c e id v counted count capacity own_place =
    subst (λ (b : Bool). IsVariableWith b id c v) (sym no_takes)
    (subst (λ (d : Column). IsVariableWith false id d v) e
    (record {
      count = count ∙ counted;
      capacity = capacity;
      own = λ p l. own_place p (omega (arith, l, count, counted));
    }))
