-- The numbers of the bindings of a query, in whatever order its variables stand.
use Rattle.std.proofs.Common.{◌≡◌, ℕ, ◌*◌, ◌<◌, ◌≤◌, Bool, true, false, ◌||◌, List, [], ◌∷◌, length, refl, sym, ap, ◌∙◌, subst, inl, inr, arith, if◌then◌else◌}
use Rattle.std.specs.Prelude.{◌==◌, not, nat_lt, nat_le, slice_index}
use Rattle.std.proofs.lemmas.Bool.{and_parts, cases_Bool, false≢true, or_cases, or_parts}
use Rattle.std.proofs.lemmas.Bool.Decides.{nat_tests}
use Rattle.history.specs.Catalog.{Catalog, capacity_of, most_bindings}
use Rattle.formula_shape.specs.declared.limits.TheConstants.{OBJECT_LIMIT}
use Rattle.formula.specs.Resolved.{IsResolved, are_distinct}
use Rattle.formula.specs.Tree.{ResolvedQuery}
use Rattle.kept_rows.specs.Numbers.{size_of}
use Rattle.live_queries.specs.Columns.{AreColumnsOf, Column, column_variables, order_of}
use Rattle.live_queries.proofs.ColumnLemmas.{turned}
use Rattle.live_queries.proofs.OrderLemmas.{among, order_below, order_distinct, order_has}
use Rattle.exact.proofs.Truths.{false_from_not, same_truth}
use Rattle.exact.proofs.Naturals.{same_from_equal, test_below}

-- the product over a list, and over those of a list that pass a test
abbrev product_over : (ℕ → ℕ) → List ℕ → ℕ
product_over f [] = 1
product_over f (x ∷ xs) = f x * product_over f xs

abbrev chosen : (ℕ → ℕ) → (ℕ → Bool) → List ℕ → ℕ
chosen f p [] = 1
chosen f p (u ∷ us) = (if p u then f u else 1) * chosen f p us

chosen_none : (f : ℕ → ℕ) (us : List ℕ) → chosen f (λ u. false) us ≡ 1
chosen_none f [] = refl
chosen_none f (u ∷ us) = ap (λ n. 1 * n) (chosen_none f us)

module _ (f : ℕ → ℕ) (p : ℕ → Bool) (x : ℕ) where
  abbrev with_x : ℕ → Bool
  with_x u = x == u || p u

  elsewhere : (us : List ℕ) → among us x ≡ false → chosen f with_x us ≡ chosen f p us
  elsewhere [] apart = refl
  elsewhere (u ∷ us) apart =
      let parts = or_parts (u == x) (among us x) apart in
      (λ i. (if turned_apart u parts.0 i || p u then f u else 1) * elsewhere us parts.1 i)
    where
      turned_apart : (w : ℕ) → (w == x) ≡ false → (x == w) ≡ false
      turned_apart w h = grind (arith, nat_tests, h)

  one_more_chosen : (us : List ℕ) → among us x ≡ true → are_distinct us ≡ true → p x ≡ false → chosen f with_x us ≡ f x * chosen f p us
  one_more_chosen [] there distinct none = absurd (false≢true there)
  one_more_chosen (u ∷ us) there distinct none =
      let parts = and_parts (not (among us u)) (are_distinct us) distinct in
      elim (cases_Bool (u == x)) [
        | inl here ↦
            let same : u ≡ x = same_from_equal u x here in
            (λ i. (if turned u x here i || p u then f u else 1) * elsewhere us (subst (λ (w : ℕ). among us w ≡ false) same (false_from_not (among us u) parts.0)) i)
            ∙ ap (λ w. f w * chosen f p us) same
            ∙ sym (ap (λ (b : Bool). f x * ((if b then f u else 1) * chosen f p us)) (ap p same ∙ none) ∙ one_times (f x) (chosen f p us))
        | inr other ↦
            let behind : among us x ≡ true = elim (or_cases (u == x) (among us x) there) [
              | inl first ↦ absurd (false≢true (sym other ∙ first))
              | inr rest ↦ rest
            ] in
            (λ i. (if turned_apart other i || p u then f u else 1) * one_more_chosen us behind parts.1 none i)
            ∙ swapped (if p u then f u else 1) (f x) (chosen f p us)
      ]
    where
      turned_apart : (u == x) ≡ false → (x == u) ≡ false
      turned_apart h = grind (arith, nat_tests, h)

      one_times : (a b : ℕ) → a * (1 * b) ≡ a * b
      one_times a b = omega arith

      swapped : (a b c : ℕ) → a * (b * c) ≡ b * (a * c)
      swapped a b c = omega arith

-- a list of numbers that each stand once in another one, which has each of its own once
product_chosen : (f : ℕ → ℕ) (us xs : List ℕ) → are_distinct us ≡ true → are_distinct xs ≡ true → ((v : ℕ) → among xs v ≡ true → among us v ≡ true) →
    product_over f xs ≡ chosen f (among xs) us
product_chosen f us [] all each inside = sym (chosen_none f us)
product_chosen f us (x ∷ xs) all each inside =
    let parts = and_parts (not (among xs x)) (are_distinct xs) each in
    ap (λ n. f x * n) (product_chosen f us xs all parts.1 (λ v has. inside v (later v has)))
    ∙ sym (one_more_chosen f (among xs) x us (inside x (first x)) all (false_from_not (among xs x) parts.0))
  where
    first : (v : ℕ) → (v == v || among xs v) ≡ true
    first v = grind (arith, nat_tests)

    later : (v : ℕ) → among xs v ≡ true → (x == v || among xs v) ≡ true
    later v has = ap (λ b. x == v || b) has ∙ or_true (x == v)
      where
        or_true : (b : Bool) → (b || true) ≡ true
        or_true true = refl
        or_true false = refl

all_chosen : (catalog : Catalog) (classes : List ℕ) → length classes ≤ 4 →
    chosen (λ v. capacity_of catalog.classes (slice_index classes v)) (λ v. nat_lt v (length classes)) (0 ∷ 1 ∷ 2 ∷ 3 ∷ []) ≡ most_bindings catalog.classes classes
all_chosen catalog [] few = refl
all_chosen catalog (a ∷ []) few = refl
all_chosen catalog (a ∷ b ∷ []) few = refl
all_chosen catalog (a ∷ b ∷ c ∷ []) few = refl
all_chosen catalog (a ∷ b ∷ c ∷ d ∷ []) few = refl
all_chosen catalog (a ∷ b ∷ c ∷ d ∷ e ∷ classes) few = absurd (omega (arith, few))

sizes : (catalog : Catalog) (classes vs : List ℕ) (cs : List Column) → AreColumnsOf catalog classes vs cs →
    size_of (column_variables cs) ≡ product_over (λ v. capacity_of catalog.classes (slice_index classes v)) vs
sizes catalog classes [] [] are = refl
sizes catalog classes [] (c ∷ cs) are = absurd are
sizes catalog classes (v ∷ vs) [] are = absurd are
sizes catalog classes (v ∷ vs) (c ∷ cs) are = λ i. are.0.capacity i * sizes catalog classes vs cs are.1 i

-- the columns of a query have as many numbers as there may be bindings
pub columns_size : (catalog : Catalog) (q : ResolvedQuery) (cs : List Column) → IsResolved q → AreColumnsOf catalog q.classes (order_of q) cs →
    size_of (column_variables cs) ≡ most_bindings catalog.classes q.classes
columns_size catalog q cs is are =
    let f : ℕ → ℕ = λ v. capacity_of catalog.classes (slice_index q.classes v) in
    let few : length q.classes ≤ 4 = few_classes (and_parts (nat_lt 0 (length q.classes)) (nat_le (length q.classes) OBJECT_LIMIT) is.variables).1 in
    sizes catalog q.classes (order_of q) cs are
    ∙ product_chosen f (0 ∷ 1 ∷ 2 ∷ 3 ∷ []) (order_of q) refl (order_distinct q is) (λ v has. up_to_three v (below_four v (order_below q is v has) few))
    ∙ ap (λ p. chosen f p (0 ∷ 1 ∷ 2 ∷ 3 ∷ []))
    (λ i v. same_truth (among (order_of q) v) (nat_lt v (length q.classes))
    (λ has. test_below v (length q.classes) (order_below q is v has)) (λ below. order_has q is v (less_is v (length q.classes) below)) i)
    ∙ all_chosen catalog q.classes few
  where
    few_classes : nat_le (length q.classes) OBJECT_LIMIT ≡ true → length q.classes ≤ 4
    few_classes h = grind (arith, nat_tests, h)

    below_four : (v : ℕ) → v < length q.classes → length q.classes ≤ 4 → v < 4
    below_four v a b = omega (arith, a, b)

    up_to_three : (v : ℕ) → v < 4 → among (0 ∷ 1 ∷ 2 ∷ 3 ∷ []) v ≡ true
    up_to_three v h = grind (arith, nat_tests, h)

    less_is : (v n : ℕ) → nat_lt v n ≡ true → v < n
    less_is v n h = grind (arith, nat_tests, h)
