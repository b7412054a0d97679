-- The variables in the order of the numbers are those of the query, each once.
use Rattle.std.proofs.Common.{◌≡◌, ℕ, ◌<◌, Bool, true, false, not, ◌&&◌, ◌||◌, List, [], ◌∷◌, ◌++◌, length, map, refl, sym, ap, ◌∙◌, subst, inl, inr, arith, if◌then◌else◌}
use Rattle.std.specs.Prelude.{◌==◌, nat_le, nat_lt}
use Rattle.std.specs.List.{filter, list_all, list_any}
use Rattle.std.proofs.lemmas.Bool.{and_from, and_parts, cases_Bool, false≢true, not_from_false, or_cases, or_left, or_right, or_from}
use Rattle.std.proofs.lemmas.Bool.Decides.{nat_tests}
use Rattle.std.proofs.lemmas.List.Folds.{list_any-append}
use Rattle.std.proofs.lemmas.Map.Views.{any-filter_same}
use Rattle.formula.specs.Resolved.{IsResolved, are_distinct, is_list_of}
use Rattle.formula.specs.Tree.{ResolvedQuery}
use Rattle.formula_shape.specs.declared.limits.TheConstants.{OBJECT_LIMIT}
use Rattle.live_queries.specs.Columns.{Column, columns_have, order_of}
use Rattle.exact.proofs.Naturals.{below_from_test, equals_itself, same_from_equal, test_below}
use Rattle.exact.proofs.Truths.{false_from_not}
use Rattle.relation.proofs.UnionLemmas.{distinct_kept}

abbrev pub among : List ℕ → ℕ → Bool
among xs v = list_any (λ u. u == v) xs

among_kept : (test : ℕ → Bool) (xs : List ℕ) (v : ℕ) → among (filter test xs) v ≡ (test v && among xs v)
among_kept test xs v = any-filter_same (λ u. u == v) test (test v) (λ u same. ap test (same_from_equal u v same)) xs

few : (v : ℕ) → v < 4 → among (0 ∷ 1 ∷ 2 ∷ 3 ∷ []) v ≡ true
few v h = grind (arith, nat_tests, h)

less_than_four : (v n : ℕ) → v < n → nat_le n 4 ≡ true → v < 4
less_than_four v n h k = grind (arith, nat_tests, h, k)

pub all_less : (n : ℕ) (xs : List ℕ) (v : ℕ) → list_all (λ u. nat_lt u n) xs ≡ true → among xs v ≡ true → v < n
all_less n [] v all has = absurd (false≢true has)
all_less n (x ∷ xs) v all has =
    let parts = and_parts (nat_lt x n) (list_all (λ u. nat_lt u n) xs) all in
    elim (or_cases (x == v) (among xs v) has) [
      | inl here ↦ subst (λ (u : ℕ). u < n) (same_from_equal x v here) (below_from_test x n parts.0)
      | inr later ↦ all_less n xs v parts.1 later
    ]

-- ---- each variable once

distinct_append : (xs ys : List ℕ) → are_distinct xs ≡ true → are_distinct ys ≡ true → ((v : ℕ) → among xs v ≡ true → among ys v ≡ false) →
    are_distinct (xs ++ ys) ≡ true
distinct_append [] ys a b apart = b
distinct_append (x ∷ xs) ys a b apart =
    let parts = and_parts (not (among xs x)) (are_distinct xs) a in
    and_from (not (among (xs ++ ys) x)) (are_distinct (xs ++ ys))
    (not_from_false (among (xs ++ ys) x)
    (list_any-append (λ u. u == x) xs ys ∙ or_from (among xs x) (among ys x) (false_from_not (among xs x) parts.0) (apart x (or_left (x == x) (among xs x) (equals_itself x)))))
    (distinct_append xs ys parts.1 b (λ v has. apart v (or_right (x == v) (among xs v) has)))

distinct_if : (b : Bool) (x : ℕ) (rest : List ℕ) → among rest x ≡ false → are_distinct rest ≡ true → are_distinct (if b then x ∷ rest else rest) ≡ true
distinct_if true x rest none distinct = and_from (not (among rest x)) (are_distinct rest) (not_from_false (among rest x) none) distinct
distinct_if false x rest none distinct = distinct

-- ---- the order of a query

module _ (q : ResolvedQuery) (is : IsResolved q) where
  abbrev other : ℕ → Bool
  other v = nat_lt v (length q.classes) && not (among q.targets v)

  parted : (v : ℕ) → among (order_of q) v ≡ (among q.targets v || (other v && among (0 ∷ 1 ∷ 2 ∷ 3 ∷ []) v))
  parted v =
      list_any-append (λ u. u == v) q.targets (filter other (0 ∷ 1 ∷ 2 ∷ 3 ∷ []))
      ∙ ap (λ b. among q.targets v || b) (among_kept other (0 ∷ 1 ∷ 2 ∷ 3 ∷ []) v)

  pub order_has : (v : ℕ) → v < length q.classes → among (order_of q) v ≡ true
  order_has v h =
      let count = and_parts (nat_lt 0 (length q.classes)) (nat_le (length q.classes) OBJECT_LIMIT) is.variables in
      parted v
      ∙ elim (cases_Bool (among q.targets v)) [
        | inl target ↦ or_left (among q.targets v) (other v && among (0 ∷ 1 ∷ 2 ∷ 3 ∷ []) v) target
        | inr rest ↦ or_right (among q.targets v) (other v && among (0 ∷ 1 ∷ 2 ∷ 3 ∷ []) v)
            (and_from (other v) (among (0 ∷ 1 ∷ 2 ∷ 3 ∷ []) v)
            (and_from (nat_lt v (length q.classes)) (not (among q.targets v)) (test_below v (length q.classes) h) (not_from_false (among q.targets v) rest))
            (few v (less_than_four v (length q.classes) h count.1)))
      ]

  pub order_below : (v : ℕ) → among (order_of q) v ≡ true → v < length q.classes
  order_below v has =
      elim (or_cases (among q.targets v) (other v && among (0 ∷ 1 ∷ 2 ∷ 3 ∷ []) v) (sym (parted v) ∙ has)) [
        | inl target ↦ all_less (length q.classes) q.targets v
            (and_parts (is_list_of OBJECT_LIMIT q.targets) (list_all (λ u. nat_lt u (length q.classes)) q.targets) is.targets).1 target
        | inr rest ↦ below_from_test v (length q.classes)
            (and_parts (nat_lt v (length q.classes)) (not (among q.targets v)) (and_parts (other v) (among (0 ∷ 1 ∷ 2 ∷ 3 ∷ []) v) rest).0).0
      ]

  pub order_distinct : are_distinct (order_of q) ≡ true
  order_distinct =
      distinct_append q.targets (filter other (0 ∷ 1 ∷ 2 ∷ 3 ∷ [])) is.differ (distinct_kept other (0 ∷ 1 ∷ 2 ∷ 3 ∷ []) refl)
      (λ v target. among_kept other (0 ∷ 1 ∷ 2 ∷ 3 ∷ []) v ∙ no_other (nat_lt v (length q.classes)) (among q.targets v) (among (0 ∷ 1 ∷ 2 ∷ 3 ∷ []) v) target)
    where
      no_other : (a b c : Bool) → b ≡ true → ((a && not b) && c) ≡ false
      no_other true true c e = refl
      no_other false true c e = refl
      no_other a false c e = absurd (false≢true e)

-- ---- the columns

pub columns_are : (cs : List Column) (v : ℕ) → columns_have cs v ≡ among (map (λ c. c.variable) cs) v
columns_are [] v = refl
columns_are (c ∷ cs) v = ap (λ b. c.variable == v || b) (columns_are cs v)
