-- How many bindings registered queries may have, by the capacities of their classes.
use Rattle.std.proofs.Common.{◌≡◌, ℕ, zero, suc, ◌+◌, ◌*◌, ◌<◌, Bool, true, false, not, ◌&&◌, ◌||◌, List, [], ◌∷◌, ◌++◌, length, map, refl, sym, ap, ◌∙◌, inl, inr, arith, if◌then◌else◌}
use Rattle.std.specs.Prelude.{◌==◌, All, nat_le, nat_lt, slice_index, sum_by}
use Rattle.std.specs.List.{filter, list_all, list_any}
use Rattle.std.proofs.lemmas.Bool.{and_parts, false≢true, or_cases}
use Rattle.std.proofs.lemmas.Bool.Decides.{nat_tests}
use Rattle.std.proofs.lemmas.List.Elements.{All-head, All-tail}
use Rattle.std.proofs.lemmas.List.Sums.{sum_by-cons}
use Rattle.history.specs.Catalog.{Catalog, capacity_of, most_bindings}
use Rattle.history.specs.World.{World}
use Rattle.formula.specs.Resolved.{IsResolved, are_distinct, is_list_of}
use Rattle.formula.specs.Tree.{ResolvedQuery}
use Rattle.formula_shape.specs.declared.limits.TheConstants.{OBJECT_LIMIT}
use Rattle.kept_rows.specs.Numbers.{size_of}
use Rattle.line_meaning.specs.Registry.{Registration}
use Rattle.live_queries.specs.Asked.{FitsWorld}
use Rattle.live_queries.specs.Columns.{Column, HaveCapacitiesOf, column_variables, order_of}
use Rattle.live_queries.specs.Kept.{IsKeptQuery, KeptQuery}
use Rattle.registry.specs.Standing.{registration_of}

-- the product over a list, and over those of a list that pass a test
abbrev product_over : (ℕ → ℕ) → List ℕ → ℕ
product_over f [] = 1
product_over f (x ∷ xs) = f x * product_over f xs

abbrev factor : (ℕ → ℕ) → (ℕ → Bool) → ℕ → ℕ
factor f p u = if p u then f u else 1

abbrev chosen : (ℕ → ℕ) → (ℕ → Bool) → List ℕ → ℕ
chosen f p [] = 1
chosen f p (u ∷ us) = factor f p u * chosen f p us

abbrev among : List ℕ → ℕ → Bool
among xs v = list_any (λ u. u == v) xs

abbrev four : List ℕ
four = 0 ∷ 1 ∷ 2 ∷ 3 ∷ []

one_times : (a b : ℕ) → a * (1 * b) ≡ a * b
one_times a b = omega arith

swapped : (a b c : ℕ) → a * (b * c) ≡ b * (a * c)
swapped a b c = omega arith

paired : (a b c d : ℕ) → (a * c) * (b * d) ≡ (a * b) * (c * d)
paired a b c d = omega arith

joined : (f : ℕ → ℕ) (xs ys : List ℕ) → product_over f (xs ++ ys) ≡ product_over f xs * product_over f ys
joined f [] ys = omega arith
joined f (x ∷ xs) ys = ap (λ n. f x * n) (joined f xs ys) ∙ sym (grouped (f x) (product_over f xs) (product_over f ys))
  where
    grouped : (a b c : ℕ) → (a * b) * c ≡ a * (b * c)
    grouped a b c = omega arith

filtered : (f : ℕ → ℕ) (p : ℕ → Bool) (us : List ℕ) → product_over f (filter p us) ≡ chosen f p us
filtered f p [] = refl
filtered f p (u ∷ us) = one (p u) (filter p us) (chosen f p us) (filtered f p us)
  where
    one : (b : Bool) (rest : List ℕ) (n : ℕ) → product_over f rest ≡ n → product_over f (if b then u ∷ rest else rest) ≡ (if b then f u else 1) * n
    one true rest n e = ap (λ m. f u * m) e
    one false rest n e = e ∙ (let o : n ≡ 1 * n = omega arith in o)

module _ (f : ℕ → ℕ) where
  -- one variable more, of four
  module _ (p : ℕ → Bool) where
    abbrev own : ℕ → ℕ
    own = factor f p

    one_more : (x : ℕ) → x < 4 → p x ≡ false → chosen f (λ u. x == u || p u) four ≡ f x * chosen f p four
    one_more zero few none =
        sym (ap (λ (b : Bool). f 0 * ((if b then f 0 else 1) * chosen f p (1 ∷ 2 ∷ 3 ∷ []))) none ∙ one_times (f 0) (chosen f p (1 ∷ 2 ∷ 3 ∷ [])))
    one_more (suc zero) few none =
        ap (λ n. own 0 * n) (sym (ap (λ (b : Bool). f 1 * ((if b then f 1 else 1) * chosen f p (2 ∷ 3 ∷ []))) none ∙ one_times (f 1) (chosen f p (2 ∷ 3 ∷ []))))
        ∙ swapped (own 0) (f 1) (chosen f p (1 ∷ 2 ∷ 3 ∷ []))
    one_more (suc (suc zero)) few none =
        ap (λ n. own 0 * (own 1 * n))
        (sym (ap (λ (b : Bool). f 2 * ((if b then f 2 else 1) * chosen f p (3 ∷ []))) none ∙ one_times (f 2) (chosen f p (3 ∷ []))))
        ∙ ap (λ n. own 0 * n) (swapped (own 1) (f 2) (chosen f p (2 ∷ 3 ∷ [])))
        ∙ swapped (own 0) (f 2) (chosen f p (1 ∷ 2 ∷ 3 ∷ []))
    one_more (suc (suc (suc zero))) few none =
        ap (λ n. own 0 * (own 1 * (own 2 * n))) (sym (ap (λ (b : Bool). f 3 * ((if b then f 3 else 1) * 1)) none ∙ one_times (f 3) 1))
        ∙ ap (λ n. own 0 * (own 1 * n)) (swapped (own 2) (f 3) (chosen f p (3 ∷ [])))
        ∙ ap (λ n. own 0 * n) (swapped (own 1) (f 3) (chosen f p (2 ∷ 3 ∷ [])))
        ∙ swapped (own 0) (f 3) (chosen f p (1 ∷ 2 ∷ 3 ∷ []))
    one_more (suc (suc (suc (suc x)))) few none = absurd (omega (arith, few))

  -- some of the four, each once
  some_chosen : (n : ℕ) → nat_le n 4 ≡ true → (xs : List ℕ) → are_distinct xs ≡ true → list_all (λ v. nat_lt v n) xs ≡ true →
      product_over f xs ≡ chosen f (among xs) four
  some_chosen n few [] each all = refl
  some_chosen n few (x ∷ xs) each all =
      let parts = and_parts (not (among xs x)) (are_distinct xs) each in
      let below = and_parts (nat_lt x n) (list_all (λ v. nat_lt v n) xs) all in
      ap (λ m. f x * m) (some_chosen n few xs parts.1 below.1)
      ∙ sym (one_more (among xs) x (below_four x below.0) (not_true (among xs x) parts.0))
    where
      below_four : (v : ℕ) → nat_lt v n ≡ true → v < 4
      below_four v h = grind (arith, nat_tests, h, few)

      not_true : (a : Bool) → not a ≡ true → a ≡ false
      not_true true h = absurd (false≢true h)
      not_true false h = refl

  -- some of those below a number, and the others below it
  both_chosen : (n : ℕ) (p : ℕ → Bool) → ((v : ℕ) → p v ≡ true → nat_lt v n ≡ true) → (us : List ℕ) →
      chosen f p us * chosen f (λ v. nat_lt v n && not (p v)) us ≡ chosen f (λ v. nat_lt v n) us
  both_chosen n p below [] = refl
  both_chosen n p below (u ∷ us) =
      paired (factor f p u) (factor f (λ v. nat_lt v n && not (p v)) u) (chosen f p us) (chosen f (λ v. nat_lt v n && not (p v)) us)
      ∙ (λ i. one (p u) (nat_lt u n) (below u) i * both_chosen n p below us i)
    where
      one : (a b : Bool) → (a ≡ true → b ≡ true) → (if a then f u else 1) * (if b && not a then f u else 1) ≡ (if b then f u else 1)
      one true true so = omega arith
      one true false so = absurd (false≢true (so refl))
      one false true so = omega arith
      one false false so = refl

among_below : (n : ℕ) (xs : List ℕ) → list_all (λ v. nat_lt v n) xs ≡ true → (v : ℕ) → among xs v ≡ true → nat_lt v n ≡ true
among_below n [] all v has = absurd (false≢true has)
among_below n (x ∷ xs) all v has =
    let parts = and_parts (nat_lt x n) (list_all (λ u. nat_lt u n) xs) all in
    elim (or_cases (x == v) (among xs v) has) [
      | inl here ↦ same x v here parts.0
      | inr later ↦ among_below n xs parts.1 v later
    ]
  where
    same : (a b : ℕ) → (a == b) ≡ true → nat_lt a n ≡ true → nat_lt b n ≡ true
    same a b h k = grind (arith, nat_tests, h, k)

-- ---- the numbers of a query's bindings

abbrev capacity_at : Catalog → List ℕ → ℕ → ℕ
capacity_at catalog classes v = capacity_of catalog.classes (slice_index classes v)

all_chosen : (catalog : Catalog) (classes : List ℕ) → nat_le (length classes) 4 ≡ true →
    chosen (capacity_at catalog classes) (λ v. nat_lt v (length classes)) four ≡ most_bindings catalog.classes classes
all_chosen catalog [] few = refl
all_chosen catalog (a ∷ []) few = refl
all_chosen catalog (a ∷ b ∷ []) few = refl
all_chosen catalog (a ∷ b ∷ c ∷ []) few = refl
all_chosen catalog (a ∷ b ∷ c ∷ d ∷ []) few = refl
all_chosen catalog (a ∷ b ∷ c ∷ d ∷ e ∷ classes) few = absurd (never (length classes) few)
  where
    never : (n : ℕ) → nat_le (suc (suc (suc (suc (suc n))))) 4 ≡ true → ⊥
    never n h = grind (arith, nat_tests, h)

sizes : (catalog : Catalog) (classes : List ℕ) (cs : List Column) → HaveCapacitiesOf catalog classes cs →
    size_of (column_variables cs) ≡ product_over (capacity_at catalog classes) (map (λ c. c.variable) cs)
sizes catalog classes [] have = refl
sizes catalog classes (c ∷ cs) have = λ i. have.0 i * sizes catalog classes cs have.1 i

order_product : (f : ℕ → ℕ) (q : ResolvedQuery) → IsResolved q → product_over f (order_of q) ≡ chosen f (λ v. nat_lt v (length q.classes)) four
order_product f q is =
    let n : ℕ = length q.classes in
    let few = (and_parts (nat_lt 0 n) (nat_le n OBJECT_LIMIT) is.variables).1 in
    let below = (and_parts (is_list_of OBJECT_LIMIT q.targets) (list_all (λ v. nat_lt v n) q.targets) is.targets).1 in
    joined f q.targets (filter (λ v. nat_lt v n && not (among q.targets v)) four)
    ∙ (λ i. some_chosen f n few q.targets is.differ below i * filtered f (λ v. nat_lt v n && not (among q.targets v)) four i)
    ∙ both_chosen f n (among q.targets) (among_below n q.targets below) four

-- the numbers of a registered query are as many as there may be bindings
query_bindings : (w : World) (k : KeptQuery) → IsKeptQuery k → FitsWorld w k →
    size_of (column_variables k.columns) ≡ most_bindings w.history.catalog.classes k.query.classes
query_bindings w k is fits =
    sizes w.history.catalog k.query.classes k.columns fits.capacities
    ∙ ap (product_over (capacity_at w.history.catalog k.query.classes)) is.order
    ∙ order_product (capacity_at w.history.catalog k.query.classes) k.query is.resolved
    ∙ all_chosen w.history.catalog k.query.classes
    (and_parts (nat_lt 0 (length k.query.classes)) (nat_le (length k.query.classes) OBJECT_LIMIT) is.resolved.variables).1

-- and so for all of them
pub all_bindings : (w : World) (live : List KeptQuery) → All IsKeptQuery live → All (FitsWorld w) live →
    sum_by (λ k. size_of (column_variables k.columns)) live
    ≡ sum_by (λ (r : Registration). most_bindings w.history.catalog.classes r.query.query.classes) (map registration_of live)
all_bindings w [] kept fits = refl
all_bindings w (k ∷ live) kept fits =
    let own = query_bindings w k (All-head IsKeptQuery k live kept) (All-head (FitsWorld w) k live fits) in
    let rest = all_bindings w live (All-tail IsKeptQuery k live kept) (All-tail (FitsWorld w) k live fits) in
    sum_by-cons (λ (q : KeptQuery). size_of (column_variables q.columns)) k live
    ∙ (λ i. own i + rest i)
    ∙ sym (sum_by-cons (λ (r : Registration). most_bindings w.history.catalog.classes r.query.query.classes) (registration_of k) (map registration_of live))
