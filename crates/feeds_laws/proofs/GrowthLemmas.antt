-- Where objects are added, what held of target objects holds of the same, by the same text.
use Rattle.std.proofs.Common.{◌≡◌, ◌∙◌, ℕ, ◌+◌, Bool, true, ◌&&◌, ◌||◌, List, [], ◌∷◌, ◌++◌, map, length, refl, ap, sym, subst, inl, inr}
use Rattle.std.proofs.lemmas.Bool.{and_parts, cases_Bool, false≢true, or_cases, or_left, or_right}
use Rattle.std.proofs.lemmas.List.Folds.{list_any-append}
use Rattle.std.proofs.lemmas.Slice.Eq.{bytes_eq-Decides}
use Rattle.std.specs.Prelude.{◌==◌, filter, nat_lt, slice_index}
use Rattle.std.specs.List.{AllByRecursion, enumerate_from, flat_map, list_all, list_any}
use Rattle.std.specs.Str.{bytes_eq}
use Rattle.tick_set.specs.Ticks.{within}
use Rattle.history.specs.Catalog.{ObjectInfo, ids_of}
use Rattle.history.specs.World.{World}
use Rattle.formula.specs.Tree.{ResolvedQuery}
use Rattle.meaning.specs.Answer.{answer, full_rows, rows_have}
use Rattle.meaning.specs.Binding.{bindings, holds_full, holds_target, product, tuple_of, tuples}
use Rattle.meaning.proofs.AnswerLemmas.{rows_have_where}
use Rattle.feeds_laws.specs.Targets.{target_of}
use Rattle.feeds_laws.proofs.KeyLemmas.{IsKey, products_are_keys, target_stays}
use Rattle.feeds_laws.proofs.TurningLemmas.{is_some_now}
use Rattle.exact.proofs.Truths.{same_truth}
use Rattle.exact.proofs.Items.{any_and, any_weaker}

-- ---- Tests of lists

any_agree : (P : List ℕ → Type 0) (f g : List ℕ → Bool) → ((x : List ℕ) → P x → f x ≡ g x) → (xs : List (List ℕ)) → AllByRecursion P xs → list_any f xs ≡ list_any g xs
any_agree P f g same [] all = refl
any_agree P f g same (x ∷ xs) all = ap (λ b. b || list_any f xs) (same x all.0) ∙ ap (λ b. g x || b) (any_agree P f g same xs all.1)

any_of_map : (test : List ℕ → Bool) (x : ℕ) (keys : List (List ℕ)) → list_any test (map (λ later. x ∷ later) keys) ≡ list_any (λ later. test (x ∷ later)) keys
any_of_map test x [] = refl
any_of_map test x (key ∷ keys) = ap (λ b. test (x ∷ key) || b) (any_of_map test x keys)

any_of_flat : (test : List ℕ → Bool) (keys : List (List ℕ)) (xs : List ℕ) →
    list_any test (flat_map (λ x. map (λ later. x ∷ later) keys) xs) ≡ list_any (λ x. list_any (λ later. test (x ∷ later)) keys) xs
any_of_flat test keys [] = refl
any_of_flat test keys (x ∷ xs) =
    list_any-append test (map (λ later. x ∷ later) keys) (flat_map (λ x. map (λ later. x ∷ later) keys) xs)
    ∙ ap (λ b. b || list_any test (flat_map (λ x. map (λ later. x ∷ later) keys) xs)) (any_of_map test x keys)
    ∙ ap (λ b. list_any (λ later. test (x ∷ later)) keys || b) (any_of_flat test keys xs)

-- ---- More objects make more keys

ids_more : (objects more : List ObjectInfo) (from class : ℕ) (test : ℕ → Bool) →
    list_any test (map (λ (e : ℕ × ObjectInfo). e.0) (filter (λ (e : ℕ × ObjectInfo). e.1.class == class) (enumerate_from from objects))) ≡ true →
    list_any test (map (λ (e : ℕ × ObjectInfo). e.0) (filter (λ (e : ℕ × ObjectInfo). e.1.class == class) (enumerate_from from (objects ++ more)))) ≡ true
ids_more [] more from class test has = absurd (false≢true has)
ids_more (o ∷ objects) more from class test has = elim (cases_Bool (o.class == class)) [
  | inl own ↦
      let both : (test from || list_any test (map (λ (e : ℕ × ObjectInfo). e.0) (filter (λ (e : ℕ × ObjectInfo). e.1.class == class) (enumerate_from (from + 1) objects)))) ≡ true = rw own at has in
      rw own (elim (or_cases (test from) (list_any test (map (λ (e : ℕ × ObjectInfo). e.0) (filter (λ (e : ℕ × ObjectInfo). e.1.class == class) (enumerate_from (from + 1) objects)))) both) [
        | inl here ↦ or_left (test from) (list_any test (map (λ (e : ℕ × ObjectInfo). e.0) (filter (λ (e : ℕ × ObjectInfo). e.1.class == class) (enumerate_from (from + 1) (objects ++ more))))) here
        | inr later ↦ or_right (test from) (list_any test (map (λ (e : ℕ × ObjectInfo). e.0) (filter (λ (e : ℕ × ObjectInfo). e.1.class == class) (enumerate_from (from + 1) (objects ++ more))))) (ids_more objects more (from + 1) class test later)
      ])
  | inr other ↦ rw other (ids_more objects more (from + 1) class test (rw other at has))
]

products_more : (f g : ℕ → List ℕ) → ((v : ℕ) (test : ℕ → Bool) → list_any test (f v) ≡ true → list_any test (g v) ≡ true) →
    (vs : List ℕ) (test : List ℕ → Bool) → list_any test (product (map f vs)) ≡ true → list_any test (product (map g vs)) ≡ true
products_more f g grows [] test has = has
products_more f g grows (v ∷ vs) test has =
    let first : list_any (λ x. list_any (λ later. test (x ∷ later)) (product (map f vs))) (f v) ≡ true =
    sym (any_of_flat test (product (map f vs)) (f v)) ∙ has in
    let inner : list_any (λ x. list_any (λ later. test (x ∷ later)) (product (map g vs))) (f v) ≡ true =
    any_weaker (λ x. list_any (λ later. test (x ∷ later)) (product (map f vs))) (λ x. list_any (λ later. test (x ∷ later)) (product (map g vs)))
    (λ x. products_more f g grows vs (λ later. test (x ∷ later))) (f v) first in
    any_of_flat test (product (map g vs)) (g v) ∙ grows v (λ x. list_any (λ later. test (x ∷ later)) (product (map g vs))) inner

-- the keys of a query's targets
pub tuples_are_keys : (w : World) (q : ResolvedQuery) → AllByRecursion (IsKey w.history.catalog (length q.targets)) (tuples w q)
tuples_are_keys w q = products_are_keys w.history.catalog (slice_index q.classes) q.targets

-- ---- The ticks of rows

-- ---- What held goes on holding of the same keys

-- the answer is the union of the rows of bindings
abbrev pub AnswersAreUnions : Type 0
AnswersAreUnions = (w : World) (q : ResolvedQuery) → list_all (λ v. nat_lt v (length q.classes)) q.targets ≡ true → (from e : ℕ) (key : List ℕ) (t : ℕ) →
    rows_have (answer w q from e) (λ k. bytes_eq k key) t ≡ rows_have (full_rows w q from e) (λ b. bytes_eq (tuple_of q b) key) t

module _ (union : AnswersAreUnions) (w : World) (q : ResolvedQuery) (targets : list_all (λ v. nat_lt v (length q.classes)) q.targets ≡ true) (from e t : ℕ) where
  abbrev stands : List ℕ → Bool
  stands key = within from e t && holds_target w q e key t

  -- where it holds of target objects, they are some of the classes
  told_is_there : (key : List ℕ) → stands key ≡ true → list_any (λ k. bytes_eq k key && stands k) (tuples w q) ≡ true
  told_is_there key holds =
      sym (rows_have_where (λ k. bytes_eq k key) (tuples w q) (holds_target w q e) from e t)
      ∙ union w q targets from e key t
      ∙ rows_have_where (λ b. bytes_eq (tuple_of q b) key) (bindings w q) (λ b. holds_full w q e (slice_index b)) from e t
      ∙ any_and (λ b. bytes_eq (tuple_of q b) key) (within from e t) (λ b. holds_full w q e (slice_index b) t) (bindings w q)
      ∙ holds

  record IsFound (test : List ℕ → Bool) : Type 0 where
    key : List ℕ
    passes : test key ≡ true

  found : (test : List ℕ → Bool) (keys : List (List ℕ)) → list_any test keys ≡ true → IsFound test
  found test [] has = absurd (false≢true has)
  found test (key ∷ keys) has = elim (or_cases (test key) (list_any test keys) has) [
    | inl here ↦ record { key = key; passes = here }
    | inr later ↦ found test keys later
  ]

  -- in a world with more objects
  pub same_told : (v : World) (more : List ObjectInfo) → v.history.catalog.objects ≡ w.history.catalog.objects ++ more → (target : List ℕ) →
      is_some_now (target_of v.history.catalog) target stands (tuples v q) ≡ is_some_now (target_of w.history.catalog) target stands (tuples w q)
  same_told v more grown target =
      let c = w.history.catalog in
      let d = v.history.catalog in
      let old : List ℕ → Bool = λ key. bytes_eq (target_of c key) target && stands key in
      let new : List ℕ → Bool = λ key. bytes_eq (target_of d key) target && stands key in
      let texts : list_any new (tuples w q) ≡ list_any old (tuples w q) =
      any_agree (IsKey c (length q.targets)) new old
      (λ key is. ap (λ text. bytes_eq text target && stands key) (target_stays c d more grown (length q.targets) key is))
      (tuples w q) (tuples_are_keys w q) in
      let more_keys : list_any new (tuples w q) ≡ true → list_any new (tuples v q) ≡ true =
      products_more (λ u. ids_of c (slice_index q.classes u)) (λ u. ids_of d (slice_index q.classes u))
      (λ u test has. subst (λ (objects : List ObjectInfo). list_any test (map (λ (e : ℕ × ObjectInfo). e.0) (filter (λ (e : ℕ × ObjectInfo). e.1.class == slice_index q.classes u) (enumerate_from 0 objects))) ≡ true) (sym grown)
      (ids_more c.objects more 0 (slice_index q.classes u) test has))
      q.targets new in
      let back : list_any new (tuples v q) ≡ true → list_any new (tuples w q) ≡ true =
      λ has.
      let x = found new (tuples v q) has in
      let both = and_parts (bytes_eq (target_of d x.key) target) (stands x.key) x.passes in
      any_weaker (λ k. bytes_eq k x.key && stands k) new
      (λ k passes.
      let same : k ≡ x.key = (bytes_eq-Decides k x.key).0 (and_parts (bytes_eq k x.key) (stands k) passes).0 in
      ap new same ∙ x.passes)
      (tuples w q) (told_is_there x.key both.1) in
      same_truth (list_any new (tuples v q)) (list_any new (tuples w q)) back more_keys ∙ texts
