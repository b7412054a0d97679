-- For this crate and for the crates above: the ticks of rows, and the answer as the union of the rows of bindings.
use Rattle.std.proofs.Common.{◌≡◌, ℕ, zero, suc, ◌+◌, ◌<◌, ◌≤◌, Bool, true, false, ◌&&◌, ◌||◌, List, [], ◌∷◌, length, map, refl, sym, ap, ◌∙◌, inl, inr, arith, if◌then◌else◌}
use Rattle.std.specs.Prelude.{◌==◌, nat_le, nat_lt, slice_index}
use Rattle.std.specs.List.{flat_map, list_all, list_any}
use Rattle.std.specs.Str.{bytes_eq}
use Rattle.std.proofs.lemmas.Bool.{false≢true, and_parts, cases_eq, ne_eqb, or_cases, or_left, or_right}
use Rattle.std.proofs.lemmas.Bool.Decides.{nat_tests}
use Rattle.std.proofs.lemmas.List.Folds.{list_any-append}
use Rattle.exact.proofs.Lists.{bytes_eq_refl, bytes_eq_true}
use Rattle.exact.proofs.Items.{any_and}
use Rattle.tick_set.specs.Runs.{runs_of, with_tick}
use Rattle.tick_set.specs.TickList.{has}
use Rattle.tick_set.specs.Ticks.{listed, within}
use Rattle.tick_set.proofs.CallerLemmas.{has_listed}
use Rattle.history.specs.Catalog.{ids_of}
use Rattle.history.specs.World.{World}
use Rattle.formula.specs.declared.kind.QueryKind.{QueryKind}
use Rattle.formula.specs.declared.kind.QueryKind.TheVariants.{Keep, Watch}
use Rattle.formula.specs.Tree.{ResolvedQuery}
use Rattle.meaning.specs.Answer.{Row, answer, full_rows, has_ticks, row_where, rows_have, rows_where, runs_have}
use Rattle.meaning.specs.Binding.{bindings, holds_full, holds_target, product, tuple_of, tuples}
use Rattle.meaning.specs.Registered.{RegisteredQuery, first_tick, registered_answer}

-- ---- the ticks of runs

-- the first tick of each run isn't past its last
abbrev AreOrdered : List (ℕ × ℕ) → Type 0
AreOrdered [] = Unit {0}
AreOrdered (run ∷ runs) = (run.0 ≤ run.1) × AreOrdered runs

with_tick-ordered : (t : ℕ) (runs : List (ℕ × ℕ)) → AreOrdered runs → AreOrdered (with_tick t runs)
with_tick-ordered t [] ordered = (omega arith, tt)
with_tick-ordered t ((lo, hi) ∷ runs) ordered =
    elim (cases_eq lo (t + 1)) [
      | inl next ↦ rw next (grind (arith, nat_tests, ordered.0, ordered.1))
      | inr apart ↦ let no = ne_eqb lo (t + 1) apart in rw no ((omega arith, ordered))
    ]

runs_of-ordered : (ticks : List ℕ) → AreOrdered (runs_of ticks)
runs_of-ordered [] = tt
runs_of-ordered (t ∷ ticks) = with_tick-ordered t (runs_of ticks) (runs_of-ordered ticks)

with_tick-has : (t : ℕ) (runs : List (ℕ × ℕ)) → AreOrdered runs → (u : ℕ) → runs_have (with_tick t runs) u ≡ (t == u || runs_have runs u)
with_tick-has t [] ordered u = grind (arith, nat_tests)
with_tick-has t ((lo, hi) ∷ runs) ordered u =
    let first : lo ≤ hi = ordered.0 in
    elim (cases_eq lo (t + 1)) [
      | inl next ↦ grind (arith, nat_tests, first)
      | inr apart ↦ let no = ne_eqb lo (t + 1) apart in grind (arith, nat_tests, no)
    ]

runs_of-has : (ticks : List ℕ) (u : ℕ) → runs_have (runs_of ticks) u ≡ has ticks u
runs_of-has [] u = refl
runs_of-has (t ∷ ticks) u =
    with_tick-has t (runs_of ticks) (runs_of-ordered ticks) u ∙ ap (λ b. t == u || b) (runs_of-has ticks u)

pub runs_have_listed : (p : ℕ → Bool) (from e t : ℕ) → runs_have (runs_of (listed p from e)) t ≡ (within from e t && p t)
runs_have_listed p from e t = runs_of-has (listed p from e) t ∙ has_listed p from e t

-- ---- the ticks of rows

pub no_ticks : (runs : List (ℕ × ℕ)) (t : ℕ) → has_ticks runs ≡ false → runs_have runs t ≡ false
no_ticks [] t none = refl
no_ticks (run ∷ runs) t none = let wrong : true ≡ false = none in cc

-- a row without ticks adds none
pub one_row : (test : List ℕ → Bool) (row : Row) (rows : List Row) (t : ℕ) (there : Bool) → has_ticks row.runs ≡ there →
    rows_have (if there then row ∷ rows else rows) test t ≡ (test row.key && runs_have row.runs t || rows_have rows test t)
one_row test row rows t true is = refl
one_row test row rows t false is = grind (arith, no_ticks row.runs t is)

pub rows_have_where : (test : List ℕ → Bool) (keys : List (List ℕ)) (holds : List ℕ → ℕ → Bool) (from e t : ℕ) →
    rows_have (rows_where keys holds from e) test t ≡ list_any (λ key. test key && (within from e t && holds key t)) keys
rows_have_where test [] holds from e t = refl
rows_have_where test (key ∷ keys) holds from e t =
    one_row test (row_where holds from e key) (rows_where keys holds from e) t (has_ticks (row_where holds from e key).runs) refl
    ∙ ap (λ b. test key && b || rows_have (rows_where keys holds from e) test t) (runs_have_listed (holds key) from e t)
    ∙ ap (λ b. test key && (within from e t && holds key t) || b) (rows_have_where test keys holds from e t)

-- ---- the members of a product

-- one member of each list, in their order
abbrev are_members : List (List ℕ) → List ℕ → Bool
are_members [] [] = true
are_members [] (x ∷ b) = false
are_members (xs ∷ lists) [] = false
are_members (xs ∷ lists) (x ∷ b) = list_any (λ y. y == x) xs && are_members lists b

-- each choice with x in front
any_with : (x y : ℕ) (b : List ℕ) (choices : List (List ℕ)) →
    list_any (λ c. bytes_eq c (y ∷ b)) (map (λ c. x ∷ c) choices) ≡ (x == y && list_any (λ c. bytes_eq c b) choices)
any_with x y b [] = grind (arith)
any_with x y b (c ∷ choices) = grind (arith, any_with x y b choices)

any_with_none : (x : ℕ) (choices : List (List ℕ)) → list_any (λ c. bytes_eq c []) (map (λ c. x ∷ c) choices) ≡ false
any_with_none x [] = refl
any_with_none x (c ∷ choices) = any_with_none x choices

any_of_product : (y : ℕ) (b xs : List ℕ) (choices : List (List ℕ)) →
    list_any (λ c. bytes_eq c (y ∷ b)) (flat_map (λ x. map (λ c. x ∷ c) choices) xs)
    ≡ (list_any (λ x. x == y) xs && list_any (λ c. bytes_eq c b) choices)
any_of_product y b [] choices = refl
any_of_product y b (x ∷ xs) choices =
    list_any-append (λ c. bytes_eq c (y ∷ b)) (map (λ c. x ∷ c) choices) (flat_map (λ x. map (λ c. x ∷ c) choices) xs)
    ∙ grind (arith, any_with x y b choices, any_of_product y b xs choices)

any_of_product_none : (xs : List ℕ) (choices : List (List ℕ)) →
    list_any (λ c. bytes_eq c []) (flat_map (λ x. map (λ c. x ∷ c) choices) xs) ≡ false
any_of_product_none [] choices = refl
any_of_product_none (x ∷ xs) choices =
    list_any-append (λ c. bytes_eq c []) (map (λ c. x ∷ c) choices) (flat_map (λ x. map (λ c. x ∷ c) choices) xs)
    ∙ grind (arith, any_with_none x choices, any_of_product_none xs choices)

pub product_has : (lists : List (List ℕ)) (b : List ℕ) → list_any (λ c. bytes_eq c b) (product lists) ≡ are_members lists b
product_has [] [] = refl
product_has [] (x ∷ b) = refl
product_has (xs ∷ lists) [] = any_of_product_none xs (product lists)
product_has (xs ∷ lists) (x ∷ b) =
    any_of_product x b xs (product lists) ∙ ap (λ b. list_any (λ y. y == x) xs && b) (product_has lists b)

-- what a member has at a place is one of the list of that place
members_at : (lists : ℕ → List ℕ) (classes b : List ℕ) → are_members (map lists classes) b ≡ true → (v : ℕ) → v < length classes →
    list_any (λ y. y == slice_index b v) (lists (slice_index classes v)) ≡ true
members_at lists [] b members v within = absurd (omega arith)
members_at lists (k ∷ classes) [] members v within = let wrong : false ≡ true = members in cc
members_at lists (k ∷ classes) (x ∷ b) members zero within =
    (and_parts (list_any (λ y. y == x) (lists k)) (are_members (map lists classes) b) members).0
members_at lists (k ∷ classes) (x ∷ b) members (suc v) within =
    members_at lists classes b (and_parts (list_any (λ y. y == x) (lists k)) (are_members (map lists classes) b) members).1 v (omega arith)

-- and so a list of some of its places is one choice of their lists
chosen : (lists : ℕ → List ℕ) (b targets : List ℕ) (count : ℕ) → list_all (λ v. nat_lt v count) targets ≡ true →
    ((v : ℕ) → v < count → list_any (λ y. y == slice_index b v) (lists v) ≡ true) →
    are_members (map lists targets) (map (slice_index b) targets) ≡ true
chosen lists b [] count below each = refl
chosen lists b (v ∷ targets) count below each =
    let parts = and_parts (nat_lt v count) (list_all (λ v. nat_lt v count) targets) below in
    let first : v < count = grind (arith, nat_tests, parts.0) in
    grind (arith, each v first, chosen lists b targets count parts.1 each)

-- ---- the answer

abbrev HasTargets : ResolvedQuery → Type 0
HasTargets q = list_all (λ v. nat_lt v (length q.classes)) q.targets ≡ true

-- the tuple of a binding is one of the tuples
pub tuple_is_there : (w : World) (q : ResolvedQuery) → HasTargets q → (b : List ℕ) → list_any (λ c. bytes_eq c b) (bindings w q) ≡ true →
    list_any (λ c. bytes_eq c (tuple_of q b)) (tuples w q) ≡ true
tuple_is_there w q targets b there =
    let ids = ids_of w.history.catalog in
    let members : are_members (map ids q.classes) b ≡ true = sym (product_has (map ids q.classes) b) ∙ there in
    product_has (map (λ v. ids (slice_index q.classes v)) q.targets) (tuple_of q b)
    ∙ chosen (λ v. ids (slice_index q.classes v)) b q.targets (length q.classes) targets (members_at ids q.classes b members)

-- the first of some choices that passes a test
pub record Chosen (test : List ℕ → Bool) (choices : List (List ℕ)) : Type 0 where
  pub choice : List ℕ
  pub passes : test choice ≡ true
  pub there : list_any (λ c. bytes_eq c choice) choices ≡ true

found : (test : List ℕ → Bool) (choices : List (List ℕ)) → list_any test choices ≡ true → Chosen test choices
found test [] holds = let wrong : false ≡ true = holds in absurd (false≢true wrong)
found test (c ∷ choices) holds =
    elim (or_cases (test c) (list_any test choices) holds) [
      | inl first ↦ record { choice = c; passes = first; there = or_left (bytes_eq c c) (list_any (λ d. bytes_eq d c) choices) (bytes_eq_refl c) }
      | inr later ↦
          let s = found test choices later in
          record {
            choice = s.choice;
            passes = s.passes;
            there = or_right (bytes_eq c s.choice) (list_any (λ d. bytes_eq d s.choice) choices) s.there;
          }
    ]

same_key : (k key : List ℕ) (at : List ℕ → Bool) (equal : Bool) → bytes_eq k key ≡ equal → (equal && at k) ≡ (equal && at key)
same_key k key at true is = ap at (bytes_eq_true k key is)
same_key k key at false is = refl

only_where : (there here some : Bool) → (some ≡ true → there ≡ true) → (there && (here && some)) ≡ (here && some)
only_where true here some needed = refl
only_where false here true needed = let wrong : false ≡ true = needed refl in absurd (false≢true wrong)
only_where false true false needed = refl
only_where false false false needed = refl

-- a test that says the same of a key that is there
any_key : (key : List ℕ) (at : List ℕ → Bool) (keys : List (List ℕ)) →
    list_any (λ k. bytes_eq k key && at k) keys ≡ (list_any (λ k. bytes_eq k key) keys && at key)
any_key key at [] = refl
any_key key at (k ∷ keys) =
    let here : (bytes_eq k key && at k) ≡ (bytes_eq k key && at key) = same_key k key at (bytes_eq k key) refl in
    grind (arith, here, any_key key at keys)

pub answer_is_union : (w : World) (q : ResolvedQuery) → HasTargets q → (from e : ℕ) (key : List ℕ) (t : ℕ) →
    rows_have (answer w q from e) (λ k. bytes_eq k key) t ≡ rows_have (full_rows w q from e) (λ b. bytes_eq (tuple_of q b) key) t
answer_is_union w q targets from e key t =
    let here : Bool = within from e t in
    let full : List ℕ → Bool = λ b. holds_full w q e (slice_index b) t in
    let some : Bool = holds_target w q e key t in
    let needed : some ≡ true → list_any (λ k. bytes_eq k key) (tuples w q) ≡ true =
    λ holds.
    let s = found (λ b. bytes_eq (tuple_of q b) key && full b) (bindings w q) holds in
    let same = bytes_eq_true (tuple_of q s.choice) key (and_parts (bytes_eq (tuple_of q s.choice) key) (full s.choice) s.passes).0 in
    ap (λ k. list_any (λ c. bytes_eq c k) (tuples w q)) (sym same) ∙ tuple_is_there w q targets s.choice s.there in
    rows_have_where (λ k. bytes_eq k key) (tuples w q) (holds_target w q e) from e t
    ∙ any_key key (λ k. here && holds_target w q e k t) (tuples w q)
    ∙ only_where (list_any (λ k. bytes_eq k key) (tuples w q)) here some needed
    ∙ sym (any_and (λ b. bytes_eq (tuple_of q b) key) here full (bindings w q))
    ∙ sym (rows_have_where (λ b. bytes_eq (tuple_of q b) key) (bindings w q) (λ b. holds_full w q e (slice_index b)) from e t)

-- ---- the answers of a query that stays

-- what the rows of all bindings have, of those that pass a test
full_rows_have : (w : World) (q : ResolvedQuery) (from e : ℕ) (test : List ℕ → Bool) (t : ℕ) →
    rows_have (full_rows w q from e) test t ≡ (within from e t && list_any (λ b. test b && holds_full w q e (slice_index b) t) (bindings w q))
full_rows_have w q from e test t =
    rows_have_where test (bindings w q) (λ b. holds_full w q e (slice_index b)) from e t
    ∙ any_and test (within from e t) (λ b. holds_full w q e (slice_index b) t) (bindings w q)

within_later : (entry from e t : ℕ) (some : Bool) → entry ≤ from → (within from e t && some) ≡ (nat_le from t && (within entry e t && some))
within_later entry from e t some upto = grind (arith, nat_tests, upto)

pub answer_of_kept : (w : World) (q : ResolvedQuery) → HasTargets q → (entry from e : ℕ) → entry ≤ from → (key : List ℕ) (t : ℕ) →
    rows_have (answer w q from e) (λ k. bytes_eq k key) t
    ≡ (nat_le from t && rows_have (full_rows w q entry e) (λ b. bytes_eq (tuple_of q b) key) t)
answer_of_kept w q targets entry from e upto key t =
    let test : List ℕ → Bool = λ b. bytes_eq (tuple_of q b) key in
    let some : Bool = list_any (λ b. test b && holds_full w q e (slice_index b) t) (bindings w q) in
    answer_is_union w q targets from e key t
    ∙ full_rows_have w q from e test t
    ∙ within_later entry from e t some upto
    ∙ ap (λ b. nat_le from t && b) (sym (full_rows_have w q entry e test t))

first_tick_later : (kind : QueryKind) (entry n m : ℕ) → n ≤ m → first_tick kind entry n ≤ first_tick kind entry m
first_tick_later Watch entry n m later = later
first_tick_later Keep entry n m later = omega arith

-- what a query that stays answers later is what is left of what it answered
pub answer_is_left : (w : World) (r : RegisteredQuery) → HasTargets r.query → (n m : ℕ) → n ≤ m → (key : List ℕ) (t : ℕ) →
    rows_have (registered_answer w r m) (λ k. bytes_eq k key) t
    ≡ (nat_le (first_tick r.kind r.entry m) t && rows_have (registered_answer w r n) (λ k. bytes_eq k key) t)
answer_is_left w r targets n m later key t =
    let first = first_tick r.kind r.entry n in
    let from = first_tick r.kind r.entry m in
    answer_of_kept w r.query targets first from r.expiry (first_tick_later r.kind r.entry n m later) key t
    ∙ ap (λ b. nat_le from t && b) (sym (answer_is_union w r.query targets first r.expiry key t))
