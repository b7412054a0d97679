-- Choices of one member of each of some lists, and the keys of relations as such choices.
use Rattle.std.proofs.Common.{◌≡◌, ℕ, zero, suc, ◌+◌, ◌<◌, Bool, true, false, not, ◌||◌, List, [], ◌∷◌, length, map, refl, sym, ap, ◌∙◌, inl, inr, arith, if◌then◌else◌}
use Rattle.std.specs.Prelude.{◌==◌, nat_lt, slice_index}
use Rattle.std.specs.List.{flat_map, list_all, list_any, range_with_len}
use Rattle.std.proofs.lemmas.Bool.{false≢true, and_from, and_parts, or_cases, or_left, or_parts, or_right}
use Rattle.std.proofs.lemmas.Bool.Decides.{nat_tests}
use Rattle.std.proofs.lemmas.List.Folds.{list_any-append}
use Rattle.formula.specs.Resolved.{are_distinct}
use Rattle.relation.specs.Key.{has_id, ids_of_variable, key_in}
use Rattle.relation.specs.Order.{keys_over}
use Rattle.meaning.specs.Binding.{product}
use Rattle.answers.proofs.ObjectLemmas.{domain_at}
use Rattle.exact.proofs.Truths.{false_from_not}

-- ---- members of a product

-- one member of each list, in their order
abbrev pub AreMembers : List (List ℕ) → List ℕ → Type 0
AreMembers [] [] = Unit {0}
AreMembers [] (x ∷ b) = ⊥
AreMembers (xs ∷ lists) [] = ⊥
AreMembers (xs ∷ lists) (x ∷ b) = (has_id xs x ≡ true) × AreMembers lists b

abbrev block : ℕ → List (List ℕ) → List (List ℕ)
block x choices = map (λ (later : List ℕ). x ∷ later) choices

abbrev blocks : List ℕ → List (List ℕ) → List (List ℕ)
blocks xs choices = flat_map (λ (x : ℕ). block x choices) xs

any_in_block : (test : List ℕ → Bool) (x : ℕ) (choices : List (List ℕ)) → list_any test (block x choices) ≡ list_any (λ c. test (x ∷ c)) choices
any_in_block test x [] = refl
any_in_block test x (c ∷ choices) = ap (λ (b : Bool). test (x ∷ c) || b) (any_in_block test x choices)

any_in_blocks : (test : List ℕ → Bool) (x : ℕ) (xs : List ℕ) (choices : List (List ℕ)) → has_id xs x ≡ true →
    list_any (λ c. test (x ∷ c)) choices ≡ true → list_any test (blocks xs choices) ≡ true
any_in_blocks test x [] choices has some = absurd (false≢true has)
any_in_blocks test x (y ∷ xs) choices has some =
    list_any-append test (block y choices) (blocks xs choices)
    ∙ elim (or_cases (y == x) (has_id xs x) has) [
      | inl here ↦
          let same : y ≡ x = grind (arith, nat_tests, here) in
          or_left (list_any test (block y choices)) (list_any test (blocks xs choices))
          (any_in_block test y choices ∙ ap (λ (z : ℕ). list_any (λ c. test (z ∷ c)) choices) same ∙ some)
      | inr later ↦ or_right (list_any test (block y choices)) (list_any test (blocks xs choices)) (any_in_blocks test x xs choices later some)
    ]

-- a member that passes a test is found
pub product_any : (test : List ℕ → Bool) (lists : List (List ℕ)) (b : List ℕ) → AreMembers lists b → test b ≡ true → list_any test (product lists) ≡ true
product_any test [] [] are passes = or_left (test []) false passes
product_any test [] (x ∷ b) are passes = absurd are
product_any test (xs ∷ lists) [] are passes = absurd are
product_any test (xs ∷ lists) (x ∷ b) are passes = any_in_blocks test x xs (product lists) are.0 (product_any (λ c. test (x ∷ c)) lists b are.1 passes)

pub record Chosen (test : List ℕ → Bool) (lists : List (List ℕ)) : Type 0 where
  pub choice : List ℕ
  pub passes : test choice ≡ true
  pub are : AreMembers lists choice

record Headed (test : List ℕ → Bool) (xs : List ℕ) (choices : List (List ℕ)) : Type 0 where
  head : ℕ
  member : has_id xs head ≡ true
  some : list_any (λ c. test (head ∷ c)) choices ≡ true

headed : (test : List ℕ → Bool) (xs : List ℕ) (choices : List (List ℕ)) → list_any test (blocks xs choices) ≡ true → Headed test xs choices
headed test [] choices some = absurd (false≢true some)
headed test (y ∷ xs) choices some =
    elim (or_cases (list_any test (block y choices)) (list_any test (blocks xs choices)) (sym (list_any-append test (block y choices) (blocks xs choices)) ∙ some)) [
      | inl here ↦ record { head = y; member = or_left (y == y) (has_id xs y) (same_number y); some = sym (any_in_block test y choices) ∙ here }
      | inr later ↦
          let h = headed test xs choices later in
          record { head = h.head; member = or_right (y == h.head) (has_id xs h.head) h.member; some = h.some }
    ]
  where
    same_number : (n : ℕ) → (n == n) ≡ true
    same_number n = grind (arith, nat_tests)

-- and what is found is a member that passes
pub product_found : (test : List ℕ → Bool) (lists : List (List ℕ)) → list_any test (product lists) ≡ true → Chosen test lists
product_found test [] some =
    elim (or_cases (test []) false some) [
      | inl passes ↦ record { choice = []; passes = passes; are = tt }
      | inr none ↦ absurd (false≢true none)
    ]
product_found test (xs ∷ lists) some =
    let h = headed test xs (product lists) some in
    let later = product_found (λ c. test (h.head ∷ c)) lists h.some in
    record { choice = h.head ∷ later.choice; passes = later.passes; are = (h.member, later.are) }

-- a member has at each place one of the list of that place
pub member_at : (lists : List (List ℕ)) (b : List ℕ) → AreMembers lists b → (v : ℕ) → v < length lists → has_id (ids_of_variable lists v) (slice_index b v) ≡ true
member_at [] b are v within = absurd (omega (arith, within))
member_at (xs ∷ lists) [] are v within = absurd are
member_at (xs ∷ lists) (x ∷ b) are zero within = are.0
member_at (xs ∷ lists) (x ∷ b) are (suc v) within = member_at lists b are.1 v (omega (arith, within))

-- the list of an assignment's values is a member where each is one of the list of its place
pub members_from : (lists : List (List ℕ)) (a : ℕ) (b : ℕ → ℕ) → ((v : ℕ) → v < length lists → has_id (ids_of_variable lists v) (b (a + v)) ≡ true) →
    AreMembers lists (map b (range_with_len a (length lists)))
members_from [] a b each = tt
members_from (xs ∷ lists) a b each = (
  ap (λ (v : ℕ). has_id xs (b v)) (let e : a ≡ a + 0 = omega arith in e) ∙ each 0 (omega arith),
  members_from lists (a + 1) b (λ v within. ap (λ (u : ℕ). has_id (ids_of_variable lists v) (b u)) (let e : a + 1 + v ≡ a + suc v = omega arith in e) ∙ each (suc v) (omega (arith, within))),
)

-- ---- the keys over the targets

pub keys_are_tuples : (lists : ℕ → List ℕ) (classes targets : List ℕ) → list_all (λ v. nat_lt v (length classes)) targets ≡ true →
    keys_over (map lists classes) targets ≡ product (map (λ v. lists (slice_index classes v)) targets)
keys_are_tuples lists classes [] below = refl
keys_are_tuples lists classes (v ∷ targets) below =
    let parts = and_parts (nat_lt v (length classes)) (list_all (λ u. nat_lt u (length classes)) targets) below in
    let first : ids_of_variable (map lists classes) v ≡ lists (slice_index classes v) = domain_at lists classes v (grind (arith, nat_tests, parts.0)) in
    let later : keys_over (map lists classes) targets ≡ product (map (λ u. lists (slice_index classes u)) targets) = keys_are_tuples lists classes targets parts.1 in
    λ i. blocks (first i) (later i)

-- what is found among the keys has for each variable an object of its domain
pub key_found : (test : List ℕ → Bool) (domains : List (List ℕ)) (us : List ℕ) → list_any test (keys_over domains us) ≡ true →
    (key : List ℕ) × (test key ≡ true) × (key_in domains us key ≡ true)
key_found test domains [] some =
    elim (or_cases (test []) false some) [
      | inl passes ↦ ([], passes, refl)
      | inr none ↦ absurd (false≢true none)
    ]
key_found test domains (u ∷ us) some =
    let h = headed test (ids_of_variable domains u) (keys_over domains us) some in
    let later = key_found (λ c. test (h.head ∷ c)) domains us h.some in
    (h.head ∷ later.0, later.1, and_from (has_id (ids_of_variable domains u) h.head) (key_in domains us later.0) h.member later.2)

-- an assignment that gives variables the objects of a key
abbrev pub assigned : List ℕ → List ℕ → ℕ → ℕ
assigned [] key v = 0
assigned (u ∷ us) [] v = 0
assigned (u ∷ us) (id ∷ key) v = if u == v then id else assigned us key v

not_there : (u id : ℕ) (g : ℕ → ℕ) (us : List ℕ) → has_id us u ≡ false → map (λ v. if u == v then id else g v) us ≡ map g us
not_there u id g [] none = refl
not_there u id g (w ∷ us) none =
    let parts = or_parts (w == u) (has_id us u) none in
    let apart : (u == w) ≡ false = grind (arith, nat_tests, parts.0) in
    λ i. (if apart i then id else g w) ∷ not_there u id g us parts.1 i

pub key_assigned : (domains : List (List ℕ)) (us key : List ℕ) → are_distinct us ≡ true → key_in domains us key ≡ true → map (assigned us key) us ≡ key
key_assigned domains [] [] distinct inside = refl
key_assigned domains [] (id ∷ key) distinct inside = absurd (false≢true inside)
key_assigned domains (u ∷ us) [] distinct inside = absurd (false≢true inside)
key_assigned domains (u ∷ us) (id ∷ key) distinct inside =
    let parts = and_parts (not (has_id us u)) (are_distinct us) distinct in
    let later = and_parts (has_id (ids_of_variable domains u) id) (key_in domains us key) inside in
    let own : (u == u) ≡ true = grind (arith, nat_tests) in
    let rest : map (assigned (u ∷ us) (id ∷ key)) us ≡ key =
    not_there u id (assigned us key) us (false_from_not (has_id us u) parts.0) ∙ key_assigned domains us key parts.1 later.1 in
    λ i. (if own i then id else assigned us key u) ∷ rest i

-- a key of an assignment's values has one of each variable's domain
pub key_in_at : (domains : List (List ℕ)) (us : List ℕ) (b : ℕ → ℕ) → key_in domains us (map b us) ≡ true → (v : ℕ) → has_id us v ≡ true → has_id (ids_of_variable domains v) (b v) ≡ true
key_in_at domains [] b inside v has = absurd (false≢true has)
key_in_at domains (u ∷ us) b inside v has =
    let parts = and_parts (has_id (ids_of_variable domains u) (b u)) (key_in domains us (map b us)) inside in
    elim (or_cases (u == v) (has_id us v) has) [
      | inl here ↦
          let same : u ≡ v = grind (arith, nat_tests, here) in
          sym (ap (λ (z : ℕ). has_id (ids_of_variable domains z) (b z)) same) ∙ parts.0
      | inr later ↦ key_in_at domains us b parts.1 v later
    ]

pub each_below : (count : ℕ) (us : List ℕ) → list_all (λ v. nat_lt v count) us ≡ true → (v : ℕ) → has_id us v ≡ true → v < count
each_below count [] below v has = absurd (false≢true has)
each_below count (u ∷ us) below v has =
    let parts = and_parts (nat_lt u count) (list_all (λ v. nat_lt v count) us) below in
    elim (or_cases (u == v) (has_id us v) has) [
      | inl here ↦ grind (arith, nat_tests, parts.0, here)
      | inr later ↦ each_below count us parts.1 v later
    ]

-- assignments that agree on variables give them the same key
pub same_key : (us : List ℕ) (b c : ℕ → ℕ) → ((v : ℕ) → has_id us v ≡ true → b v ≡ c v) → map b us ≡ map c us
same_key [] b c same = refl
same_key (u ∷ us) b c same =
    let own : (u == u) ≡ true = grind (arith, nat_tests) in
    let first : b u ≡ c u = same u (or_left (u == u) (has_id us u) own) in
    let later : map b us ≡ map c us = same_key us b c (λ v has. same v (or_right (u == v) (has_id us v) has)) in
    λ i. first i ∷ later i
