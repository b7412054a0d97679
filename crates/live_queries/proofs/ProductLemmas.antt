-- Bindings, as lists that have one member of each list.
use Rattle.std.proofs.Common.{◌≡◌, ℕ, zero, suc, ◌+◌, ◌<◌, ◌≤◌, Bool, true, false, List, [], ◌∷◌, length, map, refl, sym, ap, ◌∙◌, inl, inr, arith}
use Rattle.std.specs.Prelude.{⊤, ◌==◌, slice_index}
use Rattle.std.specs.List.{flat_map, list_any, range_with_len}
use Rattle.std.proofs.lemmas.Bool.{false≢true, or_cases, or_left, or_right}
use Rattle.std.proofs.lemmas.List.Folds.{list_any-append}
use Rattle.meaning.specs.Binding.{product}
use Rattle.live_queries.proofs.JoinedLemmas.{has_id}
use Rattle.exact.proofs.Items.{any_mapped}
use Rattle.exact.proofs.Naturals.{equals_itself, same_from_equal}

-- one member of each list
abbrev pub AreChosen : List (List ℕ) → List ℕ → Type 0
AreChosen [] [] = ⊤
AreChosen [] (x ∷ b) = ⊥
AreChosen (xs ∷ lists) [] = ⊥
AreChosen (xs ∷ lists) (x ∷ b) = (has_id xs x ≡ true) × AreChosen lists b

any_flat_at : {B : Type 0} (test : B → Bool) (f : ℕ → List B) (xs : List ℕ) (x : ℕ) → has_id xs x ≡ true → list_any test (f x) ≡ true →
    list_any test (flat_map f xs) ≡ true
any_flat_at test f [] x has h = absurd (false≢true has)
any_flat_at test f (y ∷ ys) x has h =
    list_any-append test (f y) (flat_map f ys)
    ∙ elim (or_cases (y == x) (has_id ys x) has) [
      | inl here ↦ or_left (list_any test (f y)) (list_any test (flat_map f ys)) (ap (λ z. list_any test (f z)) (same_from_equal y x here) ∙ h)
      | inr later ↦ or_right (list_any test (f y)) (list_any test (flat_map f ys)) (any_flat_at test f ys x later h)
    ]

record FlatFound {B : Type 0} (test : B → Bool) (f : ℕ → List B) (xs : List ℕ) : Type 0 where
  item : ℕ
  member : has_id xs item ≡ true
  passes : list_any test (f item) ≡ true

any_flat_found : {B : Type 0} (test : B → Bool) (f : ℕ → List B) (xs : List ℕ) → list_any test (flat_map f xs) ≡ true → FlatFound test f xs
any_flat_found test f [] h = absurd (false≢true h)
any_flat_found test f (y ∷ ys) h =
    elim (or_cases (list_any test (f y)) (list_any test (flat_map f ys)) (sym (list_any-append test (f y) (flat_map f ys)) ∙ h)) [
      | inl here ↦ record { item = y; member = or_left (y == y) (has_id ys y) (equals_itself y); passes = here }
      | inr later ↦
          let s = any_flat_found test f ys later in
          record { item = s.item; member = or_right (y == s.item) (has_id ys s.item) s.member; passes = s.passes }
    ]

pub any_product_at : (test : List ℕ → Bool) (lists : List (List ℕ)) (b : List ℕ) → AreChosen lists b → test b ≡ true → list_any test (product lists) ≡ true
any_product_at test [] [] chosen h = or_left (test []) false h
any_product_at test [] (x ∷ b) chosen h = absurd chosen
any_product_at test (xs ∷ lists) [] chosen h = absurd chosen
any_product_at test (xs ∷ lists) (x ∷ b) chosen h =
    any_flat_at test (λ y. map (λ later. y ∷ later) (product lists)) xs x chosen.0
    (any_mapped test (λ later. x ∷ later) (product lists) ∙ any_product_at (λ later. test (x ∷ later)) lists b chosen.1 h)

pub record ProductFound (test : List ℕ → Bool) (lists : List (List ℕ)) : Type 0 where
  pub binding : List ℕ
  pub chosen : AreChosen lists binding
  pub passes : test binding ≡ true

pub any_product_found : (test : List ℕ → Bool) (lists : List (List ℕ)) → list_any test (product lists) ≡ true → ProductFound test lists
any_product_found test [] h = elim (or_cases (test []) false h) [
  | inl here ↦ record { binding = []; chosen = tt; passes = here }
  | inr none ↦ absurd (false≢true none)
]
any_product_found test (xs ∷ lists) h =
    let s = any_flat_found test (λ y. map (λ later. y ∷ later) (product lists)) xs h in
    let rest = any_product_found (λ later. test (s.item ∷ later)) lists (sym (any_mapped test (λ later. s.item ∷ later) (product lists)) ∙ s.passes) in
    record { binding = s.item ∷ rest.binding; chosen = (s.member, rest.chosen); passes = rest.passes }

-- ---- by place

module _ (ids : ℕ → List ℕ) where
  pub chosen_at : (classes b : List ℕ) → AreChosen (map ids classes) b → (v : ℕ) → v < length classes → has_id (ids (slice_index classes v)) (slice_index b v) ≡ true
  chosen_at [] b chosen v below = absurd (omega (arith, below))
  chosen_at (class ∷ classes) [] chosen v below = absurd chosen
  chosen_at (class ∷ classes) (x ∷ b) chosen zero below = chosen.0
  chosen_at (class ∷ classes) (x ∷ b) chosen (suc v) below = chosen_at classes b chosen.1 v (omega (arith, below))

  pub chosen_length : (classes b : List ℕ) → AreChosen (map ids classes) b → length b ≡ length classes
  chosen_length [] [] chosen = refl
  chosen_length [] (x ∷ b) chosen = absurd chosen
  chosen_length (class ∷ classes) [] chosen = absurd chosen
  chosen_length (class ∷ classes) (x ∷ b) chosen = ap suc (chosen_length classes b chosen.1)

  pub chosen_from : (classes : List ℕ) (f : ℕ → ℕ) (a : ℕ) → ((i : ℕ) → i < length classes → has_id (ids (slice_index classes i)) (f (a + i)) ≡ true) →
      AreChosen (map ids classes) (map f (range_with_len a (length classes)))
  chosen_from [] f a each = tt
  chosen_from (class ∷ classes) f a each = (
    ap (λ n. has_id (ids class) (f n)) (let e : a ≡ a + 0 = omega arith in e) ∙ each 0 (omega arith),
    chosen_from classes f (a + 1)
        (λ i below. ap (λ n. has_id (ids (slice_index classes i)) (f n)) (let e : a + 1 + i ≡ a + suc i = omega arith in e) ∙ each (suc i) (omega (arith, below))),
  )

-- the members of a list made of a function
pub index_made : (f : ℕ → ℕ) (n a v : ℕ) → v < n → slice_index (map f (range_with_len a n)) v ≡ f (a + v)
index_made f zero a v below = absurd (omega (arith, below))
index_made f (suc n) a zero below = ap f (let e : a ≡ a + 0 = omega arith in e)
index_made f (suc n) a (suc v) below =
    index_made f n (a + 1) v (omega (arith, below)) ∙ ap f (let e : a + 1 + v ≡ a + suc v = omega arith in e)

pub index_past : (xs : List ℕ) (v : ℕ) → length xs ≤ v → slice_index xs v ≡ 0
index_past [] v past = refl
index_past (x ∷ xs) zero past = absurd (omega (arith, past))
index_past (x ∷ xs) (suc v) past = index_past xs v (omega (arith, past))

pub made_length : (f : ℕ → ℕ) (n a : ℕ) → length (map f (range_with_len a n)) ≡ n
made_length f zero a = refl
made_length f (suc n) a = ap suc (made_length f n (a + 1))
