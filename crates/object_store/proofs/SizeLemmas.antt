-- How many objects a store can have: those of each class, and no others.
use Rattle.std.proofs.Common.{◌≡◌, ℕ, zero, suc, ◌+◌, ◌*◌, ◌<◌, ◌≤◌, ◌==◌, ◌^◌, false, cond, Some, List, [], ◌∷◌, length, refl, ap, ◌∙◌, inl, inr, arith}
use Rattle.std.specs.Prelude.{All}
use Rattle.std.specs.List.{position}
use Rattle.std.proofs.lemmas.Option.{slice_get_within}
use Rattle.std.proofs.lemmas.Bool.{cases_lt}
use Rattle.std.proofs.lemmas.Bool.Decides.{nat_tests}
use Rattle.motion.specs.declared.limits.TheConstants.{CAPACITY_LIMIT}
use Rattle.history.specs.Catalog.{ClassInfo}
use Rattle.object_store.specs.declared.schema.TheConstants.{CLASS_LIMIT}
use Rattle.object_store.specs.Contents.{StoredObject, Contents, ids_in, is_named}
use Rattle.object_store.specs.Sound.{IsClass, IsSound}
use Rattle.object_store.proofs.EntryLemmas.{all_at}
use Rattle.object_store.proofs.IdLemmas.{ids_from, ids-cons}
use Rattle.object_store.proofs.WriteLemmas.{exists_at, object_at_index}
use Rattle.exact.proofs.Naturals.{equal_if_same}

-- how many ids the first classes have
abbrev total : ℕ → ℕ → List StoredObject → ℕ
total zero start objects = 0
total (suc n) start objects = length (ids_from start objects n) + total n start objects

apart : (m n : ℕ) → m < n → (n == m) ≡ false
apart m n h = grind (arith, nat_tests)

passed : (start n : ℕ) (o : StoredObject) (os : List StoredObject) → n < o.class → length (ids_from start (o ∷ os) n) ≡ length (ids_from (start + 1) os n)
passed start n o os later =
    ap length (ids-cons start o os n ∙ ap (λ b. cond b (start ∷ ids_from (start + 1) os n) (ids_from (start + 1) os n)) (apart n o.class later))

taken : (start n : ℕ) (o : StoredObject) (os : List StoredObject) → o.class ≡ n → length (ids_from start (o ∷ os) n) ≡ suc (length (ids_from (start + 1) os n))
taken start n o os own =
    ap length (ids-cons start o os n ∙ ap (λ b. cond b (start ∷ ids_from (start + 1) os n) (ids_from (start + 1) os n)) (equal_if_same o.class n own))

not_its : (start n : ℕ) (o : StoredObject) (os : List StoredObject) → o.class < n → length (ids_from start (o ∷ os) n) ≡ length (ids_from (start + 1) os n)
not_its start n o os before =
    ap length (ids-cons start o os n ∙ ap (λ b. cond b (start ∷ ids_from (start + 1) os n) (ids_from (start + 1) os n)) (differs o.class n before))
  where
    differs : (m n : ℕ) → m < n → (m == n) ≡ false
    differs m n h = grind (arith, nat_tests)

total_below : (n start : ℕ) (o : StoredObject) (os : List StoredObject) → n ≤ o.class → total n start (o ∷ os) ≡ total n (start + 1) os
total_below zero start o os below = refl
total_below (suc n) start o os below = omega (arith, passed start n o os (omega arith), total_below n start o os (omega arith))

total_above : (n start : ℕ) (o : StoredObject) (os : List StoredObject) → o.class < n → total n start (o ∷ os) ≡ suc (total n (start + 1) os)
total_above zero start o os above = absurd (omega arith)
total_above (suc n) start o os above =
    elim (cases_lt o.class n) [
      | inl before ↦ omega (arith, not_its start n o os before, total_above n start o os before)
      | inr not_before ↦
          let own : o.class ≡ n = omega arith in
          omega (arith, taken start n o os own, total_below n start o os (omega (arith, own)))
    ]

total_none : (n start : ℕ) → total n start [] ≡ 0
total_none zero start = refl
total_none (suc n) start = omega (arith, total_none n start)

-- each object has its id in one class
total_is : (n start : ℕ) (objects : List StoredObject) → All (λ (o : StoredObject). o.class < n) objects → total n start objects ≡ length objects
total_is n start [] classed = total_none n start
total_is n start (o ∷ os) classed =
    total_above n start o os (classed 0 o (omega arith)) ∙ ap suc (total_is n (start + 1) os (λ k d l. classed (suc k) d (omega arith)))

total_within : (n start : ℕ) (objects : List StoredObject) → ((m : ℕ) → m < n → length (ids_from start objects m) ≤ CAPACITY_LIMIT) → total n start objects ≤ n * 100000
total_within zero start objects each = omega arith
total_within (suc n) start objects each =
    omega (arith, each n (omega arith), total_within n start objects (λ m before. each m (omega arith)))

-- at most 64 classes of at most 100,000 objects each, fewer than 32 bits count
pub few_objects : (s : Contents) → IsSound s → length s.objects < 2 ^ 32
few_objects s sound =
    omega (
      arith,
      total_is (length s.classes) 0 s.objects sound.objects.classed,
      sound.classes.few,
      total_within (length s.classes) 0 s.objects (λ m before.
          let k = exists_at s.classes m before in
          let limit = (all_at IsClass s.classes m k.0 k.1 sound.classes.each).within_limit in
          omega (arith, sound.objects.within m k.0 k.1, limit)),
    )

-- so the index of an object is a number of 32 bits
pub few_indexes : (s : Contents) (name : List ℕ) (index : ℕ) → IsSound s → position (is_named name) s.objects ≡ Some index → index < 2 ^ 32
few_indexes s name index sound first =
    let at = object_at_index name s.objects index first in
    omega (arith, few_objects s sound, slice_get_within s.objects index at.0 at.1)
