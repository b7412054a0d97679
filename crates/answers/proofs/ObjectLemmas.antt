-- For this crate and for the crates above: the objects of a class by their numbers, and domains of them.
use Rattle.std.proofs.Common.{◌≡◌, ℕ, zero, suc, ◌+◌, ◌<◌, ◌≤◌, Bool, true, false, Some, List, [], ◌∷◌, length, map, get_or, refl, sym, ap, ◌∙◌, subst, inl, inr, arith, if◌then◌else◌}
use Rattle.std.specs.Prelude.{◌==◌, slice_get, slice_index}
use Rattle.std.specs.List.{enumerate_from, filter}
use Rattle.std.specs.List.Sorted.{IsStrictlyIncreasing}
use Rattle.std.proofs.lemmas.Bool.{false≢true, cases_lt, or_cases}
use Rattle.std.proofs.lemmas.Bool.Decides.{nat_tests}
use Rattle.std.proofs.lemmas.List.{get_or-map, length-map}
use Rattle.std.proofs.lemmas.Option.{slice_get_within}
use Rattle.history.specs.Catalog.{Catalog, ObjectInfo, ids_of as ids_of_class}
use Rattle.formula.specs.Tree.{ResolvedQuery}
use Rattle.object_store.specs.Contents.{Contents, catalog_of, object_info}
use Rattle.relation.specs.Key.{has_id, ids_of_variable}
use Rattle.answers.specs.Objects.{AreOfItsClasses}

-- ---- an object of a class, so many places after the first

pub record Placed (class first id : ℕ) (objects : List ObjectInfo) : Type 0 where
  pub place : ℕ
  pub object : ObjectInfo
  pub at : slice_get objects place ≡ Some object
  pub counted : id ≡ first + place
  pub of_class : object.class ≡ class

placed_later : (class first id : ℕ) (x : ObjectInfo) (objects : List ObjectInfo) → Placed class (first + 1) id objects → Placed class first id (x ∷ objects)
placed_later class first id x objects p =
    record { place = suc p.place; object = p.object; at = p.at; counted = omega (arith, p.counted); of_class = p.of_class }

abbrev members : ℕ → ℕ → List ObjectInfo → List (ℕ × ObjectInfo)
members class first objects = filter (λ (e : ℕ × ObjectInfo). e.1.class == class) (enumerate_from first objects)

abbrev numbers : ℕ → ℕ → List ObjectInfo → List ℕ
numbers class first objects = map (λ (e : ℕ × ObjectInfo). e.0) (members class first objects)

placed_first : (class first id : ℕ) (x : ObjectInfo) (objects : List ObjectInfo) (its : Bool) → (x.class == class) ≡ its →
    (has_id (numbers class (first + 1) objects) id ≡ true → Placed class (first + 1) id objects) →
    has_id (map (λ (e : ℕ × ObjectInfo). e.0) (if its then ((first, x) ∷ members class (first + 1) objects) else members class (first + 1) objects)) id ≡ true →
    Placed class first id (x ∷ objects)
placed_first class first id x objects false is later has = placed_later class first id x objects (later has)
placed_first class first id x objects true is later has =
    elim (or_cases (first == id) (has_id (numbers class (first + 1) objects) id) has) [
      | inl here ↦
          let same : first ≡ id = grind (arith, nat_tests, here) in
          let of : x.class ≡ class = grind (arith, nat_tests, is) in
          record { place = 0; object = x; at = refl; counted = omega (arith, same); of_class = of }
      | inr behind ↦ placed_later class first id x objects (later behind)
    ]

placed_from : (class first id : ℕ) (objects : List ObjectInfo) → has_id (numbers class first objects) id ≡ true → Placed class first id objects
placed_from class first id [] has = absurd (false≢true has)
placed_from class first id (x ∷ objects) has = placed_first class first id x objects (x.class == class) refl (placed_from class (first + 1) id objects) has

pub placed : (c : Catalog) (class id : ℕ) → has_id (ids_of_class c class) id ≡ true → Placed class 0 id c.objects
placed c class id has = placed_from class 0 id c.objects has

-- ---- the numbers of a class ascend

abbrev IsFrom : ℕ → List ℕ → Type 0
IsFrom n [] = Unit {0}
IsFrom n (u ∷ us) = (n ≤ u) × IsFrom (u + 1) us

from_later : (n : ℕ) (us : List ℕ) → IsFrom (n + 1) us → IsFrom n us
from_later n [] is = tt
from_later n (u ∷ us) is = (omega (arith, is.0), is.1)

numbers_from : (class first : ℕ) (objects : List ObjectInfo) → IsFrom first (numbers class first objects)
numbers_from class first [] = tt
numbers_from class first (x ∷ objects) =
    elim (x.class == class) as (λ its. IsFrom first (map (λ (e : ℕ × ObjectInfo). e.0) (if its then ((first, x) ∷ members class (first + 1) objects) else members class (first + 1) objects))) [
      | true ↦ (omega arith, numbers_from class (first + 1) objects)
      | false ↦ from_later first (numbers class (first + 1) objects) (numbers_from class (first + 1) objects)
    ]

rising : (n : ℕ) (us : List ℕ) → IsFrom n us → IsStrictlyIncreasing us
rising n [] is k short = absurd (omega (arith, short))
rising n (u ∷ []) is k short = absurd (omega (arith, short))
rising n (u ∷ w ∷ us) is zero short = let above : u + 1 ≤ w = is.1.0 in omega (arith, above)
rising n (u ∷ w ∷ us) is (suc k) short =
    subst (λ (m : ℕ). get_or (w ∷ us) k 0 < get_or (u ∷ w ∷ us) m 0) (let e : suc (k + 1) ≡ suc k + 1 = omega arith in e)
    (rising (u + 1) (w ∷ us) is.1 k (omega (arith, short)))

pub ids_ascend : (c : Catalog) (class : ℕ) → IsStrictlyIncreasing (ids_of_class c class)
ids_ascend c class = rising 0 (ids_of_class c class) (numbers_from class 0 c.objects)

-- ---- domains

-- the domain of a variable is that of its class
pub domain_at : (lists : ℕ → List ℕ) (classes : List ℕ) (v : ℕ) → v < length classes → ids_of_variable (map lists classes) v ≡ lists (slice_index classes v)
domain_at lists classes v within = get_or-map lists classes v 0 [] within

-- a variable that isn't there has none
pub no_domain : (domains : List (List ℕ)) (v : ℕ) → length domains ≤ v → ids_of_variable domains v ≡ []
no_domain [] v past = refl
no_domain (d ∷ domains) zero past = absurd (omega (arith, past))
no_domain (d ∷ domains) (suc v) past = no_domain domains v (omega (arith, past))

pub domains_are_of_classes : (c : Catalog) (q : ResolvedQuery) → AreOfItsClasses c q (map (ids_of_class c) q.classes)
domains_are_of_classes c q = record {
  many = length-map q.classes (ids_of_class c);
  each = λ v id within has. ap (λ ids. has_id ids id) (sym (domain_at (ids_of_class c) q.classes v within)) ∙ has;
}

pub object_is_stored : (s : Contents) (class id : ℕ) → has_id (ids_of_class (catalog_of s) class) id ≡ true → id < length s.objects
object_is_stored s class id has =
    let p = placed (catalog_of s) class id has in
    let within : p.place < length (map object_info s.objects) = slice_get_within (map object_info s.objects) p.place p.object p.at in
    let same : length (map object_info s.objects) ≡ length s.objects = length-map s.objects object_info in
    omega (arith, p.counted, within, same)

pub stored_objects : (s : Contents) (q : ResolvedQuery) (domains : List (List ℕ)) → AreOfItsClasses (catalog_of s) q domains →
    (v id : ℕ) → has_id (ids_of_variable domains v) id ≡ true → id < length s.objects
stored_objects s q domains are v id has =
    elim (cases_lt v (length q.classes)) [
      | inl within ↦ object_is_stored s (slice_index q.classes v) id (are.each v id within has)
      | inr past ↦
          let many = are.many in
          absurd (false≢true (sym (ap (λ ids. has_id ids id) (no_domain domains v (omega (arith, past, many)))) ∙ has))
    ]
