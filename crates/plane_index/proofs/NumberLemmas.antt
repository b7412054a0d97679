-- For this crate and for the crates above: the numbers of a class: they are those of objects, and ascend.
use Rattle.std.proofs.Common.{◌≡◌, ℕ, zero, suc, ◌+◌, ◌<◌, ◌≤◌, ℤ, Bool, true, false, List, [], ◌∷◌, length, map, sym, subst, arith}
use Rattle.std.specs.Prelude.{◌==◌, All, if◌then◌else◌, int_lt}
use Rattle.std.specs.List.{enumerate_from, filter}
use Rattle.std.proofs.lemmas.List.{length-map}
use Rattle.std.proofs.lemmas.List.Elements.{All-cons, All-filter, All-nil}
use Rattle.history.specs.Catalog.{Catalog, ObjectInfo, ids_of}
use Rattle.object_store.specs.Contents.{Contents, catalog_of, object_info}
use Rattle.plane.specs.Boxes.{Grid, candidates, is_candidate}
use Rattle.plane_index.specs.Index.{AreAscendingIds}
use Rattle.plane_index.specs.Told.{recorded_by}

abbrev numbers : ℕ → ℕ → List ObjectInfo → List ℕ
numbers class first objects = map (λ (e : ℕ × ObjectInfo). e.0) (filter (λ (e : ℕ × ObjectInfo). e.1.class == class) (enumerate_from first objects))

abbrev numbers_from : Bool → (class first : ℕ) → ObjectInfo → List ObjectInfo → List ℕ
numbers_from its class first x objects =
    map (λ (e : ℕ × ObjectInfo). e.0)
    (if its
    then ((first, x) ∷ filter (λ (e : ℕ × ObjectInfo). e.1.class == class) (enumerate_from (first + 1) objects))
    else filter (λ (e : ℕ × ObjectInfo). e.1.class == class) (enumerate_from (first + 1) objects))

-- ---- a test that all of them pass

all_first : (P : ℕ → Type 0) (its : Bool) (class first : ℕ) (x : ObjectInfo) (objects : List ObjectInfo) → P first → All P (numbers class (first + 1) objects) →
    All P (numbers_from its class first x objects)
all_first P true class first x objects here later = All-cons P first (numbers class (first + 1) objects) here later
all_first P false class first x objects here later = later

numbers_below : (class first n : ℕ) (objects : List ObjectInfo) → first + length objects ≤ n → All (λ id. id < n) (numbers class first objects)
numbers_below class first n [] few = All-nil (λ id. id < n)
numbers_below class first n (x ∷ objects) few =
    all_first (λ id. id < n) (x.class == class) class first x objects (omega (arith, few)) (numbers_below class (first + 1) n objects (omega (arith, few)))

numbers_above : (class first low : ℕ) (objects : List ObjectInfo) → low ≤ first → All (λ id. low ≤ id) (numbers class first objects)
numbers_above class first low [] least = All-nil (λ id. low ≤ id)
numbers_above class first low (x ∷ objects) least =
    all_first (λ id. low ≤ id) (x.class == class) class first x objects least (numbers_above class (first + 1) low objects (omega (arith, least)))

pub ids_stored : (s : Contents) (class : ℕ) → All (λ id. id < length s.objects) (ids_of (catalog_of s) class)
ids_stored s class =
    numbers_below class 0 (length s.objects) (map object_info s.objects) (let same = length-map s.objects object_info in omega (arith, same))

-- ---- they ascend

ascend_first : (its : Bool) (class first : ℕ) (x : ObjectInfo) (objects : List ObjectInfo) → AreAscendingIds (numbers class (first + 1) objects) →
    All (λ id. first + 1 ≤ id) (numbers class (first + 1) objects) → AreAscendingIds (numbers_from its class first x objects)
ascend_first false class first x objects later above j k order below = later j k order below
ascend_first true class first x objects later above zero zero order below = absurd (omega (arith, order))
ascend_first true class first x objects later above (suc j) zero order below = absurd (omega (arith, order))
ascend_first true class first x objects later above zero (suc k) order below = let h = above k 0 (omega (arith, below)) in omega (arith, h)
ascend_first true class first x objects later above (suc j) (suc k) order below = later j k (omega (arith, order)) (omega (arith, below))

ascend : (class first : ℕ) (objects : List ObjectInfo) → AreAscendingIds (numbers class first objects)
ascend class first [] = λ j k order below. absurd (omega (arith, below))
ascend class first (x ∷ objects) =
    ascend_first (x.class == class) class first x objects (ascend class (first + 1) objects) (numbers_above class (first + 1) (first + 1) objects (omega arith))

pub ids_ascend : (c : Catalog) (class : ℕ) → AreAscendingIds (ids_of c class)
ids_ascend c class = ascend class 0 c.objects

-- ---- those of candidates

none_or : (none : Bool) (P : ℕ → Type 0) (ids : List ℕ) → All P ids → All P (if none then [] else ids)
none_or true P ids all = All-nil P
none_or false P ids all = all

pub candidates_stored : (s : Contents) (grid : Grid) (lo hi : ℤ) (from e : ℕ) (found : List ℕ) → found ≡ candidates (recorded_by s) grid lo hi from e →
    All (λ id. id < length s.objects) found
candidates_stored s grid lo hi from e found is =
    subst (All (λ id. id < length s.objects)) (sym is)
    (none_or (int_lt hi lo) (λ id. id < length s.objects) (filter (is_candidate (recorded_by s) grid lo hi from e) (ids_of (catalog_of s) grid.class))
    (All-filter (is_candidate (recorded_by s) grid lo hi from e) (λ id. id < length s.objects) (ids_of (catalog_of s) grid.class)
    (ids_stored s grid.class)))
