-- The objects that are told for an area by their patches.
use Rattle.std.proofs.Common.{◌≡◌, inl, inr, ℕ, zero, suc, ◌+◌, ◌<◌, ◌≤◌, ◌==◌, ℤ, ◌≤ℤ◌, Bool, true, false, cond, ◌&&◌, Option, None, Some, List, [], ◌∷◌, ◌++◌, length, refl, sym, ap, subst, ◌∙◌, arith, append-nil}
use Rattle.std.specs.Prelude.{◌||◌, nat_le, nat_lt, find, int_le, slice_get, option_map, option_and_then, if◌then◌else◌}
use Rattle.std.specs.List.{filter}
use Rattle.std.specs.Option.{option_map_or}
use Rattle.std.proofs.lemmas.Bool.{false≢true}
use Rattle.std.proofs.lemmas.Bool.Decides.{nat_tests}
use Rattle.std.proofs.lemmas.Int.{ints}
use Rattle.std.proofs.lemmas.Option.{same_Some, none-some, slice_get_within}
use Rattle.motion.specs.declared.cell.Cell.{Cell}
use Rattle.motion.specs.declared.cell.Cell.TheVariants as cells
use Rattle.motion.specs.Dynamic.{value_at}
use Rattle.motion.specs.Timeline.{state_at}
use Rattle.places.specs.declared.horizons.Places.{Places}
use Rattle.places.specs.declared.patch.Extent.{Extent}
use Rattle.places.specs.declared.patch.Patch.{Patch}
use Rattle.places.specs.Boxes.{Horizon, near_below, numbers_near, patch_at}
use Rattle.places.specs.Patches.{greatest_unit, least_unit, meets, overlap, unit}
use Rattle.places.specs.Places.{horizon_for, horizons_of, near_in}
use Rattle.places.proofs.CallerLemmas.{share, unit_above, unit_below, unit_rises}
use Rattle.object_store.specs.declared.areas.Area.{Area}
use Rattle.object_store.specs.declared.areas.Sides.{Sides}
use Rattle.object_store.specs.Areas.{is_cell_between, is_in_area, is_listed}
use Rattle.object_store.specs.Contents.{StoredObject, ids_in}
use Rattle.object_store.specs.Placing.{extent_of, is_in_class, patch_of, ArePlaced, ArePlacedIn, IsAll, IsWithin, LiesInPatch}
use Rattle.object_store.specs.Searching.{AreFrom, IsNowhere, IsSearched}
use Rattle.std.proofs.lemmas.List.Folds.{list_any-append}
use Rattle.std.proofs.lemmas.Map.Views.{any-filter_same}
use Rattle.object_store.proofs.AreaLemmas.{from_lower, ids_rise}
use Rattle.object_store.proofs.IdLemmas.{ids_from, ids-cons}
use Rattle.exact.proofs.Truths.{both_true, or_second}
use Rattle.exact.proofs.Naturals.{same_or_other}

-- ---- what is in an area has a unit of its patch

least_below : (side : Option ℤ) (n : ℤ) → option_map_or (λ least. int_le least n) side true ≡ true → option_map_or unit side least_unit ≤ℤ unit n
least_below None n h = unit_above n
least_below (Some least) n h = unit_rises least n (grind (arith, ints, h))

greatest_above : (side : Option ℤ) (n : ℤ) → option_map_or (λ greatest. int_le n greatest) side true ≡ true → unit n ≤ℤ option_map_or unit side greatest_unit
greatest_above None n h = unit_below n
greatest_above (Some greatest) n h = unit_rises n greatest (grind (arith, ints, h))

least_bounded : (side : Option ℤ) → option_map_or unit side least_unit ≤ℤ greatest_unit
least_bounded None = omega (arith, ints)
least_bounded (Some n) = unit_below n

greatest_bounded : (side : Option ℤ) → least_unit ≤ℤ option_map_or unit side greatest_unit
greatest_bounded None = omega (arith, ints)
greatest_bounded (Some n) = unit_above n

and_true : (a b : Bool) → a ≡ true → b ≡ true → (a && b) ≡ true
and_true a b p q = cc

overlap_all : (e b : Extent) → IsAll e → b.least ≤ℤ greatest_unit → least_unit ≤ℤ b.greatest → overlap e b ≡ true
overlap_all e b all low high =
    let is_least = all.0 in let is_greatest = all.1 in
    and_true (int_le e.least b.greatest) (int_le b.least e.greatest) (grind (arith, ints, is_least, high)) (grind (arith, ints, is_greatest, low))

all_overlaps : (e : Extent) (sides : Sides) → IsAll e → overlap e (extent_of sides) ≡ true
all_overlaps e sides all = overlap_all e (extent_of sides) all (least_bounded sides.least) (greatest_bounded sides.greatest)

within_overlaps : (e : Extent) (sides : Sides) (t : ℕ) (cell : Option Cell) → IsWithin e t cell → is_cell_between sides t cell ≡ true → overlap e (extent_of sides) ≡ true
within_overlaps e sides t (Some (cells.Dyn v)) within between =
    let parts = both_true (option_map_or (λ least. int_le least (value_at v t)) sides.least true) (option_map_or (λ greatest. int_le (value_at v t) greatest) sides.greatest true) between in
    share e (extent_of sides) (unit (value_at v t)) within.0 within.1 (least_below sides.least (value_at v t) parts.0) (greatest_above sides.greatest (value_at v t) parts.1)
within_overlaps e sides t (Some (cells.Num n)) within between = all_overlaps e sides within
within_overlaps e sides t (Some (cells.Text s)) within between = all_overlaps e sides within
within_overlaps e sides t None within between = all_overlaps e sides within

in_area_meets : (patch : Patch) (area : Area) (t : ℕ) (state : Option (List Cell)) → LiesInPatch patch t state → is_in_area area t state ≡ true → meets patch (patch_of area) ≡ true
in_area_meets patch area t None lies inside = absurd (false≢true inside)
in_area_meets patch area t (Some there) lies inside =
    let parts = both_true (is_cell_between area.x t (slice_get there 0)) (is_cell_between area.y t (slice_get there 1)) inside in
    and_true (overlap patch.x (extent_of area.x)) (overlap patch.y (extent_of area.y))
    (within_overlaps patch.x area.x t (slice_get there 0) lies.0 parts.0) (within_overlaps patch.y area.y t (slice_get there 1) lies.1 parts.1)

not_true : (a b : Bool) → (a ≡ true → b ≡ true) → b ≡ false → a ≡ false
not_true true b h is = absurd (false≢true (sym is ∙ h refl))
not_true false b h is = refl

-- ---- the numbers that are near

abbrev AreBelow : ℕ → List ℕ → Type 0
AreBelow n [] = Unit {0}
AreBelow n (x ∷ xs) = (x < n) × AreBelow n xs

below_more : (n : ℕ) (xs : List ℕ) → AreBelow n xs → AreBelow (suc n) xs
below_more n [] are = tt
below_more n (x ∷ xs) are = (omega (arith, are.0), below_more n xs are.1)

below_push : (n : ℕ) (xs : List ℕ) → AreBelow n xs → AreBelow (suc n) (xs ++ n ∷ [])
below_push n [] are = (omega arith, tt)
below_push n (x ∷ xs) are = (omega (arith, are.0), below_push n xs are.1)

from_push : (low n : ℕ) (xs : List ℕ) → low ≤ n → AreBelow n xs → AreFrom low xs → AreFrom low (xs ++ n ∷ [])
from_push low n [] order below are = (order, tt)
from_push low n (x ∷ xs) order below are = (are.0, from_push (x + 1) n xs (omega (arith, below.0)) below.1 are.1)

record IsRisingBelow (n : ℕ) (xs : List ℕ) : Type 0 where
  from : AreFrom 0 xs
  below : AreBelow n xs

rises_step : (b : Bool) (n : ℕ) (xs : List ℕ) → IsRisingBelow n xs → IsRisingBelow (suc n) (if b then (xs ++ n ∷ []) else xs)
rises_step true n xs are = record { from = from_push 0 n xs (omega arith) are.below are.from; below = below_push n xs are.below }
rises_step false n xs are = record { from = are.from; below = below_more n xs are.below }

near_rises : (n : ℕ) (patches : List Patch) (area : Patch) → IsRisingBelow n (near_below n patches area)
near_rises zero patches area = record { from = tt; below = tt }
near_rises (suc n) patches area = rises_step (meets (patch_at patches n) area) n (near_below n patches area) (near_rises n patches area)

or_first : (a b : Bool) → a ≡ true → (a || b) ≡ true
or_first a b h = cc

same_listed : (n id : ℕ) → id ≡ n → is_listed (n ∷ []) id ≡ true
same_listed n id same = or_first (n == id) false (grind (arith, nat_tests, same))

listed_last : (xs : List ℕ) (n id : ℕ) → id ≡ n → is_listed (xs ++ n ∷ []) id ≡ true
listed_last xs n id same = list_any-append (λ i. i == id) xs (n ∷ []) ∙ or_second (is_listed xs id) (is_listed (n ∷ []) id) (same_listed n id same)

listed_still : (b : Bool) (xs : List ℕ) (n id : ℕ) → is_listed xs id ≡ true → is_listed (if b then (xs ++ n ∷ []) else xs) id ≡ true
listed_still true xs n id h = list_any-append (λ i. i == id) xs (n ∷ []) ∙ or_first (is_listed xs id) (is_listed (n ∷ []) id) h
listed_still false xs n id h = h

near_lists : (n : ℕ) (patches : List Patch) (area : Patch) (id : ℕ) → id < n → meets (patch_at patches id) area ≡ true → is_listed (near_below n patches area) id ≡ true
near_lists zero patches area id below h = absurd (omega (arith, below))
near_lists (suc n) patches area id below h = elim (same_or_other id n) [
  | inl same ↦
      ap (λ b. is_listed (if b then (near_below n patches area ++ n ∷ []) else near_below n patches area) id) (subst (λ k. meets (patch_at patches k) area ≡ true) same h)
      ∙ listed_last (near_below n patches area) n id same
  | inr differs ↦
      listed_still (meets (patch_at patches n) area) (near_below n patches area) n id (near_lists n patches area id (omega (arith, below, differs)) h)
]

-- ---- those of a class

filter_step : (b : Bool) (low x : ℕ) (ys : List ℕ) → low ≤ x → AreFrom (x + 1) ys → AreFrom low (cond b (x ∷ ys) ys)
filter_step true low x ys first are = (first, are)
filter_step false low x ys first are = from_lower low (x + 1) ys (omega (arith, first)) are

from_filter : (p : ℕ → Bool) (low : ℕ) (xs : List ℕ) → AreFrom low xs → AreFrom low (filter p xs)
from_filter p low [] are = tt
from_filter p low (x ∷ xs) are = filter_step (p x) low x (filter p xs) are.0 (from_filter p (x + 1) xs are.1)

listed_filtered : (p : ℕ → Bool) (xs : List ℕ) (id : ℕ) → is_listed (filter p xs) id ≡ (p id && is_listed xs id)
listed_filtered p xs id = any-filter_same (λ i. i == id) p (p id) (λ i same. ap p (let is : i ≡ id = grind (arith, nat_tests, same) in is)) xs

unlisted_below : (low id : ℕ) (xs : List ℕ) → AreFrom low xs → id < low → is_listed xs id ≡ false
unlisted_below low id [] are below = refl
unlisted_below low id (x ∷ xs) are below =
    let other : (x == id) ≡ false = grind (arith, nat_tests, are.0, below) in
    ap (λ b. b || is_listed xs id) other ∙ unlisted_below (x + 1) id xs are.1 (omega (arith, are.0, below))

first_step : (b : Bool) (start id : ℕ) (rest : List ℕ) → id ≡ start → is_listed rest id ≡ false → is_listed (cond b (start ∷ rest) rest) id ≡ b
first_step true start id rest same none = or_first (start == id) (is_listed rest id) (grind (arith, nat_tests, same))
first_step false start id rest same none = none

later_step : (b : Bool) (start id : ℕ) (rest : List ℕ) → start < id → is_listed (cond b (start ∷ rest) rest) id ≡ is_listed rest id
later_step true start id rest past = ap (λ b. b || is_listed rest id) (let other : (start == id) ≡ false = grind (arith, nat_tests, past) in other)
later_step false start id rest past = refl

listed_from : (start k id : ℕ) (objects : List StoredObject) (class : ℕ) → id ≡ start + k → is_listed (ids_from start objects class) id ≡ is_in_class objects class k
listed_from start k id [] class is = refl
listed_from start zero id (o ∷ os) class is =
    ap (λ ids. is_listed ids id) (ids-cons start o os class)
    ∙ first_step (o.class == class) start id (ids_from (start + 1) os class) (omega (arith, is))
    (unlisted_below (start + 1) id (ids_from (start + 1) os class) (ids_rise (start + 1) os class) (omega (arith, is)))
listed_from start (suc k) id (o ∷ os) class is =
    ap (λ ids. is_listed ids id) (ids-cons start o os class)
    ∙ later_step (o.class == class) start id (ids_from (start + 1) os class) (omega (arith, is))
    ∙ listed_from (start + 1) k id os class (omega (arith, is))

pub listed_in_class : (objects : List StoredObject) (class id : ℕ) → is_listed (ids_in objects class) id ≡ is_in_class objects class id
listed_in_class objects class id = listed_from 0 id id objects class (omega arith)

-- ---- what is told

lost_at : (from : ℕ) (h : Horizon) (objects : List StoredObject) (class : ℕ) (area : Area) (lo hi id : ℕ) (r : Option StoredObject) → ArePlacedIn from h objects → from ≤ lo → hi ≤ h.upto
    → slice_get objects id ≡ r → option_map_or (λ (o : StoredObject). o.class == class) r false ≡ true → is_listed (numbers_near h.patches (patch_of area)) id ≡ false
    → (t : ℕ) → lo ≤ t → t ≤ hi → is_in_area area t (option_and_then (λ (o : StoredObject). state_at o.epochs t) r) ≡ false
lost_at from h objects class area lo hi id None are early late is its lacks t begin end = absurd (false≢true its)
lost_at from h objects class area lo hi id (Some o) are early late is its lacks t begin end =
    let below : id < length h.patches = omega (arith, slice_get_within objects id o is, are.long) in
    let apart : meets (patch_at h.patches id) (patch_of area) ≡ false =
    not_true (meets (patch_at h.patches id) (patch_of area)) (is_listed (numbers_near h.patches (patch_of area)) id)
    (near_lists (length h.patches) h.patches (patch_of area) id below) lacks
    in
    not_true (is_in_area area t (state_at o.epochs t)) (meets (patch_at h.patches id) (patch_of area))
    (in_area_meets (patch_at h.patches id) area t (state_at o.epochs t) (are.each id o is t (omega (arith, early, begin)) (omega (arith, late, end)))) apart

found_by : (from : ℕ) (h : Horizon) (objects : List StoredObject) (class : ℕ) (area : Area) (lo hi : ℕ) → ArePlacedIn from h objects → from ≤ lo → hi ≤ h.upto
    → IsSearched (IsNowhere objects area lo hi) (ids_in objects class) (filter (is_in_class objects class) (numbers_near h.patches (patch_of area))) []
found_by from h objects class area lo hi are early late =
    let all : List ℕ = numbers_near h.patches (patch_of area) in
    let found : List ℕ = filter (is_in_class objects class) all in
    record {
      ascending = subst (AreFrom 0) (sym (append-nil found)) (from_filter (is_in_class objects class) 0 all (near_rises (length h.patches) h.patches (patch_of area)).from);
      among = λ id has.
          let listed : is_listed found id ≡ true = ap (λ ids. is_listed ids id) (sym (append-nil found)) ∙ has in
          listed_in_class objects class id
          ∙ (both_true (is_in_class objects class id) (is_listed all id) (sym (listed_filtered (is_in_class objects class) all id) ∙ listed)).0;
      lost = λ id has lacks.
          let its : is_in_class objects class id ≡ true = sym (listed_in_class objects class id) ∙ has in
          let unlisted : is_listed found id ≡ false = ap (λ ids. is_listed ids id) (sym (append-nil found)) ∙ lacks in
          let none : is_listed all id ≡ false =
          ap (λ b. b && is_listed all id) (sym its) ∙ sym (listed_filtered (is_in_class objects class) all id) ∙ unlisted
          in
          lost_at from h objects class area lo hi id (slice_get objects id) are early late refl its none;
    }

abbrev AreAllPlaced : ℕ → List Horizon → List StoredObject → Type 0
AreAllPlaced from [] objects = Unit {0}
AreAllPlaced from (h ∷ hs) objects = ArePlacedIn from h objects × AreAllPlaced from hs objects

first_step_told : (b : Bool) (from hi : ℕ) (x h : Horizon) (later : Option Horizon) (objects : List StoredObject) → nat_le hi x.upto ≡ b → ArePlacedIn from x objects
    → (later ≡ Some h → ArePlacedIn from h objects × (hi ≤ h.upto)) → cond b (Some x) later ≡ Some h → ArePlacedIn from h objects × (hi ≤ h.upto)
first_step_told true from hi x h later objects reaches are go is =
    let within : hi ≤ x.upto = grind (arith, nat_tests, reaches) in
    subst (λ (h : Horizon). ArePlacedIn from h objects × (hi ≤ h.upto)) (same_Some x h is) (are, within)
first_step_told false from hi x h later objects reaches are go is = go is

first_told : (from hi : ℕ) (hs : List Horizon) (objects : List StoredObject) (h : Horizon) → AreAllPlaced from hs objects → find (λ (h : Horizon). nat_le hi h.upto) hs ≡ Some h
    → ArePlacedIn from h objects × (hi ≤ h.upto)
first_told from hi [] objects h are is = absurd (none-some h is)
first_told from hi (x ∷ hs) objects h are is =
    first_step_told (nat_le hi x.upto) from hi x h (find (λ (h : Horizon). nat_le hi h.upto) hs) objects refl are.0 (first_told from hi hs objects h are.1) is

told_by : (p : Places) (objects : List StoredObject) (class : ℕ) (area : Area) (lo hi : ℕ) (numbers : List ℕ) (r : Option Horizon) → ArePlaced p objects → p.from ≤ lo → horizon_for p hi ≡ r
    → option_map (λ (h : Horizon). numbers_near h.patches (patch_of area)) r ≡ Some numbers
    → IsSearched (IsNowhere objects area lo hi) (ids_in objects class) (filter (is_in_class objects class) numbers) []
told_by p objects class area lo hi numbers None are early is told = absurd (none-some numbers told)
told_by p objects class area lo hi numbers (Some h) are early is told =
    let at = first_told p.from hi (horizons_of p) objects h (are.short, (are.middle, (are.long, (are.longest, tt)))) is in
    subst (λ (numbers : List ℕ). IsSearched (IsNowhere objects area lo hi) (ids_in objects class) (filter (is_in_class objects class) numbers) [])
    (same_Some (numbers_near h.patches (patch_of area)) numbers told) (found_by p.from h objects class area lo hi at.0 early at.1)

told_from : (early : Bool) (p : Places) (objects : List StoredObject) (class : ℕ) (area : Area) (lo hi : ℕ) (numbers : List ℕ) → ArePlaced p objects → nat_lt lo p.from ≡ early
    → (if early then None else option_map (λ (h : Horizon). numbers_near h.patches (patch_of area)) (horizon_for p hi)) ≡ Some numbers
    → IsSearched (IsNowhere objects area lo hi) (ids_in objects class) (filter (is_in_class objects class) numbers) []
told_from true p objects class area lo hi numbers are early told = absurd (none-some numbers told)
told_from false p objects class area lo hi numbers are early told =
    told_by p objects class area lo hi numbers (horizon_for p hi) are (grind (arith, nat_tests, early)) refl told

pub told : (p : Places) (objects : List StoredObject) (class : ℕ) (area : Area) (lo hi : ℕ) (numbers : List ℕ) → ArePlaced p objects → near_in p lo hi (patch_of area) ≡ Some numbers
    → IsSearched (IsNowhere objects area lo hi) (ids_in objects class) (filter (is_in_class objects class) numbers) []
told p objects class area lo hi numbers are is = told_from (nat_lt lo p.from) p objects class area lo hi numbers are refl is
