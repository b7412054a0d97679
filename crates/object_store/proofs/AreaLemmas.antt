-- For this crate and for the crates above: the objects of a class that can come into an area.
use Rattle.std.proofs.Common.{◌≡◌, ℕ, zero, suc, ◌+◌, ◌<◌, ◌≤◌, ◌==◌, Bool, true, false, cond, Option, None, Some, List, [], ◌∷◌, ◌++◌, get_or, refl, sym, ap, subst, ◌∙◌, arith, append_assoc, append-nil}
use Rattle.std.specs.Prelude.{◌||◌, slice_get, option_map, option_and_then}
use Rattle.std.specs.List.Sorted.{IsStrictlyIncreasing}
use Rattle.std.specs.Map.{values_of}
use Rattle.std.proofs.lemmas.Bool.{false≢true}
use Rattle.std.proofs.lemmas.Bool.Decides.{nat_tests}
use Rattle.std.proofs.lemmas.Option.{slice_get-map}
use Rattle.motion.specs.Timeline.{Epoch, state_at}
use Rattle.object_store.specs.declared.areas.Area.{Area}
use Rattle.object_store.specs.declared.objects.Object.{Object}
use Rattle.object_store.specs.Areas.{is_in_area, is_listed, is_told, AreNear}
use Rattle.object_store.specs.Contents.{StoredObject, Contents, ids_in}
use Rattle.object_store.specs.ObjectView.{stored, objects_of}
use Rattle.object_store.specs.Searching.{state_in, AreFrom, IsNowhere, IsSearched}
use Rattle.object_store.specs.Sound.{IsSound}
use Rattle.object_store.proofs.EntryLemmas.{value_there}
use Rattle.object_store.proofs.IdLemmas.{ids_from, ids-cons}
use Rattle.object_store.proofs.NumberLemmas.{cells_at_index}

-- ---- one object

pub nowhere_by_value : (es : List (List ℕ × Object)) (id : ℕ) (v : Object) (area : Area) (lo hi : ℕ) → slice_get (values_of es) id ≡ Some v →
    ((t : ℕ) → lo ≤ t → t ≤ hi → is_in_area area t (state_at v.timeline t) ≡ false) → IsNowhere (objects_of es) area lo hi id
nowhere_by_value es id v area lo hi there outside t from to =
    let at = value_there es id v there in
    ap (λ (r : Option StoredObject). is_in_area area t (option_and_then (λ (o : StoredObject). state_at o.epochs t) r)) at.there
    ∙ ap (λ (epochs : List Epoch). is_in_area area t (state_at epochs t)) at.epochs ∙ outside t from to

pub nowhere_without_object : (es : List (List ℕ × Object)) (id : ℕ) (area : Area) (lo hi : ℕ) → slice_get es id ≡ None → IsNowhere (objects_of es) area lo hi id
nowhere_without_object es id area lo hi none t from to =
    ap (λ (r : Option StoredObject). is_in_area area t (option_and_then (λ (o : StoredObject). state_at o.epochs t) r))
    (slice_get-map stored es id ∙ ap (option_map stored) none)

pub told_by_value : (es : List (List ℕ × Object)) (id : ℕ) (v : Object) (area : Option Area) (t : ℕ) → slice_get (values_of es) id ≡ Some v →
    is_told area t (state_at v.timeline t) ≡ true → is_told area t (state_in (objects_of es) id t) ≡ true
told_by_value es id v area t there is =
    let at = value_there es id v there in
    ap (λ (r : Option StoredObject). is_told area t (option_and_then (λ (o : StoredObject). state_at o.epochs t) r)) at.there
    ∙ ap (λ (epochs : List Epoch). is_told area t (state_at epochs t)) at.epochs ∙ is

pub told_without_object : (es : List (List ℕ × Object)) (id t : ℕ) → slice_get es id ≡ None → is_told None t (state_in (objects_of es) id t) ≡ true
told_without_object es id t none =
    ap (λ (r : Option StoredObject). is_told None t (option_and_then (λ (o : StoredObject). state_at o.epochs t) r))
    (slice_get-map stored es id ∙ ap (option_map stored) none)

-- ---- the walk

or_swap : (a b c : Bool) → (a || (b || c)) ≡ (b || (a || c))
or_swap true true c = refl
or_swap true false c = refl
or_swap false b c = refl

listed_middle : (found rest : List ℕ) (x id : ℕ) → is_listed (found ++ x ∷ rest) id ≡ ((x == id) || is_listed (found ++ rest) id)
listed_middle [] rest x id = refl
listed_middle (y ∷ found) rest x id =
    ap (λ b. (y == id) || b) (listed_middle found rest x id) ∙ or_swap (y == id) (x == id) (is_listed (found ++ rest) id)

pub from_lower : (low above : ℕ) (ids : List ℕ) → low ≤ above → AreFrom above ids → AreFrom low ids
from_lower low above [] order is = tt
from_lower low above (id ∷ ids) order is = (omega (arith, order, is.0), is.1)

from_without : (low : ℕ) (found rest : List ℕ) (x : ℕ) → AreFrom low (found ++ x ∷ rest) → AreFrom low (found ++ rest)
from_without low [] rest x is = from_lower low (x + 1) rest (omega (arith, is.0)) is.1
from_without low (y ∷ found) rest x is = (is.0, from_without (y + 1) found rest x is.1)

pub searched_first : (Lost : ℕ → Type 0) (ids : List ℕ) → AreFrom 0 ids → IsSearched Lost ids [] ids
searched_first Lost ids are = record {
  ascending = are;
  among = λ id has. has;
  lost = λ id has lacks. absurd (false≢true (sym lacks ∙ has));
}

pub searched_found : (Lost : ℕ → Type 0) (ids found rest : List ℕ) (x : ℕ) → IsSearched Lost ids found (x ∷ rest) → IsSearched Lost ids (found ++ x ∷ []) rest
searched_found Lost ids found rest x is =
    let same : found ++ x ∷ rest ≡ (found ++ x ∷ []) ++ rest = sym (append_assoc found (x ∷ []) rest) in
    record {
      ascending = subst (AreFrom 0) same is.ascending;
      among = subst (λ (all : List ℕ). (id : ℕ) → is_listed all id ≡ true → is_listed ids id ≡ true) same is.among;
      lost = subst (λ (all : List ℕ). (id : ℕ) → is_listed ids id ≡ true → is_listed all id ≡ false → Lost id) same is.lost;
    }

lost_either : (Lost : ℕ → Type 0) (x id : ℕ) (same listed : Bool) → (x == id) ≡ same → Lost x → listed ≡ false → ((same || listed) ≡ false → Lost id) → Lost id
lost_either Lost x id true listed is lost lacks go =
    let equal : x ≡ id = grind (arith, nat_tests, is) in subst Lost equal lost
lost_either Lost x id false listed is lost lacks go = go lacks

pub searched_lost : (Lost : ℕ → Type 0) (ids found rest : List ℕ) (x : ℕ) → IsSearched Lost ids found (x ∷ rest) → Lost x → IsSearched Lost ids found rest
searched_lost Lost ids found rest x is lost = record {
  ascending = from_without 0 found rest x is.ascending;
  among = λ id has. is.among id (listed_middle found rest x id ∙ grind (arith, nat_tests, has));
  lost = λ id has lacks.
      lost_either Lost x id (x == id) (is_listed (found ++ rest) id) refl lost lacks
      (λ neither. is.lost id has (listed_middle found rest x id ∙ neither));
}

-- ---- the ids of a class ascend

from_step : (start number : ℕ) (o : StoredObject) (later : List ℕ) (its : Bool) → AreFrom (start + 1) later → AreFrom start (cond its (start ∷ later) later)
from_step start number o later true are = (omega arith, are)
from_step start number o later false are = from_lower start (start + 1) later (omega arith) are

pub ids_rise : (start : ℕ) (objects : List StoredObject) (number : ℕ) → AreFrom start (ids_from start objects number)
ids_rise start [] number = tt
ids_rise start (o ∷ os) number =
    subst (AreFrom start) (sym (ids-cons start o os number))
    (from_step start number o (ids_from (start + 1) os number) (o.class == number) (ids_rise (start + 1) os number))

pub ids_ascend : (objects : List StoredObject) (number : ℕ) → AreFrom 0 (ids_in objects number)
ids_ascend objects number = ids_rise 0 objects number

pub increasing : (low : ℕ) (ids : List ℕ) → AreFrom low ids → IsStrictlyIncreasing ids
increasing low [] are k short = absurd (omega (arith, short))
increasing low (u ∷ []) are k short = absurd (omega (arith, short))
increasing low (u ∷ w ∷ us) are zero short = let above : u + 1 ≤ w = are.1.0 in omega (arith, above)
increasing low (u ∷ w ∷ us) are (suc k) short =
    subst (λ (m : ℕ). get_or (w ∷ us) k 0 < get_or (u ∷ w ∷ us) m 0) (let e : suc (k + 1) ≡ suc k + 1 = omega arith in e)
    (increasing (u + 1) (w ∷ us) are.1 k (omega (arith, short)))

-- ---- what is told

pub near_of_searched : (s : Contents) (class : ℕ) (area : Area) (lo hi : ℕ) (found : List ℕ) → IsSound s →
    IsSearched (IsNowhere s.objects area lo hi) (ids_in s.objects class) found [] → AreNear s class area lo hi found
near_of_searched s class area lo hi found sound is =
    let same : found ++ [] ≡ found = append-nil found in
    record {
      ascending = increasing 0 found (subst (AreFrom 0) same is.ascending);
      among = λ id has. is.among id (ap (λ all. is_listed all id) same ∙ has);
      missed = λ id has lacks t from to.
          ap (is_in_area area t) (cells_at_index s id t sound) ∙ is.lost id has (ap (λ all. is_listed all id) same ∙ lacks) t from to;
    }
