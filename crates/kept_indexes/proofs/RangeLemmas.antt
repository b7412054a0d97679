-- How many objects are stale and how many are candidates, by what the journal tells; and that a range leaves its index right.
use Rattle.std.proofs.Common.{◌≡◌, ◌⊎◌, ℕ, zero, suc, ◌+◌, ◌-◌, ◌<◌, ◌≤◌, ℤ, Bool, true, false, not, Option, None, Some, List, [], ◌∷◌, ◌++◌, length, map, refl, sym, ap, subst, ◌∙◌, inl, inr, arith, append_assoc, get_or, take, length-append}
use Rattle.std.specs.Prelude.{◌==◌, All, count_by, if◌then◌else◌, int_lt, nat_lt, option_map, slice_get, slice_index}
use Rattle.std.specs.List.{enumerate_from, filter, list_all, range_with_len}
use Rattle.std.proofs.lemmas.Bool.{and_parts, cases_eq, cases_lt, false≢true}
use Rattle.std.proofs.lemmas.Bool.Decides.{nat_tests}
use Rattle.std.proofs.lemmas.List.{get_or-take, length-take}
use Rattle.std.proofs.lemmas.List.Elements.{All-cons, All-head, All-nil, All-tail}
use Rattle.std.proofs.lemmas.List.Sums.{length-filter}
use Rattle.std.proofs.lemmas.Option.{none-some, same_Some, slice_get-map}
use Rattle.tick_set.specs.Ticks.{between}
use Rattle.history.specs.Catalog.{ObjectInfo, ids_of, name_of}
use Rattle.history.specs.History.{History}
use Rattle.object_store.specs.Contents.{Contents, StoredObject, catalog_of, history_of, object_info, object_name}
use Rattle.plane.specs.Boxes.{Grid, candidates, is_candidate}
use Rattle.plane.specs.Recorded.{last_written, recorded}
use Rattle.plane_index.specs.Index.{Index, IsFresh, IsIndexOf, is_fresh, stale_count}
use Rattle.plane_index.specs.Told.{recorded_by}
use Rattle.plane_index.proofs.NumberLemmas.{ids_ascend, ids_stored}
use Rattle.command_text.specs.Journal.{Accepted, clock}
use Rattle.line_meaning.specs.Journal.{world, writes}
use Rattle.line_meaning.specs.Reply.{row_line, row_text, rows_text}
use Rattle.database.specs.declared.database.Database.{Database}
use Rattle.database.specs.Keeping.{Keeps, clock_of}
use Rattle.database.specs.Rows.{has_objects}
use Rattle.database.proofs.RowLemmas.{answer_has_objects, are_below, stored_name}
use Rattle.plane.specs.Rows.{range_query, rows_in_range}
use Rattle.plane.proofs.QueryLemmas.{answers_query}
use Rattle.plane_index.specs.declared.rows.RangeRow.{RangeRow}
use Rattle.plane_index.specs.Rows.{told_range_row, told_range_rows}
use Rattle.meaning.specs.Answer.{Row, answer}
use Rattle.meaning.specs.Binding.{holds_full}
use Rattle.history.specs.World.{World}
use Rattle.line_meaning.specs.Looks.{is_stale, is_written_since, looks_in_range, stale_objects}
use Rattle.kept_indexes.specs.declared.indexes.Kept.{Kept}
use Rattle.kept_indexes.specs.Kept.{BeginAtLastWrites, IsFreshIn, IsOf, IsRight, entry_of}

-- ---- the objects of a class

abbrev numbers : ℕ → ℕ → List ObjectInfo → List ℕ
numbers class first objects = map (λ (e : ℕ × ObjectInfo). e.0) (filter (λ (e : ℕ × ObjectInfo). e.1.class == class) (enumerate_from first objects))

abbrev numbers_if : Bool → (class first : ℕ) → ObjectInfo → List ObjectInfo → List ℕ
numbers_if its class first x objects =
    map (λ (e : ℕ × ObjectInfo). e.0)
    (if its
    then ((first, x) ∷ filter (λ (e : ℕ × ObjectInfo). e.1.class == class) (enumerate_from (first + 1) objects))
    else filter (λ (e : ℕ × ObjectInfo). e.1.class == class) (enumerate_from (first + 1) objects))

abbrev HasPlace : List ℕ → ℕ → Type 0
HasPlace ids id = (place : ℕ) × (place < length ids) × (slice_index ids place ≡ id)

place_first : (its : Bool) (class first : ℕ) (x : ObjectInfo) (objects : List ObjectInfo) → its ≡ true →
    HasPlace (numbers_if its class first x objects) first
place_first true class first x objects is = (0, omega arith, refl)
place_first false class first x objects is = absurd (false≢true is)

place_later : (its : Bool) (class first id : ℕ) (x : ObjectInfo) (objects : List ObjectInfo) → HasPlace (numbers class (first + 1) objects) id →
    HasPlace (numbers_if its class first x objects) id
place_later true class first id x objects has = let below = has.1 in (suc has.0, omega (arith, below), has.2)
place_later false class first id x objects has = has

has_place : (class first j : ℕ) (x : ObjectInfo) (objects : List ObjectInfo) → slice_get objects j ≡ Some x → x.class ≡ class →
    HasPlace (numbers class first objects) (first + j)
has_place class first j x [] there is = absurd (none-some x there)
has_place class first zero x (y ∷ objects) there is =
    let same : y ≡ x = same_Some y x there in
    let its : y.class ≡ class = ap (λ (o : ObjectInfo). o.class) same ∙ is in
    subst (HasPlace (numbers class first (y ∷ objects))) (omega arith) (place_first (y.class == class) class first y objects (grind (arith, nat_tests, its)))
has_place class first (suc j) x (y ∷ objects) there is =
    subst (HasPlace (numbers class first (y ∷ objects))) (omega arith)
    (place_later (y.class == class) class first (first + 1 + j) y objects (has_place class (first + 1) j x objects there is))

class_at : (objects : List StoredObject) (class id : ℕ) → option_map (λ (o : StoredObject). o.class) (slice_get objects id) ≡ Some class →
    (x : ObjectInfo) × (slice_get (map object_info objects) id ≡ Some x) × (x.class ≡ class)
class_at [] class id its = absurd (none-some class its)
class_at (o ∷ objects) class zero its = (object_info o, refl, same_Some o.class class its)
class_at (o ∷ objects) class (suc id) its = class_at objects class id its

-- an object of a class has a place among those
pub placed : (s : Contents) (class id : ℕ) → IsOf s class id → HasPlace (ids_of (catalog_of s) class) id
placed s class id its =
    let found = class_at s.objects class id its in
    subst (HasPlace (ids_of (catalog_of s) class)) (omega arith) (has_place class 0 id found.0 (map object_info s.objects) found.1 found.2)

-- and the other way round
of_first : (P : ℕ → Type 0) (its : Bool) (class first : ℕ) (x : ObjectInfo) (objects : List ObjectInfo) → (its ≡ true → P first) →
    All P (numbers class (first + 1) objects) → All P (numbers_if its class first x objects)
of_first P true class first x objects here later = All-cons P first (numbers class (first + 1) objects) (here refl) later
of_first P false class first x objects here later = later

seam : {X : Type 0} (xs : List X) (x : X) (ys : List X) → slice_get (xs ++ x ∷ ys) (length xs) ≡ Some x
seam [] x ys = refl
seam (z ∷ xs) x ys = seam xs x ys

of_class : (class : ℕ) (before objects : List ObjectInfo) →
    All (λ id. option_map (λ (o : ObjectInfo). o.class) (slice_get (before ++ objects) id) ≡ Some class) (numbers class (length before) objects)
of_class class before [] = All-nil (λ id. option_map (λ (o : ObjectInfo). o.class) (slice_get (before ++ []) id) ≡ Some class)
of_class class before (x ∷ objects) =
    let P : ℕ → Type 0 = λ id. option_map (λ (o : ObjectInfo). o.class) (slice_get (before ++ x ∷ objects) id) ≡ Some class in
    let count : length (before ++ x ∷ []) ≡ length before + 1 = omega (arith, length-append before (x ∷ [])) in
    of_first P (x.class == class) class (length before) x objects
    (λ its. ap (option_map (λ (o : ObjectInfo). o.class)) (seam before x objects) ∙ ap Some (grind (arith, nat_tests, its)))
    (subst (λ n. All P (numbers class n objects)) count
    (subst (λ all. All (λ id. option_map (λ (o : ObjectInfo). o.class) (slice_get all id) ≡ Some class) (numbers class (length (before ++ x ∷ [])) objects))
    (append_assoc before (x ∷ []) objects)
    (of_class class (before ++ x ∷ []) objects)))

stored_class : (objects : List StoredObject) (id : ℕ) →
    option_map (λ (o : ObjectInfo). o.class) (slice_get (map object_info objects) id) ≡ option_map (λ (o : StoredObject). o.class) (slice_get objects id)
stored_class [] id = refl
stored_class (o ∷ objects) zero = refl
stored_class (o ∷ objects) (suc id) = stored_class objects id

of_its_class : (s : Contents) (class k : ℕ) → k < length (ids_of (catalog_of s) class) → IsOf s class (slice_index (ids_of (catalog_of s) class) k)
of_its_class s class k below =
    sym (stored_class s.objects (slice_index (ids_of (catalog_of s) class) k))
    ∙ of_class class [] (map object_info s.objects) k 0 below

-- ---- who is stale, by the journal

same_place : (s : Contents) (class j k : ℕ) → j < length (ids_of (catalog_of s) class) → k < length (ids_of (catalog_of s) class) →
    slice_index (ids_of (catalog_of s) class) j ≡ slice_index (ids_of (catalog_of s) class) k → j ≡ k
same_place s class j k before below same =
    elim (cases_eq j k) [
      | inl is ↦ is
      | inr apart ↦
          elim (cases_lt j k) [
            | inl less ↦ absurd (let h = ids_ascend (catalog_of s) class j k less below in omega (arith, h, same))
            | inr more ↦ absurd (let h = ids_ascend (catalog_of s) class k j (omega (arith, more, apart)) before in omega (arith, h, same))
          ]
    ]

fits_place : (n : ℕ) (ids all : List ℕ) → ids ≡ take n all → (place : ℕ) → place < length ids →
    (place < length all) × (slice_index ids place ≡ slice_index all place)
fits_place n ids all is place below =
    let count = ap length is ∙ length-take n all in
    (omega (arith, count, below), ap (λ xs. slice_index xs place) is ∙ get_or-take n all place 0 (omega (arith, count, below)))

fresh_if_known : (s : Contents) (index : Index) (k : ℕ) → IsIndexOf s index → k < length (ids_of (catalog_of s) index.grid.class) →
    IsFreshIn index (slice_index (ids_of (catalog_of s) index.grid.class) k) → is_fresh index k ≡ true
fresh_if_known s index k of below f =
    let fits = fits_place (length index.ids) index.ids (ids_of (catalog_of s) index.grid.class) of.seen f.place f.below in
    subst (λ j. is_fresh index j ≡ true) (same_place s index.grid.class f.place k fits.0 below (sym fits.1 ∙ f.is)) f.fresh

pub stale_is_told : (journal : List Accepted) (s : Contents) (k : Kept) → history_of s ≡ (world journal).history → IsRight journal s k → (place : ℕ) →
    place < length (ids_of (catalog_of s) k.index.grid.class) → not (is_fresh k.index place) ≡ true →
    is_stale journal (entry_of k) (slice_index (ids_of (catalog_of s) k.index.grid.class) place) ≡ true
stale_is_told journal s k told is place below stale =
    let id = slice_index (ids_of (catalog_of s) k.index.grid.class) place in
    elim (is.known id (of_its_class s k.index.grid.class place below)) [
      | inl f ↦ absurd (false≢true (sym (ap not (fresh_if_known s k.index place is.of_store below f)) ∙ stale))
      | inr since ↦ ap (λ (h : History). is_written_since journal k.seen (name_of h.catalog id)) (sym told) ∙ since
    ]

step : (t b : Bool) (a x : ℕ) (ts xs : List ℕ) → (t ≡ true → b ≡ true) → length ts ≤ length xs →
    length (if t then a ∷ ts else ts) ≤ length (if b then x ∷ xs else xs)
step true true a x ts xs passes few = omega (arith, few)
step true false a x ts xs passes few = absurd (false≢true (passes refl))
step false true a x ts xs passes few = omega (arith, few)
step false false a x ts xs passes few = few

few_places : (test p : ℕ → Bool) (ids : List ℕ) (a : ℕ) → ((k : ℕ) → k < length ids → test (a + k) ≡ true → p (slice_index ids k) ≡ true) →
    length (filter test (range_with_len a (length ids))) ≤ length (filter p ids)
few_places test p [] a passes = omega arith
few_places test p (id ∷ ids) a passes =
    step (test a) (p id) a id (filter test (range_with_len (a + 1) (length ids))) (filter p ids)
    (λ here. passes 0 (omega arith) (ap test (omega arith) ∙ here))
    (few_places test p ids (a + 1) (λ k below is. passes (suc k) (omega (arith, below)) (ap test (omega arith) ∙ is)))

pub stale_upto : (journal : List Accepted) (s : Contents) (k : Kept) → history_of s ≡ (world journal).history → IsRight journal s k →
    stale_count s k.index ≤ length (stale_objects journal (entry_of k))
unfolding between
stale_upto journal s k told is =
    let ids = ids_of (catalog_of s) k.index.grid.class in
    let test : ℕ → Bool = λ place. not (is_fresh k.index place) in
    let few = few_places test (is_stale journal (entry_of k)) ids 0
    (λ place below stale. stale_is_told journal s k told is place below (ap test (omega arith) ∙ stale)) in
    let count = length-filter test (range_with_len 0 (length ids)) in
    let none : length ids - 0 ≡ length ids = omega arith in
    let stale : stale_count s k.index ≡ count_by test (range_with_len 0 (length ids)) = ap (λ n. count_by test (range_with_len 0 n)) none in
    let same : length (filter (is_stale journal (entry_of k)) ids) ≡ length (stale_objects journal (entry_of k)) =
    ap (λ (h : History). length (filter (is_stale journal (entry_of k)) (ids_of h.catalog k.index.grid.class))) told in
    omega (arith, few, count, stale, same)

-- ---- the candidates, by the journal

filter_same : (p q : ℕ → Bool) (ids : List ℕ) → All (λ id. p id ≡ q id) ids → filter p ids ≡ filter q ids
filter_same p q [] same = refl
filter_same p q (id ∷ ids) same =
    let P : ℕ → Type 0 = λ i. p i ≡ q i in
    λ i. if All-head P id ids same i then id ∷ filter_same p q ids (All-tail P id ids same) i else filter_same p q ids (All-tail P id ids same) i

pub candidates_told : (journal : List Accepted) (s : Contents) (g : Grid) (lo hi : ℤ) (from e : ℕ) → history_of s ≡ (world journal).history → BeginAtLastWrites journal s →
    candidates (recorded_by s) g lo hi from e ≡ candidates (recorded (writes journal)) g lo hi from e
candidates_told journal s g lo hi from e told begun =
    let ws = writes journal in
    ap (λ ids. if int_lt hi lo then [] else ids)
    (filter_same (is_candidate (recorded_by s) g lo hi from e) (is_candidate (recorded ws) g lo hi from e) (ids_of (catalog_of s) g.class)
    (λ k d below.
    let id = get_or (ids_of (catalog_of s) g.class) k d in
    let tick = begun id (ids_stored s g.class k d below) ∙ ap (λ (h : History). last_written ws (name_of h.catalog id)) told in
    λ i. is_candidate (record { history = told i; begun = λ other. tick i }) g lo hi from e id)
    ∙ ap (λ (h : History). filter (is_candidate (recorded ws) g lo hi from e) (ids_of h.catalog g.class)) told)

pub looks_upto : (journal : List Accepted) (s : Contents) (k : Kept) (span : ℕ) (least greatest : ℤ) (reads reads' : ℕ) → history_of s ≡ (world journal).history →
    BeginAtLastWrites journal s → IsRight journal s k →
    reads' ≤ reads + (stale_count s k.index + length (candidates (recorded_by s) k.index.grid least greatest (clock journal) (clock journal + span))) →
    reads' ≤ reads + looks_in_range journal span least greatest (entry_of k)
looks_upto journal s k span least greatest reads reads' told begun is most =
    let stale = stale_upto journal s k told is in
    let same = ap length (candidates_told journal s k.index.grid least greatest (clock journal) (clock journal + span) told begun) in
    omega (arith, most, stale, same)

-- ---- what a range leaves

fresh_known : (s : Contents) (index : Index) → IsFresh s index → (id : ℕ) → IsOf s index.grid.class id → IsFreshIn index id
fresh_known s index fresh id its =
    let has = placed s index.grid.class id its in
    let count = ap length fresh.all in
    let below = has.1 in
    record {
      place = has.0;
      below = omega (arith, count, below);
      is = ap (λ ids. slice_index ids has.0) fresh.all ∙ has.2;
      fresh = fresh.fresh has.0 (omega (arith, count, below));
    }

-- no object is stale in it
pub renewed_right : (journal : List Accepted) (s : Contents) (k : Kept) (index : Index) (seen : ℕ) → IsRight journal s k → index.grid ≡ k.index.grid → seen ≤ length journal →
    IsIndexOf s index → IsFresh s index → IsRight journal s (record { index = index; seen = seen })
renewed_right journal s k index seen is grid upto of fresh = record {
  begun = (let from = ap (λ (g : Grid). g.from) grid in let begun = is.begun in omega (arith, from, begun));
  seen = upto;
  of_store = of;
  known = λ id its. inl (fresh_known s index fresh id its);
}

-- or it is as before
pub lacking_right : (journal : List Accepted) (s : Contents) (k : Kept) (index : Index) → IsRight journal s k → index.grid ≡ k.index.grid →
    IsIndexOf s index → (index ≡ k.index) ⊎ IsFresh s index → IsRight journal s (record { index = index; seen = k.seen })
lacking_right journal s k index is grid of (inl same) = subst (λ (i : Index). IsRight journal s (record { index = i; seen = k.seen })) (sym same) is
lacking_right journal s k index is grid of (inr fresh) = renewed_right journal s k index k.seen is grid is.seen of fresh

-- ---- as the calls answer

module _ (journal : List Accepted) (d : Database) (k : Kept) (s : Contents) (same : s ≡ d.store) (keeps : Keeps journal d) (is : IsRight journal d.store k) where
  pub looks_by : (span : ℕ) (least greatest : ℤ) (from e reads reads' : ℕ) → from ≡ clock_of d → e ≡ clock_of d + span → BeginAtLastWrites journal d.store →
      reads' ≤ reads + (stale_count s k.index + length (candidates (recorded_by s) k.index.grid least greatest from e)) →
      reads' ≤ reads + looks_in_range journal span least greatest (entry_of k)
  looks_by span least greatest from e reads reads' lo hi begun most =
      let bound : stale_count s k.index + length (candidates (recorded_by s) k.index.grid least greatest from e)
      ≡ stale_count d.store k.index + length (candidates (recorded_by d.store) k.index.grid least greatest (clock journal) (clock journal + span)) = λ i.
      stale_count (same i) k.index
      + length (candidates (recorded_by (same i)) k.index.grid least greatest ((lo ∙ keeps.clock_is) i) ((hi ∙ ap (λ n. n + span) keeps.clock_is) i)) in
      looks_upto journal d.store k span least greatest reads reads' (ap (λ (w : World). w.history) keeps.told_is) begun is
      (subst (λ n. reads' ≤ reads + n) bound most)

  pub lacks_by : (index : Index) → index.grid ≡ k.index.grid → IsIndexOf s index → (index ≡ k.index) ⊎ IsFresh s index →
      IsRight journal d.store (record { index = index; seen = k.seen })
  lacks_by index grid of err =
      lacking_right journal d.store k index is grid (subst (λ (t : Contents). IsIndexOf t index) same of)
      (subst (λ (t : Contents). (index ≡ k.index) ⊎ IsFresh t index) same err)

  pub answers_by : (index : Index) (seen : ℕ) → index.grid ≡ k.index.grid → seen ≤ length journal → IsIndexOf s index → IsFresh s index →
      IsRight journal d.store (record { index = index; seen = seen })
  answers_by index seen grid upto of fresh =
      renewed_right journal d.store k index seen is grid upto (subst (λ (t : Contents). IsIndexOf t index) same of)
      (subst (λ (t : Contents). IsFresh t index) same fresh)

  -- the rows are what answers the query
  pub rows_by : (rows : List Row) (class attribute : ℕ) (least greatest : ℤ) (from e span : ℕ) → from ≡ clock_of d → e ≡ clock_of d + span →
      rows ≡ rows_in_range (history_of s) class attribute least greatest from e →
      rows ≡ answer (world journal) (range_query class attribute least greatest) (clock journal) (clock journal + span)
  rows_by rows class attribute least greatest from e span lo hi are =
      are
      ∙ (λ i. rows_in_range (history_of (same i)) class attribute least greatest ((lo ∙ keeps.clock_is) i) ((hi ∙ ap (λ n. n + span) keeps.clock_is) i))
      ∙ ap (λ (w : World). rows_in_range w.history class attribute least greatest (clock journal) (clock journal + span)) keeps.told_is
      ∙ sym (answers_query (world journal) class attribute least greatest (clock journal) (clock journal + span))

  pub rows_stored : (rows : List Row) (class attribute : ℕ) (least greatest : ℤ) (span : ℕ) →
      rows ≡ answer (world journal) (range_query class attribute least greatest) (clock journal) (clock journal + span) →
      list_all (has_objects (length (catalog_of s).objects)) rows ≡ true
  rows_stored rows class attribute least greatest span are =
      let q = range_query class attribute least greatest in
      let history : history_of s ≡ (world journal).history = ap history_of same ∙ ap (λ (w : World). w.history) keeps.told_is in
      ap (λ (h : History). list_all (has_objects (length h.catalog.objects)) rows) history
      ∙ ap (list_all (has_objects (length (world journal).history.catalog.objects))) are
      ∙ answer_has_objects (world journal) q (holds_full (world journal) q (clock journal + span)) (clock journal) (clock journal + span)

  pub lines_by : (rows : List Row) (out out' : List ℕ) (tick class attribute : ℕ) (least greatest : ℤ) (span : ℕ) → tick ≡ clock_of d →
      rows ≡ answer (world journal) (range_query class attribute least greatest) (clock journal) (clock journal + span) →
      out' ≡ out ++ rows_text (catalog_of s) tick rows →
      out' ≡ out ++ rows_text (world journal).history.catalog (clock journal)
      (answer (world journal) (range_query class attribute least greatest) (clock journal) (clock journal + span))
  lines_by rows out out' tick class attribute least greatest span now are said =
      let history : history_of s ≡ (world journal).history = ap history_of same ∙ ap (λ (w : World). w.history) keeps.told_is in
      said ∙ (λ i. out ++ rows_text (history i).catalog ((now ∙ keeps.clock_is) i) (are i))

-- ---- the lines of rows, one after another

pub range_step : (s : Contents) (tick : ℕ) (name : List ℕ) (runs : List (ℕ × ℕ)) (row : RangeRow) (later rest : List RangeRow)
    (out next whole : List ℕ) → rest ≡ row ∷ later → name ≡ object_name s.objects row.id → runs ≡ (told_range_row row).runs →
    next ≡ out ++ row_line tick (name ∷ []) runs → out ++ rows_text (catalog_of s) tick (told_range_rows rest) ≡ whole →
    next ++ rows_text (catalog_of s) tick (told_range_rows later) ≡ whole
range_step s tick name runs row later rest out next whole split named same written so_far =
    let line : row_line tick (name ∷ []) runs ≡ row_text (catalog_of s) tick (told_range_row row) =
    λ i. row_line tick ((named ∙ stored_name s row.id) i ∷ []) (same i) in
    ap (λ o. o ++ rows_text (catalog_of s) tick (told_range_rows later)) (written ∙ ap (λ l. out ++ l) line)
    ∙ append_assoc out (row_text (catalog_of s) tick (told_range_row row)) (rows_text (catalog_of s) tick (told_range_rows later))
    ∙ ap (λ rows. out ++ rows_text (catalog_of s) tick (told_range_rows rows)) (sym split)
    ∙ so_far

pub range_rest : (count : ℕ) (row : RangeRow) (later rest : List RangeRow) → rest ≡ row ∷ later →
    list_all (has_objects count) (told_range_rows rest) ≡ true → (row.id < count) × (list_all (has_objects count) (told_range_rows later) ≡ true)
range_rest count row later rest split all =
    let both = and_parts (are_below count (row.id ∷ [])) (list_all (has_objects count) (told_range_rows later))
    (ap (λ rows. list_all (has_objects count) (told_range_rows rows)) (sym split) ∙ all) in
    (grind (arith, nat_tests, (and_parts (nat_lt row.id count) true both.0).0), both.1)
