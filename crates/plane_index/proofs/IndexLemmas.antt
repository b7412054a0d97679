-- Indexes by their fields.
use Rattle.std.proofs.Common.{◌≡◌, ℕ, zero, suc, ◌+◌, ◌-◌, ◌<◌, ◌≤◌, ℤ, unsigned_abs, Bool, true, false, ◌&&◌, Option, None, Some, is_some, List, [], ◌∷◌, length, map, refl, sym, ap, ◌∙◌, inl, inr, arith}
use Rattle.std.specs.Prelude.{int_lt, slice_index, slice_index_or, unwrap_or, if◌then◌else◌}
use Rattle.std.specs.List.{list_any, filter, range_with_len}
use Rattle.std.proofs.lemmas.Bool.{cases_lt, false≢true}
use Rattle.std.proofs.lemmas.List.{get_or_past}
use Rattle.std.proofs.lemmas.List.FromFn.{length-map-range_with_len}
use Rattle.tick_set.specs.Ticks.{between}
use Rattle.fixed_point.specs.declared.number.TheConstants.{FIX_LIMIT}
use Rattle.history.specs.Catalog.{ids_of}
use Rattle.object_store.specs.Contents.{Contents, catalog_of}
use Rattle.plane.specs.Boxes.{Grid, Strips, candidates, is_candidate, lies_on, slice_meets, strip, strips_between, strips_in, strips_meet}
use Rattle.plane.specs.declared.limits.TheConstants.{SLICES}
use Rattle.plane_index.specs.Held.{kept_strips, no_strips}
use Rattle.plane_index.specs.Index.{fresh_at, index_of, is_fresh, index_row, strips_of_place, IsFresh, IsIndexOf}
use Rattle.plane_index.specs.States.{strips_at}
use Rattle.plane_index.specs.Told.{recorded_by}
use Rattle.plane_index.specs.declared.state.State.{State}
use Rattle.plane_index.proofs.FindLemmas.{any_same, by_places, kept_lie}

-- ---- a list by places

mapped_at : {A : Type 0} (f : ℕ → A) (n a k : ℕ) (d : A) → k < n → slice_index_or (map f (range_with_len a n)) k d ≡ f (a + k)
mapped_at f zero a k d below = absurd (omega arith)
mapped_at f (suc n) a zero d below = ap f (omega arith)
mapped_at f (suc n) a (suc k) d below =
    let e : a + 1 + k ≡ a + suc k = omega arith in
    mapped_at f n (a + 1) k d (omega arith) ∙ ap f e

pub at_place : {A : Type 0} (f : ℕ → A) (n k : ℕ) (d : A) → k < n → slice_index_or (map f (between 0 n)) k d ≡ f k
unfolding between
at_place f n k d below =
    let at : 0 + k ≡ k = omega arith in
    mapped_at f (n - 0) 0 k d (omega arith) ∙ ap f at

same_map : {A : Type 0} (f h : ℕ → A) (n a : ℕ) → ((k : ℕ) → a ≤ k → k < a + n → f k ≡ h k) → map f (range_with_len a n) ≡ map h (range_with_len a n)
same_map f h zero a same = refl
same_map f h (suc n) a same =
    let first = same a (omega arith) (omega arith) in
    let later = same_map f h n (a + 1) (λ k from below. same k (omega arith) (omega arith)) in
    λ i. first i ∷ later i

pub same_places : {A : Type 0} (f h : ℕ → A) (n : ℕ) → ((k : ℕ) → k < n → f k ≡ h k) → map f (between 0 n) ≡ map h (between 0 n)
unfolding between
same_places f h n same = same_map f h (n - 0) 0 (λ k from below. same k (omega arith))

-- ---- indexes

same_row : (b' b : Bool) (xs ys : List Strips) → b' ≡ b → (b ≡ true → xs ≡ ys) → (if b' then Some xs else None) ≡ (if b then Some ys else None)
same_row true true xs ys is same = ap Some (same refl)
same_row false false xs ys is same = refl
same_row true false xs ys is same = absurd (false≢true (sym is))
same_row false true xs ys is same = absurd (false≢true is)

-- indexes are one where they tell the same of each place
pub same_index : (grid : Grid) (ids ids' : List ℕ) (fresh fresh' : List Bool) (states states' : List State) → ids' ≡ ids →
    ((k : ℕ) → k < length ids → fresh_at fresh' k ≡ fresh_at fresh k) →
    ((k s : ℕ) → k < length ids → fresh_at fresh k ≡ true → s < SLICES → strips_at grid states' k s ≡ strips_at grid states k s) →
    index_of grid ids' fresh' states' ≡ index_of grid ids fresh states
same_index grid ids ids' fresh fresh' states states' same_ids same_fresh same_strips =
    ap (λ those. index_of grid those fresh' states') same_ids
    ∙ (λ i. record {
      grid = grid;
      ids = ids;
      rows = same_places (index_row grid fresh' states') (index_row grid fresh states) (length ids)
          (λ k below. same_row (fresh_at fresh' k) (fresh_at fresh k) (map (strips_at grid states' k) (between 0 SLICES)) (map (strips_at grid states k) (between 0 SLICES)) (same_fresh k below)
          (λ is. same_places (strips_at grid states' k) (strips_at grid states k) SLICES (λ s under. same_strips k s below is under))) i;
    })

some_if : (b : Bool) (xs : List Strips) → is_some (if b then Some xs else None) ≡ b
some_if true xs = refl
some_if false xs = refl

pub fresh_of : (grid : Grid) (ids : List ℕ) (fresh : List Bool) (states : List State) (k : ℕ) → k < length ids →
    is_fresh (index_of grid ids fresh states) k ≡ fresh_at fresh k
fresh_of grid ids fresh states k below =
    ap is_some (at_place (index_row grid fresh states) (length ids) k None below) ∙ some_if (fresh_at fresh k) (map (strips_at grid states k) (between 0 SLICES))

not_seen : (f : ℕ → Option (List Strips)) (n k : ℕ) → n ≤ k → is_some (slice_index_or (map f (between 0 n)) k None) ≡ false
unfolding between
not_seen f n k past =
    let size = length-map-range_with_len f 0 (n - 0) in
    ap is_some (get_or_past (map f (range_with_len 0 (n - 0))) k None (omega (arith, size, past)))

seen_at : (f : ℕ → Option (List Strips)) (n k : ℕ) → is_some (slice_index_or (map f (between 0 n)) k None) ≡ true → k < n
seen_at f n k is =
    elim (cases_lt k n) [
      | inl below ↦ below
      | inr past ↦ absurd (false≢true (sym (not_seen f n k past) ∙ is))
    ]

pub seen_if_fresh : (grid : Grid) (ids : List ℕ) (fresh : List Bool) (states : List State) (k : ℕ) →
    is_fresh (index_of grid ids fresh states) k ≡ true → k < length ids
seen_if_fresh grid ids fresh states k is = seen_at (index_row grid fresh states) (length ids) k is

-- where none past them is fresh
pub fresh_anywhere : (grid : Grid) (ids : List ℕ) (fresh : List Bool) (states : List State) → ((k : ℕ) → length ids ≤ k → fresh_at fresh k ≡ false) →
    (k : ℕ) → is_fresh (index_of grid ids fresh states) k ≡ fresh_at fresh k
fresh_anywhere grid ids fresh states unseen k =
    elim (cases_lt k (length ids)) [
      | inl below ↦ fresh_of grid ids fresh states k below
      | inr past ↦ not_seen (index_row grid fresh states) (length ids) k past ∙ sym (unseen k past)
    ]

-- the strips of a place that isn't stale
pub strips_of_index : (grid : Grid) (ids : List ℕ) (fresh : List Bool) (states : List State) (k s : ℕ) → k < length ids → fresh_at fresh k ≡ true → s < SLICES →
    strips_of_place (index_of grid ids fresh states) k s ≡ strips_at grid states k s
strips_of_index grid ids fresh states k s below is under =
    ap (λ row. slice_index_or (unwrap_or row []) s no_strips) (at_place (index_row grid fresh states) (length ids) k None below)
    ∙ ap (λ b. slice_index_or (unwrap_or (if b then Some (map (strips_at grid states k) (between 0 SLICES)) else None) []) s no_strips) is
    ∙ at_place (strips_at grid states k) SLICES s no_strips under

-- ---- candidates

strip_right : (s : Contents) (grid : Grid) (ids : List ℕ) (fresh : List Bool) (states : List State) → IsIndexOf s (index_of grid ids fresh states) →
    (k j : ℕ) → k < length ids → is_fresh (index_of grid ids fresh states) k ≡ true → j < SLICES →
    strips_at grid states k j ≡ kept_strips (strips_in (recorded_by s) grid (slice_index ids k) j)
strip_right s grid ids fresh states of k j below is under =
    sym (strips_of_index grid ids fresh states k j below (sym (fresh_of grid ids fresh states k below) ∙ is) under) ∙ of.right k j is under

abbrev asked_of : Grid → ℤ → ℤ → Strips
asked_of grid lo hi = strips_between grid.width lo hi

pub candidates_found : (s : Contents) (grid : Grid) (ids : List ℕ) (fresh marks : List Bool) (states : List State) (lo hi : ℤ) (from e : ℕ) →
    IsIndexOf s (index_of grid ids fresh states) → IsFresh s (index_of grid ids fresh states) → unsigned_abs (strip grid.width hi) ≤ FIX_LIMIT → int_lt hi lo ≡ false →
    ((k : ℕ) → k < length ids → fresh_at marks k ≡ list_any (λ j. slice_meets grid from e j && strips_meet (asked_of grid lo hi) (strips_at grid states k j)) (between 0 SLICES)) →
    map (slice_index ids) (filter (fresh_at marks) (between 0 (length ids))) ≡ candidates (recorded_by s) grid lo hi from e
candidates_found s grid ids fresh marks states lo hi from e of are size order marked =
    by_places (fresh_at marks) (is_candidate (recorded_by s) grid lo hi from e) ids
    (λ k below. marked k below
    ∙ any_same (λ j. slice_meets grid from e j && strips_meet (asked_of grid lo hi) (strips_at grid states k j))
    (λ j. slice_meets grid from e j && lies_on (asked_of grid lo hi) (strips_in (recorded_by s) grid (slice_index ids k) j)) SLICES
    (λ j under. ap (λ b. slice_meets grid from e j && b)
    (ap (strips_meet (asked_of grid lo hi)) (strip_right s grid ids fresh states of k j below (are.fresh k below) under)
    ∙ kept_lie (asked_of grid lo hi) (strips_in (recorded_by s) grid (slice_index ids k) j) size)))
    ∙ ap (filter (is_candidate (recorded_by s) grid lo hi from e)) are.all
    ∙ ap (λ b. if b then [] else filter (is_candidate (recorded_by s) grid lo hi from e) (ids_of (catalog_of s) grid.class)) (sym order)

pub none_found : (s : Contents) (grid : Grid) (lo hi : ℤ) (from e : ℕ) → int_lt hi lo ≡ true → [] ≡ candidates (recorded_by s) grid lo hi from e
none_found s grid lo hi from e order =
    ap (λ b. if b then [] else filter (is_candidate (recorded_by s) grid lo hi from e) (ids_of (catalog_of s) grid.class)) (sym order)

-- ---- an index that has seen no object

pub none_fresh : (grid : Grid) (fresh : List Bool) (states : List State) (k : ℕ) → is_fresh (index_of grid [] fresh states) k ≡ false
unfolding between
none_fresh grid fresh states k = refl

pub of_any : (s : Contents) (grid : Grid) (fresh : List Bool) (states : List State) → IsIndexOf s (index_of grid [] fresh states)
of_any s grid fresh states = record {
  seen = refl;
  right = λ k slice is below. absurd (false≢true (sym (none_fresh grid fresh states k) ∙ is));
}
