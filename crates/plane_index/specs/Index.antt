-- An index, as a contract sees it.
use Rattle.std.specs.Prelude.{◌≡◌, ℕ, ◌<◌, ◌≤◌, ◌==◌, not, Bool, true, false, ◌&&◌, Option, None, Some, is_some, unwrap_or, List, [], length, map, take, slice_index, slice_index_or, count_by, if◌then◌else◌}
use Rattle.tick_set.specs.Ticks.{between}
use Rattle.history.specs.Catalog.{ids_of}
use Rattle.object_store.specs.Contents.{Contents, catalog_of}
use Rattle.plane.specs.Boxes.{Grid, Strips, strips_in}
use Rattle.plane.specs.declared.limits.TheConstants.{SLICES}
use Rattle.plane_index.specs.Held.{kept_strips, no_strips}
use Rattle.plane_index.specs.States.{States, strips_at}
use Rattle.plane_index.specs.Told.{recorded_by}
use Rattle.plane_index.specs.declared.state.State.{State}

-- The objects of the class that it has seen, by first insertion. By the place of each among them its strips in each slice, None
-- where it is stale.
pub record Index : Type 0 where
  pub grid : Grid
  pub ids : List ℕ
  pub rows : List (Option (List Strips))

-- whether the object of a place isn't stale, and its strips in a slice
abbrev pub is_fresh : Index → ℕ → Bool
is_fresh index k = is_some (slice_index_or index.rows k None)

abbrev pub strips_of_place : Index → (k slice : ℕ) → Strips
strips_of_place index k slice = slice_index_or (unwrap_or (slice_index_or index.rows k None) []) slice no_strips

abbrev pub fresh_at : List Bool → ℕ → Bool
fresh_at fresh k = slice_index_or fresh k false

-- the fields of the index
abbrev pub index_row : Grid → List Bool → List State → ℕ → Option (List Strips)
index_row grid fresh states k = if fresh_at fresh k then Some (map (strips_at grid states k) (between 0 SLICES)) else None

abbrev pub index_of : Grid → List ℕ → List Bool → List State → Index
index_of grid ids fresh states = record { grid = grid; ids = ids; rows = map (index_row grid fresh states) (between 0 (length ids)) }

abbrev pub AreAscendingIds : List ℕ → Type 0
AreAscendingIds ids = (j k : ℕ) → j < k → k < length ids → slice_index ids j < slice_index ids k

-- What holds of those fields: ids ascend, each has a state, and none past them is fresh.
pub record AreIndexFields (ids : List ℕ) (fresh : List Bool) (states : List State) : Type 0 where
  pub ascending : AreAscendingIds ids
  pub seen : length ids ≤ length fresh
  pub room : length fresh ≤ length states
  pub unseen : (k : ℕ) → length ids ≤ k → fresh_at fresh k ≡ false

-- ---- An index of a store

-- It has seen the first objects of the class, and the strips of those that aren't stale are right.
pub record IsIndexOf (s : Contents) (index : Index) : Type 0 where
  pub seen : index.ids ≡ take (length index.ids) (ids_of (catalog_of s) index.grid.class)
  pub right : (k slice : ℕ) → is_fresh index k ≡ true → slice < SLICES
      → strips_of_place index k slice ≡ kept_strips (strips_in (recorded_by s) index.grid (slice_index index.ids k) slice)

-- no object of the class is stale
pub record IsFresh (s : Contents) (index : Index) : Type 0 where
  pub all : index.ids ≡ ids_of (catalog_of s) index.grid.class
  pub fresh : (k : ℕ) → k < length index.ids → is_fresh index k ≡ true

-- how many objects of the class are stale, those that it hasn't seen among them
abbrev pub stale_count : Contents → Index → ℕ
stale_count s index = count_by (λ k. not (is_fresh index k)) (between 0 (length (ids_of (catalog_of s) index.grid.class)))

-- An object became stale, and all else stays.
pub record IsTouched (id : ℕ) (old new : Index) : Type 0 where
  pub grid : new.grid ≡ old.grid
  pub ids : new.ids ≡ old.ids
  pub fresh : (k : ℕ) → is_fresh new k ≡ (is_fresh old k && not (slice_index old.ids k == id))
  pub strips : (k slice : ℕ) → is_fresh new k ≡ true → slice < SLICES → strips_of_place new k slice ≡ strips_of_place old k slice

-- a place from one to another, before which all from the first on are fresh
pub record IsPastFresh (states : List Bool) (first until place : ℕ) : Type 0 where
  pub from : first ≤ place
  pub end : place ≤ until
  pub fresh : (k : ℕ) → first ≤ k → k < place → fresh_at states k ≡ true

-- The object of a place has been looked at, unless that was fresh: its strips are those of its last state. All else stays.
pub record IsFreshenedAt (s : Contents) (id place : ℕ) (fresh : List Bool) (old new : States) : Type 0 where
  pub grid : new.grid ≡ old.grid
  pub others : (k slice : ℕ) → (k == place) ≡ false → strips_at new.grid new.states k slice ≡ strips_at old.grid old.states k slice
  pub kept : fresh_at fresh place ≡ true → (slice : ℕ) → strips_at new.grid new.states place slice ≡ strips_at old.grid old.states place slice
  pub right : fresh_at fresh place ≡ false → (slice : ℕ)
      → strips_at new.grid new.states place slice ≡ kept_strips (strips_in (recorded_by s) old.grid id slice)
