-- What the patches of objects tell of where these are.
use Rattle.std.specs.Prelude.{◌≡◌, ℕ, pos, ◌+◌, ◌-◌, ◌*◌, ◌==◌, ◌≤◌, ◌≤ℤ◌, ◌+ℤ◌, ◌*ℤ◌, unsigned_abs, Bool, false, Option, None, Some, List, length, slice_get}
use Rattle.std.specs.Option.{option_map_or}
use Rattle.fixed_point.specs.declared.number.TheConstants.{READ_LIMIT, SLOPE_LIMIT}
use Rattle.tick_set.specs.declared.spans.TheConstants.{LAST_TICK}
use Rattle.motion.specs.declared.cell.Cell.{Cell}
use Rattle.motion.specs.declared.cell.Cell.TheVariants as cells
use Rattle.motion.specs.declared.straight.Straight.{Straight}
use Rattle.motion.specs.Dynamic.{value_at}
use Rattle.motion.specs.Timeline.{Epoch, state_at}
use Rattle.places.specs.declared.horizons.Patches.{Patches}
use Rattle.places.specs.declared.horizons.Places.{Places}
use Rattle.places.specs.declared.patch.Extent.{Extent}
use Rattle.places.specs.declared.patch.Patch.{Patch}
use Rattle.places.specs.Boxes.{Horizon, patch_at}
use Rattle.places.specs.Patches.{greatest_unit, least_unit, spot, unit}
use Rattle.object_store.specs.declared.areas.Area.{Area}
use Rattle.object_store.specs.declared.areas.Sides.{Sides}
use Rattle.object_store.specs.Contents.{Contents, StoredObject}
use Rattle.object_store.specs.Invariant.{IsKept}

-- the units of an extent are all that there are
abbrev pub IsAll : Extent → Type 0
IsAll e = (e.least ≡ least_unit) × (e.greatest ≡ greatest_unit)

-- what is in a cell is within an extent at a tick; without a dynamic attribute it may be anywhere
abbrev pub IsWithin : Extent → ℕ → Option Cell → Type 0
IsWithin e t (Some (cells.Dyn v)) = (e.least ≤ℤ unit (value_at v t)) × (unit (value_at v t) ≤ℤ e.greatest)
IsWithin e t (Some (cells.Num n)) = IsAll e
IsWithin e t (Some (cells.Text s)) = IsAll e
IsWithin e t None = IsAll e

-- an object with these cells, or that is absent, is in a patch at a tick
abbrev pub LiesInPatch : Patch → ℕ → Option (List Cell) → Type 0
LiesInPatch patch t None = Unit {0}
LiesInPatch patch t (Some there) = IsWithin patch.x t (slice_get there 0) × IsWithin patch.y t (slice_get there 1)

-- an object is in a patch, or absent, at each tick of some
abbrev pub IsPlaced : (from upto : ℕ) → Patch → List Epoch → Type 0
IsPlaced from upto patch epochs = (t : ℕ) → from ≤ t → t ≤ upto → LiesInPatch patch t (state_at epochs t)

-- Patches tell where an object is from a tick to the end of each horizon.
pub record HavePatches (from : ℕ) (p : Places) (patches : Patches) (epochs : List Epoch) : Type 0 where
  pub short : IsPlaced from p.short.upto patches.short epochs
  pub middle : IsPlaced from p.middle.upto patches.middle epochs
  pub long : IsPlaced from p.long.upto patches.long epochs
  pub longest : IsPlaced from p.longest.upto patches.longest epochs

-- The horizons end by the last tick.
pub record EndInTime (p : Places) : Type 0 where
  pub short : p.short.upto ≤ LAST_TICK
  pub middle : p.middle.upto ≤ LAST_TICK
  pub long : p.long.upto ≤ LAST_TICK
  pub longest : p.longest.upto ≤ LAST_TICK

-- the units of the place of a line at a tick
abbrev pub spot_at : Straight → ℕ → Patch
spot_at line t = spot (line.x +ℤ line.dx *ℤ pos (t - line.from)) (line.y +ℤ line.dy *ℤ pos (t - line.from))

-- A line begins where updates can have led by then.
pub record BeginsInReach (line : Straight) : Type 0 where
  pub x : unsigned_abs line.x ≤ READ_LIMIT + SLOPE_LIMIT * line.from
  pub y : unsigned_abs line.y ≤ READ_LIMIT + SLOPE_LIMIT * line.from

-- A horizon tells where each object is from a tick on, but maybe that of an index.
pub record ArePlacedBut (index from : ℕ) (h : Horizon) (objects : List StoredObject) : Type 0 where
  pub tick : h.upto ≤ LAST_TICK
  pub long : length h.patches ≡ length objects
  pub each : (k : ℕ) (o : StoredObject) → (k ≡ index → ⊥) → slice_get objects k ≡ Some o → IsPlaced from h.upto (patch_at h.patches k) o.epochs

-- A horizon tells where each object is from a tick on.
pub record ArePlacedIn (from : ℕ) (h : Horizon) (objects : List StoredObject) : Type 0 where
  pub tick : h.upto ≤ LAST_TICK
  pub long : length h.patches ≡ length objects
  pub each : (k : ℕ) (o : StoredObject) → slice_get objects k ≡ Some o → IsPlaced from h.upto (patch_at h.patches k) o.epochs

-- Each horizon tells where each object is.
pub record ArePlaced (p : Places) (objects : List StoredObject) : Type 0 where
  pub short : ArePlacedIn p.from p.short objects
  pub middle : ArePlacedIn p.from p.middle objects
  pub long : ArePlacedIn p.from p.long objects
  pub longest : ArePlacedIn p.from p.longest objects

-- The same, but maybe of the object of an index.
pub record AreOthersPlaced (index : ℕ) (p : Places) (objects : List StoredObject) : Type 0 where
  pub short : ArePlacedBut index p.from p.short objects
  pub middle : ArePlacedBut index p.from p.middle objects
  pub long : ArePlacedBut index p.from p.long objects
  pub longest : ArePlacedBut index p.from p.longest objects

-- What a store keeps: its tables, and where its objects are.
pub record IsHeld (p : Places) (ids : List (List ℕ)) (s : Contents) : Type 0 where
  pub kept : IsKept ids s
  pub placed : ArePlaced p s.objects

-- the units between two sides, and those of an area
abbrev pub extent_of : Sides → Extent
extent_of sides = record {
  least = option_map_or unit sides.least least_unit;
  greatest = option_map_or unit sides.greatest greatest_unit;
}

abbrev pub patch_of : Area → Patch
patch_of area = record { x = extent_of area.x; y = extent_of area.y }

-- whether the object of an id is of a class
abbrev pub is_in_class : List StoredObject → ℕ → ℕ → Bool
is_in_class objects class id = option_map_or (λ o. o.class == class) (slice_get objects id) false
