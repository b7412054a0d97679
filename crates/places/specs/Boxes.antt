-- The patches of all objects for one horizon, and which of them meet an area.
use Rattle.std.specs.Prelude.{◌≡◌, ◌⊎◌, ℕ, zero, suc, ◌*◌, ◌/◌, ◌^◌, ◌<◌, ◌≤◌, nat_lt, true, List, [], ◌∷◌, ◌++◌, length, slice_index, slice_index_or, slice_set, Contains, if◌then◌else◌}
use Rattle.places.specs.declared.patch.Patch.{Patch}
use Rattle.places.specs.declared.boxes.TheConstants.{BLOCK}
use Rattle.places.specs.Patches.{HasPatch, empty_patch, joined, meets}
use Rattle.exact.specs.Lists.{SameLength}

-- the patches by the numbers of their objects, and the last tick up to which they tell where those are
pub record Horizon : Type 0 where
  pub upto : ℕ
  pub patches : List Patch

-- the patch of a number
abbrev pub patch_at : List Patch → ℕ → Patch
patch_at patches number = slice_index_or patches number empty_patch

-- the numbers below n of the patches that meet an area, ascending
abbrev pub near_below : ℕ → List Patch → Patch → List ℕ
near_below zero patches area = []
near_below (suc n) patches area =
    if meets (patch_at patches n) area then (near_below n patches area ++ n ∷ []) else near_below n patches area

-- the numbers of all patches that meet it
abbrev pub numbers_near : List Patch → Patch → List ℕ
numbers_near patches area = near_below (length patches) patches area

-- a number whose patch meets an area
pub record IsNear (patches : List Patch) (area : Patch) (k : ℕ) : Type 0 where
  pub there : k < length patches
  pub met : meets (patch_at patches k) area ≡ true

-- a number has a slot, in which it stands
pub record HasSlot (slots numbers : List ℕ) (k : ℕ) : Type 0 where
  pub within : slice_index slots k < length slots
  pub back : slice_index numbers (slice_index slots k) ≡ k

-- the slots of all numbers, and the numbers by slots
pub record AreSlots (slots numbers : List ℕ) : Type 0 where
  pub long : length numbers ≡ length slots
  pub each : (k : ℕ) → k < length slots → HasSlot slots numbers k

-- the number stands in a slot from n on
abbrev pub StandsFrom : ℕ → List ℕ → ℕ → Type 0
StandsFrom n numbers k = (j : ℕ) × (n ≤ j) × (j < length numbers) × (slice_index numbers j ≡ k)

-- each number has a slot, but for some that stand from n on
pub record AreSlotsBut (n : ℕ) (slots numbers : List ℕ) : Type 0 where
  pub long : length numbers ≡ length slots
  pub each : (k : ℕ) → k < length slots → HasSlot slots numbers k ⊎ StandsFrom n numbers k

-- each patch is within the cover of the block of its slot
pub record AreCovers (covers patches : List Patch) (slots : List ℕ) : Type 0 where
  pub few : length patches ≤ 2 ^ 32
  pub blocks : length covers ≤ 2 ^ 32
  pub room : length patches ≤ BLOCK * length covers
  pub each : (k : ℕ) → k < length patches → HasPatch (patch_at covers (slice_index slots k / BLOCK)) (patch_at patches k)

-- what boxes hold
pub record AreArranged (covers patches : List Patch) (slots numbers : List ℕ) : Type 0 where
  pub long : length slots ≡ length patches
  pub slots_are : AreSlots slots numbers
  pub covers_are : AreCovers covers patches slots

-- the covers, that of a block with one patch more, which may be the first of the block
abbrev pub covers_with : List Patch → ℕ → Patch → List Patch
covers_with covers block patch =
    if nat_lt block (length covers) then slice_set covers block (joined (patch_at covers block) patch) else (covers ++ patch ∷ [])

-- what is found is told of, and is all of the old and of the numbers in the slots from n to m whose patches meet an area
pub record AddsFound (n m : ℕ) (numbers : List ℕ) (patches : List Patch) (area : Patch) (old new : List ℕ) : Type 0 where
  pub keeps : (k : ℕ) → Contains old k → Contains new k
  pub sound : (k : ℕ) → Contains new k → Contains old k ⊎ IsNear patches area k
  pub whole : (s : ℕ) → n ≤ s → s < m → s < length numbers → IsNear patches area (slice_index numbers s) → Contains new (slice_index numbers s)

-- what is found meets an area, and is all that does so in the slots below n, as far as their covers have it
pub record AreFound (n : ℕ) (covers : List Patch) (numbers : List ℕ) (patches : List Patch) (area : Patch) (found : List ℕ) : Type 0 where
  pub sound : (k : ℕ) → Contains found k → IsNear patches area k
  pub whole : (s : ℕ) → s < n → s < length numbers → HasPatch (patch_at covers (s / BLOCK)) (patch_at patches (slice_index numbers s))
      → IsNear patches area (slice_index numbers s) → Contains found (slice_index numbers s)

-- the patches have slots, and their slots covers
pub record AreCoverable (patches : List Patch) (slots : List ℕ) (covers : List Patch) : Type 0 where
  pub few : length patches ≤ 2 ^ 32
  pub blocks : length covers ≤ 2 ^ 32
  pub room : length patches ≤ BLOCK * length covers
  pub long : SameLength slots patches
  pub within : (k : ℕ) → k < length patches → slice_index slots k < length patches
