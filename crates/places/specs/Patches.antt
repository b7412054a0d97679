-- Upright boxes of the plane in whole units, and which of them meet.
use Rattle.std.specs.Prelude.{ℤ, pos, negsuc, ◌≤ℤ◌, int_le, int_lt, Bool, ◌&&◌, if◌then◌else◌}
use Rattle.std.specs.Int.{int_div_euclid, int_max, int_min}
use Rattle.places.specs.declared.patch.Extent.{Extent}
use Rattle.places.specs.declared.patch.Patch.{Patch}

-- the least and the greatest number of 32 bits
abbrev pub least_unit : ℤ
least_unit = negsuc 2147483647

abbrev pub greatest_unit : ℤ
greatest_unit = pos 2147483647

-- a whole number, or the nearest one of 32 bits
abbrev pub clamped_unit : ℤ → ℤ
clamped_unit n = if int_lt n least_unit then least_unit else (if int_lt greatest_unit n then greatest_unit else n)

-- the whole units of a number of thousandths, rounded down
abbrev pub unit : ℤ → ℤ
unit n = clamped_unit (int_div_euclid n (pos 1000))

-- the unit of one number, and those of one place, in thousandths
abbrev pub unit_of : ℤ → Extent
unit_of n = record { least = unit n; greatest = unit n }

abbrev pub spot : ℤ → ℤ → Patch
spot x y = record { x = unit_of x; y = unit_of y }

abbrev pub empty_patch : Patch
empty_patch = record {
  x = record { least = greatest_unit; greatest = least_unit };
  y = record { least = greatest_unit; greatest = least_unit };
}

abbrev pub everywhere : Patch
everywhere = record {
  x = record { least = least_unit; greatest = greatest_unit };
  y = record { least = least_unit; greatest = greatest_unit };
}

-- neither of two extents begins past the other's end
abbrev pub overlap : Extent → Extent → Bool
overlap a b = int_le a.least b.greatest && int_le b.least a.greatest

abbrev pub meets : Patch → Patch → Bool
meets a b = overlap a.x b.x && overlap a.y b.y

-- from the lesser of their least units to the greater of their greatest
abbrev pub joined_extent : Extent → Extent → Extent
joined_extent a b = record { least = int_min a.least b.least; greatest = int_max a.greatest b.greatest }

abbrev pub joined : Patch → Patch → Patch
joined a b = record { x = joined_extent a.x b.x; y = joined_extent a.y b.y }

-- an extent begins no later than another and ends no earlier
pub record HasExtent (a b : Extent) : Type 0 where
  pub least : a.least ≤ℤ b.least
  pub greatest : b.greatest ≤ℤ a.greatest

-- a patch has all of another
pub record HasPatch (a b : Patch) : Type 0 where
  pub x : HasExtent a.x b.x
  pub y : HasExtent a.y b.y
