-- What an index is of, and the strips that it keeps.
use Rattle.std.specs.Prelude.{ℕ, ◌+◌, ◌-◌, ◌*◌, ◌≤◌, ◌^◌, ℤ, pos, negsuc, ◌<ℤ◌, Option, None, Some}
use Rattle.tick_set.specs.declared.spans.TheConstants.{LAST_TICK}
use Rattle.plane.specs.Boxes.{Strips}
use Rattle.plane.specs.declared.limits.TheConstants.{SLICES, SLICE_TICKS}

-- the width is above 0, and the last slice ends by the last tick
pub record IsGrid (from : ℕ) (width : ℤ) : Type 0 where
  pub wide : pos 0 <ℤ width
  pub covered : from + SLICES * SLICE_TICKS ≤ LAST_TICK + 1

-- strips that share none with any others
abbrev pub no_strips : Strips
no_strips = record { first = pos (2 ^ 63 - 1); last = negsuc (2 ^ 63 - 1) }

-- the strips that are kept where there are these, or none
abbrev pub kept_strips : Option Strips → Strips
kept_strips None = no_strips
kept_strips (Some strips) = strips
