-- Strips in half the room, by place and slice.
use Rattle.std.specs.Prelude.{◌≡◌, ℕ, ◌<◌, ◌≤◌, ℤ, pos, negsuc, int_le, int_lt, Bool, ◌&&◌, Option, List, [], length, slice_index_or, IfSome, if◌then◌else◌}
use Rattle.plane.specs.Boxes.{Grid, Strips, strips_meet}
use Rattle.plane.specs.declared.limits.TheConstants.{SLICES}
use Rattle.plane_index.specs.Lines.{strips_as}
use Rattle.plane_index.specs.States.{strips_at, AreWritten}
use Rattle.plane_index.specs.declared.cover.Cover.{Cover}
use Rattle.plane_index.specs.declared.cover.Narrow.{Narrow}
use Rattle.plane_index.specs.declared.state.State.{State}

-- the least and the greatest number of 32 bits
abbrev pub least_narrow : ℤ
least_narrow = negsuc 2147483647

abbrev pub greatest_narrow : ℤ
greatest_narrow = pos 2147483647

-- a number, or the nearest one of 32 bits
abbrev pub bounded : ℤ → ℤ
bounded n = if int_lt n least_narrow then least_narrow else (if int_lt greatest_narrow n then greatest_narrow else n)

abbrev pub narrowed : Strips → Narrow
narrowed p = record { first = bounded p.first; last = bounded p.last }

-- whether strips share one with others
abbrev pub narrow_meets : Narrow → Narrow → Bool
narrow_meets p asked = int_le asked.first p.last && int_le p.first asked.last

-- narrowed strips tell exactly which strips share one with these
abbrev pub Exact : Cover → Option Narrow → Type 0
Exact asked found = IfSome found (λ narrow. (p : Strips) → narrow_meets (narrowed p) narrow ≡ strips_meet (strips_as asked) p)

-- the narrowed strips of a place
abbrev pub no_narrow : Narrow
no_narrow = record { first = pos 0; last = pos 0 }

abbrev pub narrow_at : List Narrow → ℕ → Narrow
narrow_at covers k = slice_index_or covers k no_narrow

-- a column has the narrowed strips of the first states in a slice
pub record IsColumn (grid : Grid) (states : List State) (s : ℕ) (covers : List Narrow) : Type 0 where
  pub within : length covers ≤ length states
  pub each : (k : ℕ) → k < length covers → narrow_at covers k ≡ narrowed (strips_at grid states k s)

-- the columns of the slices
pub record AreColumns (grid : Grid) (states : List State) (columns : List (List Narrow)) : Type 0 where
  pub written : AreWritten states
  pub slices : length columns ≡ SLICES
  pub each : (s : ℕ) → s < SLICES → IsColumn grid states s (slice_index_or columns s [])
