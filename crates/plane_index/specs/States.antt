-- The last states of objects, and the strips that they tell.
use Rattle.std.specs.Prelude.{ℕ, ◌+◌, ◌<◌, max, Option, None, IfSome, List, length, slice_index_or}
use Rattle.motion.specs.Cells.{IsCellAt}
use Rattle.std.specs.List.{filter_map}
use Rattle.std.specs.Option.{option_map}
use Rattle.tick_set.specs.Ticks.{between}
use Rattle.plane.specs.Boxes.{Grid, Strips, box_of, slice_first, slice_last, strips_of}
use Rattle.plane_index.specs.Held.{kept_strips}
use Rattle.plane_index.specs.Lines.{number_of_cell}
use Rattle.plane_index.specs.declared.state.State.{State}

abbrev pub no_state : State
no_state = record { from = 0; cell = None }

-- the cell was written by the tick from which on it is there
abbrev pub IsWritten : State → Type 0
IsWritten p = IfSome p.cell (λ c. IsCellAt c p.from)

-- the strips that a state tells of a slice
abbrev pub strips_by_state : State → Grid → ℕ → Option Strips
strips_by_state p g s =
    option_map (strips_of g.width)
    (box_of (filter_map (number_of_cell p.cell) (between (max (slice_first g s) p.from) (slice_last g s + 1))))

-- the state of a place
abbrev pub state_of_place : List State → ℕ → State
state_of_place states k = slice_index_or states k no_state

abbrev pub AreWritten : List State → Type 0
AreWritten states = (k : ℕ) → k < length states → IsWritten (state_of_place states k)

-- the strips of a place in a slice
abbrev pub strips_at : Grid → List State → (k s : ℕ) → Strips
strips_at grid states k s = kept_strips (strips_by_state (state_of_place states k) grid s)

-- what is kept of the objects of an index
pub record States : Type 0 where
  pub grid : Grid
  pub states : List State
