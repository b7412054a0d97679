-- What a store tells an index, and what one epoch of an object tells.
use Rattle.std.specs.Prelude.{ℕ, ◌+◌, max, ℤ, Bool, false, Option, option_and_then, List, slice_get}
use Rattle.std.specs.List.{filter_map}
use Rattle.std.specs.Option.{option_map, option_map_or}
use Rattle.tick_set.specs.Ticks.{between}
use Rattle.motion.specs.Timeline.{Epoch, epoch_at, last_begun, state_at}
use Rattle.motion.specs.declared.cell.Cell.{Cell}
use Rattle.meaning.specs.Value.{cell_in, cell_value}
use Rattle.object_store.specs.Contents.{Contents, history_of}
use Rattle.plane.specs.Recorded.{Recorded}
use Rattle.plane.specs.Boxes.{Grid, Strips, box_of, number_in_value, slice_first, slice_last, strips_of}
use Rattle.plane.specs.Rows.{is_between}

-- what a store tells of its objects
abbrev pub recorded_by : Contents → Recorded
recorded_by s = record { history = history_of s; begun = λ id. option_map_or (λ o. last_begun o.epochs) (slice_get s.objects id) 0 }

-- the number that an attribute has at a tick, in the cells of an object
abbrev pub number_in_cells : Option (List Cell) → (attribute t : ℕ) → Option ℤ
number_in_cells cells attribute t = option_and_then (λ cell. number_in_value (cell_value cell t)) (cell_in cells attribute)

-- the strips that an epoch alone tells of a slice
abbrev pub strips_by : Epoch → Grid → ℕ → Option Strips
strips_by p g s =
    option_map (strips_of g.width)
    (box_of (filter_map (number_in_cells p.cells g.attribute) (between (max (slice_first g s) p.from) (slice_last g s + 1))))

-- those that a timeline tells, by its last epoch
abbrev pub strips_along : List Epoch → Grid → ℕ → Option Strips
strips_along epochs g s =
    option_map (strips_of g.width)
    (box_of (filter_map (λ t. number_in_cells (state_at epochs t) g.attribute t)
    (between (max (slice_first g s) (last_begun epochs)) (slice_last g s + 1))))

-- whether the attribute lies between two bounds at a tick, while an epoch is in force
abbrev pub lies_in : Option Epoch → ℕ → (lo hi : ℤ) → ℕ → Bool
lies_in epoch attribute lo hi t = option_map_or (is_between lo hi) (number_in_cells (option_and_then (λ p. p.cells) epoch) attribute t) false

-- the same of an object with this timeline
abbrev pub lies_between : List Epoch → ℕ → (lo hi : ℤ) → ℕ → Bool
lies_between epochs attribute lo hi t = lies_in (epoch_at epochs t) attribute lo hi t
