-- The strips of an index's type, and the values of a cell over some ticks.
use Rattle.std.specs.Prelude.{◌≡◌, ℕ, ◌+◌, ℤ, pos, ◌+ℤ◌, ◌*ℤ◌, Option, option_and_then}
use Rattle.std.specs.List.{filter_map}
use Rattle.std.specs.Option.{option_map}
use Rattle.tick_set.specs.Ticks.{between}
use Rattle.motion.specs.declared.cell.Cell.{Cell}
use Rattle.meaning.specs.Value.{cell_value}
use Rattle.plane.specs.Boxes.{Box, Strips, box_of, number_in_value}
use Rattle.plane_index.specs.declared.cover.Cover.{Cover}
use Rattle.plane_index.specs.declared.line.Line.{Line}

abbrev pub strips_as : Cover → Strips
strips_as c = record { first = c.first; last = c.last }

abbrev pub box_as : ℤ × ℤ → Box
box_as b = record { least = b.0; greatest = b.1 }

-- the number in a cell at a tick
abbrev pub number_of_cell : Option Cell → ℕ → Option ℤ
number_of_cell cell t = option_and_then (λ there. number_in_value (cell_value there t)) cell

-- the box of a cell's numbers over the ticks `from` to `until`
abbrev pub AreValuesOf : Option Cell → (from until : ℕ) → Option (ℤ × ℤ) → Type 0
AreValuesOf cell from until found = box_of (filter_map (number_of_cell cell) (between from (until + 1))) ≡ option_map box_as found

-- the value of a line so many ticks after its first
abbrev pub line_after : Line → ℕ → ℤ
line_after l k = l.start +ℤ l.slope *ℤ pos k
