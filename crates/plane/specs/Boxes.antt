-- Which objects of a class an index tells to be candidates for values between two bounds.
use Rattle.std.specs.Prelude.{ℕ, ◌+◌, ◌*◌, ◌-◌, max, nat_le, ℤ, int_le, int_lt, Bool, false, ◌&&◌, Option, None, Some, option_map, option_and_then, List, [], ◌∷◌, if◌then◌else◌, ◌<◌}
use Rattle.std.specs.Int.{int_div_euclid, int_max, int_min}
use Rattle.std.specs.List.{filter, filter_map, fold, list_any}
use Rattle.std.specs.Option.{option_map_or}
use Rattle.tick_set.specs.Ticks.{between}
use Rattle.history.specs.Catalog.{ids_of}
use Rattle.history.specs.History.{History, cells_at}
use Rattle.formula.specs.declared.value.Value.{Value}
use Rattle.formula.specs.declared.value.Value.TheVariants as values
use Rattle.meaning.specs.Value.{cell_in, cell_value}
use Rattle.plane.specs.Recorded.{Recorded}
use Rattle.plane.specs.declared.limits.TheConstants.{SLICES, SLICE_TICKS}

-- What an index is of: an attribute of a class, by its place among the attributes. It reaches from a tick on, and its
-- strips have a width in thousandths.
pub record Grid : Type 0 where
  pub class : ℕ
  pub attribute : ℕ
  pub from : ℕ
  pub width : ℤ

-- the first and the last tick of a slice, and the last tick of all
abbrev pub slice_first : Grid → ℕ → ℕ
slice_first g s = g.from + SLICE_TICKS * s

abbrev pub slice_last : Grid → ℕ → ℕ
slice_last g s = slice_first g s + SLICE_TICKS - 1

abbrev pub last_covered : Grid → ℕ
last_covered g = g.from + SLICES * SLICE_TICKS - 1

-- ---- Boxes

abbrev pub number_in_value : Value → Option ℤ
number_in_value (values.Num n) = Some n
number_in_value (values.Text s) = None

-- the number that an attribute of an object has at a tick, None where the object is absent
abbrev pub number_at : History → (attribute id t : ℕ) → Option ℤ
number_at h attribute id t = option_and_then (λ cell. number_in_value (cell_value cell t)) (cell_in (cells_at h id t) attribute)

pub record Box : Type 0 where
  pub least : ℤ
  pub greatest : ℤ

-- the least and the greatest of some numbers
abbrev pub box_of : List ℤ → Option Box
box_of [] = None
box_of (z ∷ zs) = Some (record { least = fold int_min z zs; greatest = fold int_max z zs })

-- the ticks of a slice from which on the last state of an object is in force
abbrev pub ticks_in : Recorded → Grid → (id s : ℕ) → List ℕ
ticks_in r g id s = between (max (slice_first g s) (r.begun id)) (slice_last g s + 1)

-- The box of an object in a slice, by its last state alone. There is none where the object is absent, or its last state
-- begins after the slice.
abbrev pub box_in : Recorded → Grid → (id s : ℕ) → Option Box
box_in r g id s = box_of (filter_map (number_at r.history g.attribute id) (ticks_in r g id s))

-- ---- Strips

-- the number of the strip in which a value lies: those of negative values are negative
abbrev pub strip : ℤ → ℤ → ℤ
strip width z = int_div_euclid z width

-- the first and the last of some strips
pub record Strips : Type 0 where
  pub first : ℤ
  pub last : ℤ

abbrev pub strips_between : ℤ → (least greatest : ℤ) → Strips
strips_between width least greatest = record { first = strip width least; last = strip width greatest }

abbrev pub strips_of : ℤ → Box → Strips
strips_of width b = strips_between width b.least b.greatest

-- whether two runs of strips share one
abbrev pub strips_meet : Strips → Strips → Bool
strips_meet p q = int_le p.first q.last && int_le q.first p.last

-- the strips of the box of an object in a slice
abbrev pub strips_in : Recorded → Grid → (id s : ℕ) → Option Strips
strips_in r g id s = option_map (strips_of g.width) (box_in r g id s)

-- ---- Candidates

-- whether a slice has one of the ticks `from` to e
abbrev pub slice_meets : Grid → (from e s : ℕ) → Bool
slice_meets g from e s = nat_le (slice_first g s) e && nat_le from (slice_last g s)

-- whether an object has strips in a slice, and they share one with others
abbrev pub lies_on : Strips → Option Strips → Bool
lies_on asked strips = option_map_or (strips_meet asked) strips false

-- whether an object has a box in some slice with one of the ticks `from` to e, whose strips meet those of the bounds
abbrev pub is_candidate : Recorded → Grid → (lo hi : ℤ) → (from e id : ℕ) → Bool
is_candidate r g lo hi from e id =
    list_any (λ s. slice_meets g from e s && lies_on (strips_between g.width lo hi) (strips_in r g id s)) (between 0 SLICES)

-- the candidates in the order of first insertion, none where the upper bound is below the lower
abbrev pub candidates : Recorded → Grid → (lo hi : ℤ) → (from e : ℕ) → List ℕ
candidates r g lo hi from e = if int_lt hi lo then [] else filter (is_candidate r g lo hi from e) (ids_of r.history.catalog g.class)

-- an index has a slice of the number
abbrev pub IsSlice : ℕ → Type 0
IsSlice s = s < SLICES
