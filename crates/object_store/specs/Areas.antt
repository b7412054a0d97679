-- Areas of the plane, and the objects of a class that are told for one.
use Rattle.std.specs.Prelude.{◌≡◌, ℕ, ℤ, ◌==◌, ◌≤◌, Bool, true, false, ◌&&◌, int_le, Option, None, Some, List, slice_get}
use Rattle.std.specs.List.{list_any}
use Rattle.std.specs.List.Sorted.{IsStrictlyIncreasing}
use Rattle.std.specs.Option.{option_map_or}
use Rattle.motion.specs.declared.cell.Cell.{Cell}
use Rattle.motion.specs.declared.cell.Cell.TheVariants as cells
use Rattle.motion.specs.Dynamic.{value_at}
use Rattle.history.specs.History.{cells_at}
use Rattle.object_store.specs.declared.areas.Area.{Area}
use Rattle.object_store.specs.declared.areas.Sides.{Sides}
use Rattle.object_store.specs.Contents.{Contents, history_of, ids_in}

-- whether a number is neither below the one side nor above the other, each of which may be open
abbrev pub is_between_sides : Sides → ℤ → Bool
is_between_sides sides n =
    option_map_or (λ least. int_le least n) sides.least true
    && option_map_or (λ greatest. int_le n greatest) sides.greatest true

-- whether what is in a cell is between two sides at a tick; without a dynamic attribute it may be anywhere
abbrev pub is_cell_between : Sides → ℕ → Option Cell → Bool
is_cell_between sides t (Some (cells.Dyn v)) = is_between_sides sides (value_at v t)
is_cell_between sides t (Some (cells.Num n)) = true
is_cell_between sides t (Some (cells.Text s)) = true
is_cell_between sides t None = true

-- whether an object with these cells is in an area at a tick, by its first two attributes
abbrev pub are_in_area : Area → ℕ → List Cell → Bool
are_in_area area t there = is_cell_between area.x t (slice_get there 0) && is_cell_between area.y t (slice_get there 1)

-- the same of an object that may be absent, and is then nowhere
abbrev pub is_in_area : Area → ℕ → Option (List Cell) → Bool
is_in_area area t None = false
is_in_area area t (Some there) = are_in_area area t there

-- whether an object, which may be absent, is in the area that is told of it; none is told of an absent one
abbrev pub is_told : Option Area → ℕ → Option (List Cell) → Bool
is_told area t None = true
is_told None t (Some there) = false
is_told (Some area) t (Some there) = are_in_area area t there

-- whether an id is in a list
abbrev pub is_listed : List ℕ → ℕ → Bool
is_listed ids id = list_any (λ i. i == id) ids

-- Ids of objects of a class, ascending. An object of the class that isn't among them is in the area at no tick of lo to hi.
pub record AreNear (s : Contents) (class : ℕ) (area : Area) (lo hi : ℕ) (ids : List ℕ) : Type 0 where
  pub ascending : IsStrictlyIncreasing ids
  pub among : (id : ℕ) → is_listed ids id ≡ true → is_listed (ids_in s.objects class) id ≡ true
  pub missed : (id : ℕ) → is_listed (ids_in s.objects class) id ≡ true → is_listed ids id ≡ false
      → (t : ℕ) → lo ≤ t → t ≤ hi → is_in_area area t (cells_at (history_of s) id t) ≡ false
