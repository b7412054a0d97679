-- The effect of one write on the cells of an object.
use Rattle.std.specs.Prelude.{ℕ, ℤ, zero, suc, pos, ◌≤◌, Bool, false, unsigned_abs, All, Option, None, Some, List, [], ◌∷◌, ◌++◌, codes, if◌then◌else◌, ◌<◌, length}
use Rattle.std.specs.List.{fold}
use Rattle.std.specs.Option.{option_map}
use Rattle.std.specs.Str.{bytes_eq}
use Rattle.motion.specs.Function.{Function, level}
use Rattle.motion.specs.Dynamic.{moved, turned, begun, turns_at, Dynamic}
use Rattle.fixed_point.specs.declared.number.TheConstants.{READ_LIMIT}
use Rattle.motion.specs.declared.cell.AttrKind.{AttrKind}
use Rattle.motion.specs.declared.cell.Cell.{Cell}
use Rattle.motion.specs.declared.cell.Given.{Given}
use Rattle.motion.specs.declared.cell.NamedSet.{NamedSet}
use Rattle.motion.specs.declared.cell.Place.{Place}
use Rattle.motion.specs.declared.cell.AttrKind.TheVariants as kinds
use Rattle.motion.specs.declared.cell.Cell.TheVariants as cells
use Rattle.motion.specs.declared.cell.Given.TheVariants as givens
use Rattle.motion.specs.declared.limits.TheConstants.{ATTRIBUTE_LIMIT, CAPACITY_LIMIT}

-- the cell of a kind that an insert at tick s begins with: 0, the empty text, or at rest at 0
abbrev pub fresh : ℕ → AttrKind → Cell
fresh s kinds.Num = cells.Num (pos 0)
fresh s kinds.Text = cells.Text []
fresh s kinds.Dyn = cells.Dyn (begun s (pos 0) level)

-- the cell after a write at tick s; what doesn't fit its kind leaves it
abbrev pub written : ℕ → Cell → Given → Cell
written s (cells.Num n) (givens.Num new) = cells.Num new
written s (cells.Text w) (givens.Text new) = cells.Text new
written s (cells.Dyn v) (givens.Num n) = cells.Dyn (moved s v n)
written s (cells.Dyn v) (givens.Rate f) = cells.Dyn (turned s v f)
written s (cells.Dyn v) (givens.Both n f) = cells.Dyn (begun s n f)
written s cell given = cell

-- the cells after a write to the one of an index, counted from 0; an index past them leaves all
abbrev pub set_at : ℕ → List Cell → ℕ → Given → List Cell
set_at s [] index given = []
set_at s (cell ∷ cells) zero given = written s cell given ∷ cells
set_at s (cell ∷ cells) (suc index) given = cell ∷ set_at s cells index given

-- the cells after writes at tick s, in their order
abbrev pub changed : ℕ → List (ℕ × Given) → List Cell → List Cell
changed s changes cells = fold (λ now change. set_at s now change.0 change.1) cells changes

-- the cells after a write to the first attribute of a name, the names in the order of the cells
abbrev pub set_named : ℕ → List (List ℕ) → List Cell → NamedSet → List Cell
set_named s [] cells set = cells
set_named s (name ∷ names) [] set = []
set_named s (name ∷ names) (cell ∷ cells) set =
    if bytes_eq name set.name then (written s cell set.given ∷ cells) else (cell ∷ set_named s names cells set)

-- the kind of a cell
abbrev pub kind_of : Cell → AttrKind
kind_of (cells.Num n) = kinds.Num
kind_of (cells.Text w) = kinds.Text
kind_of (cells.Dyn v) = kinds.Dyn

-- what moves in a cell, None where it rests
abbrev pub dynamic_of : Cell → Option Dynamic
dynamic_of (cells.Num n) = None
dynamic_of (cells.Text w) = None
dynamic_of (cells.Dyn v) = Some v

-- whether a leg of the cell ends at a tick past its last write
abbrev pub cell_turns : ℕ → Cell → Bool
cell_turns t (cells.Num n) = false
cell_turns t (cells.Text w) = false
cell_turns t (cells.Dyn v) = turns_at v t

-- what a command gives for a coordinate: `at` its value, `move` its legs
abbrev pub given_of : Option ℤ → Option Function → Option Given
given_of None None = None
given_of (Some n) None = Some (givens.Num n)
given_of None (Some f) = Some (givens.Rate f)
given_of (Some n) (Some f) = Some (givens.Both n f)

-- the setting of an attribute, where something is given for it
abbrev pub setting_of : List ℕ → Option Given → List NamedSet
setting_of name None = []
setting_of name (Some given) = record { name = name; given = given } ∷ []

-- what a place gives for x and y
abbrev pub place_sets : Place → List NamedSet
place_sets place =
    setting_of (codes "x") (given_of (option_map (λ p. p.x) place.at) (option_map (λ m. m.0) place.moving))
    ++ setting_of (codes "y") (given_of (option_map (λ p. p.y) place.at) (option_map (λ m. m.1) place.moving))

-- a place of which nothing is given
abbrev pub nowhere : Place
nowhere = record { at = None; moving = None }

-- the cells after a command's writes at tick s, first those of its place and then its settings in their order
abbrev pub cells_after : ℕ → List (List ℕ) → List Cell → Place → List NamedSet → List Cell
cells_after s names cells place sets = fold (set_named s names) cells (place_sets place ++ sets)

-- A cell as it may stand at tick s: a number as it was given, within 10^12 thousandths, a text, or a
-- vector updated by then.
abbrev pub IsCellAt : Cell → ℕ → Type 0
IsCellAt (cells.Num n) s = unsigned_abs n ≤ READ_LIMIT
IsCellAt (cells.Text w) s = Unit {0}
IsCellAt (cells.Dyn v) s = v.updatetime ≤ s

abbrev pub AreCellsAt : List Cell → ℕ → Type 0
AreCellsAt cells s = All (λ cell. IsCellAt cell s) cells

-- a number that a command gives is within 10^12 thousandths
abbrev pub IsGiven : Given → Type 0
IsGiven (givens.Num n) = unsigned_abs n ≤ READ_LIMIT
IsGiven (givens.Text w) = Unit {0}
IsGiven (givens.Rate f) = Unit {0}
IsGiven (givens.Both n f) = unsigned_abs n ≤ READ_LIMIT

-- changes, each by the index of its cell, have such numbers alone
abbrev pub AreChanges : List (ℕ × Given) → Type 0
AreChanges changes = All (λ change. IsGiven change.1) changes

-- a class may have the capacity
pub record IsCapacity (capacity : ℕ) : Type 0 where
  pub some : 0 < capacity
  pub limit : capacity ≤ CAPACITY_LIMIT

-- a class may have so many attributes
abbrev pub AreFewAttributes : {A : Type 0} → List A → Type 0
AreFewAttributes attributes = length attributes ≤ ATTRIBUTE_LIMIT
