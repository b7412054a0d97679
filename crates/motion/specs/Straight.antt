-- The line along which an object moves from its last epoch on.
use Rattle.std.specs.Prelude.{◌≡◌, ℕ, ℤ, pos, ◌+◌, ◌-◌, ◌*◌, ◌+ℤ◌, ◌*ℤ◌, ◌≤◌, ◌==◌, Bool, false, ◌&&◌, unsigned_abs, Option, IfSome, Some, is_some, List, length, slice_get}
use Rattle.std.specs.Option.{option_map_or}
use Rattle.fixed_point.specs.declared.number.TheConstants.{READ_LIMIT, SLOPE_LIMIT}
use Rattle.motion.specs.declared.cell.Cell.{Cell}
use Rattle.motion.specs.declared.cell.Cell.TheVariants as cells
use Rattle.motion.specs.declared.straight.Straight.{Straight}
use Rattle.motion.specs.Dynamic.{Dynamic, value_at}
use Rattle.motion.specs.Timeline.{Epoch, cells_of, epoch_at, AreBegunBy, IsRising}

-- The attribute of an index, counted from 0, is dynamic. At tick `from` it has the value `start`, and from then on it moves by one slope.
pub record MovesFrom (p : Epoch) (index from : ℕ) (start slope : ℤ) : Type 0 where
  pub vector : Dynamic
  pub cell : slice_get (cells_of p) index ≡ Some (cells.Dyn vector)
  pub near : unsigned_abs start ≤ READ_LIMIT + SLOPE_LIMIT * from
  pub value : (t : ℕ) → from ≤ t → value_at vector t ≡ start +ℤ slope *ℤ pos (t - from)

-- A line tells how the first two attributes move from the last epoch's first tick on, while that epoch is in force.
pub record IsStraightOf (epochs : List Epoch) (line : Straight) : Type 0 where
  pub epoch : Epoch
  pub last : slice_get epochs (length epochs - 1) ≡ Some epoch
  pub begins : line.from ≡ epoch.from
  pub begun : AreBegunBy epochs line.from
  pub in_force : (t : ℕ) → line.from ≤ t → epoch_at epochs t ≡ Some epoch
  pub x : MovesFrom epoch 0 line.from line.x line.dx
  pub y : MovesFrom epoch 1 line.from line.y line.dy

-- whether a cell is dynamic, with one leg alone
abbrev pub has_one_leg : Cell → Bool
has_one_leg (cells.Num n) = false
has_one_leg (cells.Text w) = false
has_one_leg (cells.Dyn v) = length v.function.firsts == 0

-- whether the attribute of an index, counted from 0, is there and has one leg alone
abbrev pub moves_by_one_leg : Epoch → ℕ → Bool
moves_by_one_leg p index = option_map_or has_one_leg (slice_get (cells_of p) index) false

-- whether the last epoch tells a line: its first two attributes have one leg alone each
abbrev pub tells_line : List Epoch → Bool
tells_line epochs = option_map_or (λ p. moves_by_one_leg p 0 && moves_by_one_leg p 1) (slice_get epochs (length epochs - 1)) false

-- what holds of the fields of a `Timeline`: it has a line exactly where its epochs tell one, and that line
pub record AreTimelineFields (epochs : List Epoch) (straight : Option Straight) : Type 0 where
  pub rising : IsRising epochs
  pub told : IfSome straight (IsStraightOf epochs)
  pub exact : is_some straight ≡ tells_line epochs
