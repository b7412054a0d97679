-- The place of a point object while an epoch is in force.
use Rattle.std.specs.Prelude.{◌≡◌, ℕ, ◌-◌, ◌<◌, nat_le, Bool, false, ◌&&◌, Option, Some, option_and_then, List, length, slice_get}
use Rattle.std.specs.Option.{option_map, option_map_or}
use Rattle.fixed_point.specs.declared.number.Point.{Point}
use Rattle.geometry.specs.Plane.{point}
use Rattle.motion.specs.Dynamic.{Dynamic, value_at}
use Rattle.motion.specs.Timeline.{Epoch, cells_of, epoch_at}
use Rattle.motion.specs.Pieces.{IsLinear}
use Rattle.motion.specs.Straight.{tells_line}
use Rattle.motion.specs.declared.cell.Cell.TheVariants as cells
use Rattle.motion.specs.Cells.{dynamic_of}

-- the dynamic attribute of an index, counted from 0: None where the object is absent, or has none there
abbrev pub dynamic_at : Epoch → ℕ → Option Dynamic
dynamic_at p a = option_and_then dynamic_of (slice_get (cells_of p) a)

abbrev pub place_by : Option Dynamic → Option Dynamic → ℕ → Option Point
place_by x y t = option_and_then (λ u. option_map (λ v. point (value_at u t) (value_at v t)) y) x

-- where the object is at tick t, by its first two attributes: None where it is absent, or one of these doesn't move
abbrev pub place_of : Epoch → ℕ → Option Point
place_of p t = place_by (dynamic_at p 0) (dynamic_at p 1) t

-- where an object with this timeline is at tick t
abbrev pub place_at : List Epoch → ℕ → Option Point
place_at epochs t = option_and_then (λ p. place_of p t) (epoch_at epochs t)

-- whether the last epoch begins by tick t and tells a line, along which the object moves from t on
abbrev pub tells_line_from : List Epoch → ℕ → Bool
tells_line_from epochs t = tells_line epochs && option_map_or (λ p. nat_le p.from t) (slice_get epochs (length epochs - 1)) false

-- the first two attributes of an epoch move by one slope each from tick `lo` to `hi`, where they are dynamic
abbrev pub IsPlaceSteady : Epoch → ℕ → ℕ → Type 0
IsPlaceSteady p lo hi = (a : ℕ) (v : Dynamic) → a < 2 → slice_get (cells_of p) a ≡ Some (cells.Dyn v) → IsLinear v lo hi
