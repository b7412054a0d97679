-- What a command writes, by the indexes of the attributes.
use Rattle.std.specs.Prelude.{ℕ, ◌≤◌, unsigned_abs, All, IfSome, Option, List, map}
use Rattle.std.specs.List.{filter_map, position}
use Rattle.std.specs.Option.{option_map}
use Rattle.std.specs.Str.{bytes_eq}
use Rattle.motion.specs.Cells.{fresh, IsGiven}
use Rattle.fixed_point.specs.declared.number.TheConstants.{READ_LIMIT}
use Rattle.motion.specs.declared.cell.Cell.{Cell}
use Rattle.motion.specs.declared.cell.Given.{Given}
use Rattle.motion.specs.declared.cell.NamedSet.{NamedSet}
use Rattle.motion.specs.declared.cell.Place.{Place}
use Rattle.history.specs.Write.{Attribute}

-- a setting by the index of its attribute, nothing where there is none of its name
abbrev pub setting_change : List Attribute → NamedSet → Option (ℕ × Given)
setting_change attributes set = option_map (λ index. (index, set.given)) (position (λ a. bytes_eq set.name a.name) attributes)

abbrev pub setting_changes : List Attribute → List NamedSet → List (ℕ × Given)
setting_changes attributes sets = filter_map (setting_change attributes) sets

abbrev pub fresh_cells : ℕ → List Attribute → List Cell
fresh_cells now attributes = map (λ a. fresh now a.kind) attributes

-- each number that a command gives is within 10^12 thousandths
pub record AreGiven (place : Place) (sets : List NamedSet) : Type 0 where
  pub at : IfSome place.at (λ p. (unsigned_abs p.x ≤ READ_LIMIT) × (unsigned_abs p.y ≤ READ_LIMIT))
  pub settings : All (λ set. IsGiven set.given) sets
