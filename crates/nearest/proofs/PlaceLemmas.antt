-- Where an object is, by its cells and by its timeline.
use Rattle.std.proofs.Common.{◌≡◌, ℕ, ◌-◌, ◌≤◌, Option, None, Some, List, refl}
use Rattle.std.specs.Prelude.{option_and_then, slice_get, unwrap_or, []}
use Rattle.std.specs.Option.{IfNone, IfSome, option_map}
use Rattle.linear_crossing.specs.declared.quad.Line.{Line}
use Rattle.linear_crossing.specs.Moving.{position_after}
use Rattle.fixed_point.specs.declared.number.Point.{Point}
use Rattle.motion.specs.Timeline.{Epoch, epoch_at, state_at}
use Rattle.motion.specs.declared.cell.Cell.{Cell}
use Rattle.motion.specs.declared.cell.Cell.TheVariants as cells
use Rattle.motion.specs.Cells.{dynamic_of}
use Rattle.courses.specs.Places as moving
use Rattle.meaning.specs.Atom as meant

same_dynamic : (cell : Option Cell) → option_and_then dynamic_of cell ≡ option_and_then dynamic_of cell
same_dynamic None = refl
same_dynamic (Some (cells.Num n)) = refl
same_dynamic (Some (cells.Text s)) = refl
same_dynamic (Some (cells.Dyn v)) = refl

dynamic_there : (there : Option (List Cell)) (a : ℕ) → meant.dynamic_in there a ≡ option_and_then dynamic_of (slice_get (unwrap_or there []) a)
dynamic_there None a = refl
dynamic_there (Some cells) a = same_dynamic (slice_get cells a)

place_by_epoch : (epoch : Option Epoch) (t : ℕ) → meant.position_in t (option_and_then (λ p. p.cells) epoch) ≡ option_and_then (λ p. moving.place_of p t) epoch
place_by_epoch None t = refl
place_by_epoch (Some p) t = λ i. moving.place_by (dynamic_there p.cells 0 i) (dynamic_there p.cells 1 i) t

-- the place by the cells of a timeline is that by the timeline
pub place_by_state : (epochs : List Epoch) (t : ℕ) → meant.position_in t (state_at epochs t) ≡ moving.place_at epochs t
place_by_state epochs t = place_by_epoch (epoch_at epochs t) t

-- where the line is told, the places are those along it, and elsewhere there is none
pub line_places : (lo hi : ℕ) (line : Option Line) (place : ℕ → Option Point) →
    IfSome line (λ l. (t : ℕ) → lo ≤ t → t ≤ hi → place t ≡ Some (position_after l (t - lo))) → IfNone line ((t : ℕ) → place t ≡ None) →
    (t : ℕ) → lo ≤ t → t ≤ hi → place t ≡ option_map (λ l. position_after l (t - lo)) line
line_places lo hi None place along none t from up_to = none t
line_places lo hi (Some l) place along none t from up_to = along t from up_to
