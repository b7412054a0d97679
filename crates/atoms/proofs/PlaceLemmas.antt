-- Where an object is while an epoch is in force.
use Rattle.std.proofs.Common.{◌≡◌, ℕ, ℤ, false, ◌-◌, ◌≤◌, Option, None, Some, List, refl, ap, ◌∙◌}
use Rattle.std.specs.Prelude.{option_and_then, slice_get, unwrap_or, []}
use Rattle.std.specs.Option.{IfNone, IfSome, option_map}
use Rattle.case_table.specs.declared.compare.Op.{Op}
use Rattle.linear_crossing.specs.declared.quad.Line.{Line}
use Rattle.linear_crossing.specs.Moving.{position_after}
use Rattle.fixed_point.specs.declared.number.Point.{Point}
use Rattle.motion.specs.Timeline.{Epoch}
use Rattle.motion.specs.declared.cell.Cell.{Cell}
use Rattle.motion.specs.declared.cell.Cell.TheVariants as cells
use Rattle.motion.specs.Cells.{dynamic_of}
use Rattle.courses.specs.Places as moving
use Rattle.meaning.specs.Atom as meant

same_dynamic : (cell : Option Cell) → option_and_then dynamic_of cell ≡ option_and_then dynamic_of cell
same_dynamic None = refl
same_dynamic (Some (cells.Num n)) = refl
same_dynamic (Some (cells.Text s)) = refl
same_dynamic (Some (cells.Dyn v)) = refl

dynamic_there : (there : Option (List Cell)) (a : ℕ) → meant.dynamic_in there a ≡ option_and_then dynamic_of (slice_get (unwrap_or there []) a)
dynamic_there None a = refl
dynamic_there (Some cells) a = same_dynamic (slice_get cells a)

-- the place by an epoch is that by its cells
pub same_place : (p : Epoch) (t : ℕ) → meant.position_in t p.cells ≡ moving.place_of p t
same_place p t = λ i. moving.place_by (dynamic_there p.cells 0 i) (dynamic_there p.cells 1 i) t

pub line_places : (lo hi : ℕ) (line : Option Line) (place : ℕ → Option Point) →
    IfSome line (λ l. (t : ℕ) → lo ≤ t → t ≤ hi → place t ≡ Some (position_after l (t - lo))) → IfNone line ((t : ℕ) → place t ≡ None) →
    (t : ℕ) → lo ≤ t → t ≤ hi → place t ≡ option_map (λ l. position_after l (t - lo)) line
line_places lo hi None place along none t from up_to = none t
line_places lo hi (Some l) place along none t from up_to = along t from up_to

pub no_place : (lo t : ℕ) (line : Option Line) (place : Option Point) → line ≡ None → place ≡ option_map (λ l. position_after l (t - lo)) line → place ≡ None
no_place lo t line place none is = is ∙ ap (λ (o : Option Line). option_map (λ l. position_after l (t - lo)) o) none

pub no_distance : (op : Op) (c : ℤ) (from : Option Point) → meant.distance_holds op c from None ≡ false
no_distance op c None = refl
no_distance op c (Some p) = refl
