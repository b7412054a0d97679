-- Queries that stay while the clock goes on and objects are written, worked out by hand.
use Rattle.std.specs.Prelude.{◌≡◌, ℕ, pos, Bool, false, true, not, List, [], ◌∷◌, ◌++◌, codes}
use Rattle.case_table.specs.declared.compare.Op.TheVariants.{Ge, Le}
use Rattle.fixed_point.specs.declared.variants.BoundForm.TheVariants as bounds
use Rattle.fixed_point.specs.declared.variants.SubName.TheVariants as subs
use Rattle.motion.specs.Function.{Function}
use Rattle.motion.specs.declared.cell.AttrKind.TheVariants as kinds
use Rattle.motion.specs.declared.cell.Given.TheVariants as givens
use Rattle.motion.specs.Cells.{nowhere}
use Rattle.history.specs.Write.{Write, Class, Insert, Remove, Update}
use Rattle.history.specs.World.{World}
use Rattle.formula_shape.specs.Shape as shapes
use Rattle.formula.specs.declared.tree.RAtom.TheVariants as atoms
use Rattle.formula.specs.declared.tree.RTerm.{RTerm}
use Rattle.formula.specs.declared.tree.RUnit.TheVariants as units
use Rattle.formula.specs.Example.{times_factor}
use Rattle.formula.specs.declared.kind.QueryKind.TheVariants.{Keep, Watch}
use Rattle.formula.specs.Tree.{ResolvedQuery}
use Rattle.meaning.specs.Answer.{answer}
use Rattle.meaning.specs.ExampleParts.{alone, attribute, car, car_class, car_query, compare, dynamic, first_has, literal_term, moving_along, named_setting, pairs_query, speed, standing_at, whole_units, world_with_square}
use Rattle.meaning.specs.Registered.{Change, RegisteredQuery, changes_of_tick, changes_of_write, registered_answer}

-- from tick 0 on for so many ticks
abbrev pub watched_query : ℕ → ResolvedQuery → RegisteredQuery
watched_query span q = record { kind = Watch; query = q; entry = 0; expiry = span }

abbrev pub kept_query : ℕ → ResolvedQuery → RegisteredQuery
kept_query span q = record { kind = Keep; query = q; entry = 0; expiry = span }

-- the slope of o.x, and the query whether it will be at least doubled within 10 ticks
abbrev pub slope_of_x : RTerm
slope_of_x = alone (units.Sub 0 0 subs.Function)

abbrev pub doubled : ResolvedQuery
doubled =
    let twice : RTerm = record { factors = times_factor 2 (units.Var 0 (pos 1000000)) ∷ [] } in
    car_query (shapes.Assign (0, slope_of_x) (shapes.Bounded bounds.Within 10 (compare slope_of_x Ge twice)))

abbrev pub faster : ℕ → ℕ → Write
faster tick n = Update tick (codes "a") (moving_along (speed n)) []

-- a car at 5 units a tick, at 7 from tick 1 on, and at 10 from tick 2 on
abbrev pub at_five : List Write
at_five = car_class ∷ car (moving_along (speed 5)) ∷ []

abbrev pub at_seven : List Write
at_seven = at_five ++ faster 1 7 ∷ []

abbrev pub at_ten : List Write
at_ten = at_seven ++ faster 2 10 ∷ []

-- the same speeds as the legs of one move
abbrev pub speeding_up : Function
speeding_up = record { firsts = (whole_units 5, 1) ∷ (whole_units 7, 1) ∷ []; last = whole_units 10 }

-- Only at tick 0 was the speed a half of what it came to be, which wasn't so before the second update: what is
-- recorded stays, and what comes after it is judged anew.
pub record AnswersTheDoubledSpeed : Type 0 where
  pub not_before : registered_answer (world_with_square at_seven) (kept_query 20 doubled) 1 ≡ []
  pub no_change_at_first : changes_of_write (world_with_square at_five) (world_with_square at_seven) (kept_query 20 doubled) 1 ≡ []
  pub gains_the_past : changes_of_write (world_with_square at_seven) (world_with_square at_ten) (kept_query 20 doubled) 2
      ≡ record { key = 0 ∷ []; gained = (0, 0) ∷ []; lost = []; enters = false; leaves = false } ∷ []
  pub of_a_kept_one : registered_answer (world_with_square at_ten) (kept_query 20 doubled) 2 ≡ first_has ((0, 0) ∷ [])
  pub of_a_watched_one : registered_answer (world_with_square at_ten) (watched_query 20 doubled) 2 ≡ []
  pub unseen_by_a_watched_one : changes_of_write (world_with_square at_seven) (world_with_square at_ten) (watched_query 20 doubled) 2 ≡ []
  pub planned_by_legs :
      answer (world_with_square (car_class ∷ car (moving_along speeding_up) ∷ [])) doubled 0 20
      ≡ first_has ((0, 0) ∷ [])

-- a car at rest, not inside, that is removed at tick 4 and inserted again at tick 6
abbrev pub not_inside : ResolvedQuery
not_inside = car_query (shapes.Not (shapes.Atom (atoms.Inside 0 0)))

abbrev pub present : List Write
present = car_class ∷ car nowhere ∷ []

abbrev pub removed : List Write
removed = present ++ Remove 4 (codes "a") ∷ []

abbrev pub again : List Write
again = removed ++ Insert 6 (codes "car") (codes "a") nowhere [] ∷ []

pub record AnswersTheRemovedCar : Type 0 where
  pub at_first : registered_answer (world_with_square present) (kept_query 10 not_inside) 0 ≡ first_has ((0, 10) ∷ [])
  pub joined_at_the_clock : registered_answer (world_with_square present) (kept_query 10 not_inside) 4 ≡ first_has ((0, 10) ∷ [])
  pub loses : changes_of_write (world_with_square present) (world_with_square removed) (kept_query 10 not_inside) 4
      ≡ record { key = 0 ∷ []; gained = []; lost = (4, 10) ∷ []; enters = false; leaves = true } ∷ []
  pub past_alone : registered_answer (world_with_square removed) (kept_query 10 not_inside) 6 ≡ first_has ((0, 3) ∷ [])
  pub gains : changes_of_write (world_with_square removed) (world_with_square again) (kept_query 10 not_inside) 6
      ≡ record { key = 0 ∷ []; gained = (6, 10) ∷ []; lost = []; enters = true; leaves = false } ∷ []
  pub both_stretches : registered_answer (world_with_square again) (kept_query 10 not_inside) 6 ≡ first_has ((0, 3) ∷ (6, 10) ∷ [])

abbrev pub ten_ticks : Function
ten_ticks = record { firsts = (whole_units 1, 10) ∷ []; last = pos 0 }

-- a tank whose fuel rises by 1 for 10 ticks, and is set to 100 at tick 4: 6 ticks of the leg are left
abbrev pub refilled_tank : World
refilled_tank =
    world_with_square
    (Class (codes "tank") 1 false (attribute (codes "fuel") kinds.Dyn ∷ [])
    ∷ Insert 0 (codes "tank") (codes "a") nowhere (named_setting (codes "fuel") (givens.Both (pos 0) ten_ticks) ∷ [])
    ∷ Update 4 (codes "a") nowhere (named_setting (codes "fuel") (givens.Num (whole_units 100)) ∷ [])
    ∷ [])

abbrev pub inside_query : ResolvedQuery
inside_query = car_query (shapes.Atom (atoms.Inside 0 0))

abbrev pub at_one : List Write
at_one = present ++ Update 0 (codes "a") (moving_along (speed 1)) [] ∷ []

abbrev pub at_two : List Write
at_two = at_one ++ Update 0 (codes "a") (moving_along (speed 2)) [] ∷ []

-- two cars at a distance of 1 unit
abbrev pub cars_nearby : ResolvedQuery
cars_nearby = pairs_query (shapes.Atom (atoms.Dist 0 1 Le (whole_units 1)))

abbrev pub with_another : List Write
with_another = present ++ Insert 0 (codes "car") (codes "b") (standing_at 0 1) [] ∷ []

abbrev pub newcomer_change : ℕ → ℕ → Change
newcomer_change v u = record { key = v ∷ u ∷ []; gained = (0, 5) ∷ []; lost = []; enters = true; leaves = false }

abbrev pub passage : Bool → Change
passage enters = record { key = 0 ∷ []; gained = []; lost = []; enters = enters; leaves = not enters }

pub record AnswersAsTimePasses : Type 0 where
  pub goes_on_with_its_leg : answer refilled_tank (car_query (compare (alone (dynamic 0)) Ge (literal_term 106))) 4 24
      ≡ first_has ((10, 24) ∷ [])
  pub begins_to_move : changes_of_write (world_with_square present) (world_with_square at_one) (watched_query 30 inside_query) 0
      ≡ record { key = 0 ∷ []; gained = (10, 20) ∷ []; lost = []; enters = false; leaves = false } ∷ []
  pub moves_faster : changes_of_write (world_with_square at_one) (world_with_square at_two) (watched_query 30 inside_query) 0
      ≡ record { key = 0 ∷ []; gained = (5, 9) ∷ []; lost = (11, 20) ∷ []; enters = false; leaves = false } ∷ []
  pub a_new_object : changes_of_write (world_with_square present) (world_with_square with_another) (watched_query 5 cars_nearby) 0
      ≡ newcomer_change 0 1 ∷ newcomer_change 1 0 ∷ newcomer_change 1 1 ∷ []
  pub enters : changes_of_tick (world_with_square at_one) (watched_query 30 inside_query) 9 10 ≡ passage true ∷ []
  pub stays : changes_of_tick (world_with_square at_one) (watched_query 30 inside_query) 10 20 ≡ []
  pub leaves : changes_of_tick (world_with_square at_one) (watched_query 30 inside_query) 20 21 ≡ passage false ∷ []
  pub passes_through : changes_of_tick (world_with_square at_one) (watched_query 30 inside_query) 9 21 ≡ []
  pub expires : changes_of_tick (world_with_square at_one) (watched_query 15 inside_query) 15 16 ≡ passage false ∷ []
  pub from_now_on : registered_answer (world_with_square at_one) (watched_query 30 inside_query) 15 ≡ first_has ((15, 20) ∷ [])
  pub watched_no_more : registered_answer (world_with_square at_one) (watched_query 15 inside_query) 16 ≡ []
