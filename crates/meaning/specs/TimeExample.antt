-- Terms and temporal operators, asked of one car or one tank, worked out by hand.
use Rattle.std.specs.Prelude.{◌≡◌, ℕ, pos, false, true, List, [], ◌∷◌, codes}
use Rattle.case_table.specs.declared.compare.Op.TheVariants.{Eq, Ge, Le, Lt, Ne}
use Rattle.fixed_point.specs.declared.variants.BoundForm.TheVariants as bounds
use Rattle.fixed_point.specs.declared.variants.SubName.{SubName}
use Rattle.fixed_point.specs.declared.variants.SubName.TheVariants as subs
use Rattle.fixed_point.specs.declared.variants.UntilForm.TheVariants as untils
use Rattle.motion.specs.declared.cell.AttrKind.TheVariants as kinds
use Rattle.motion.specs.declared.cell.Given.TheVariants as givens
use Rattle.motion.specs.Cells.{nowhere}
use Rattle.history.specs.Write.{Class, Insert, Update}
use Rattle.history.specs.World.{World}
use Rattle.formula_shape.specs.Shape as shapes
use Rattle.formula.specs.declared.tree.RTerm.{RTerm}
use Rattle.formula.specs.declared.tree.RUnit.TheVariants as units
use Rattle.formula.specs.Example.{minus_factor, plus_factor, times_factor}
use Rattle.formula.specs.Tree.{ResolvedTree}
use Rattle.meaning.specs.Answer.{Row, answer}
use Rattle.meaning.specs.ExampleParts.{alone, attribute, car, car_class, car_query, compare, dynamic, first_has, literal_term, moving_along, named_setting, speed, standing_at, text_attribute, time, whole_units, world_with_square}

-- a car at rest, and one that moves 2 units a tick along x
abbrev pub at_rest : World
at_rest = world_with_square (car_class ∷ car nowhere ∷ [])

abbrev pub driving_by_two : World
driving_by_two = world_with_square (car_class ∷ car (moving_along (speed 2)) ∷ [])

-- a tank with fuel that rises by 1 a tick, and a plate
abbrev pub filling : World
filling =
    world_with_square
    (Class (codes "tank") 9 false (attribute (codes "fuel") kinds.Dyn ∷ attribute (codes "plate") kinds.Text ∷ [])
    ∷ Insert 0 (codes "tank") (codes "a") nowhere
    (named_setting (codes "fuel") (givens.Both (pos 0) (speed 1)) ∷ named_setting (codes "plate") (givens.Text (codes "AB")) ∷ [])
    ∷ [])

-- a car that is updated at tick 4, and one with 4 seats
abbrev pub updated_at_four : World
updated_at_four = world_with_square (car_class ∷ car nowhere ∷ Update 4 (codes "a") (standing_at 0 0) [] ∷ [])

abbrev pub with_seats : World
with_seats =
    world_with_square
    (Class (codes "car") 9 false (attribute (codes "seats") kinds.Num ∷ [])
    ∷ Insert 0 (codes "car") (codes "a") nowhere (named_setting (codes "seats") (givens.Num (whole_units 4)) ∷ [])
    ∷ [])

abbrev pub rows_from_start : World → ℕ → ResolvedTree → List Row
rows_from_start w span f = answer w (car_query f) 0 span

-- o.x or the fuel, a part of it, the plate, and 10 more than what is bound
abbrev pub first : RTerm
first = alone (dynamic 0)

abbrev pub part_term : SubName → RTerm
part_term name = alone (units.Sub 0 0 name)

abbrev pub plate : RTerm
plate = text_attribute 1

abbrev pub literal_text : List ℕ → RTerm
literal_text bytes = alone (units.Text bytes)

abbrev pub ten_more : RTerm
ten_more = record { factors = plus_factor (units.Var 0 (pos 1001000000000000)) ∷ plus_factor (units.Literal (whole_units 10)) ∷ [] }

-- the seats, and 2 more than what is bound at first
abbrev pub seats : RTerm
seats = alone (units.Attr 0 0 (pos 1000000000000))

abbrev pub two_more : RTerm
two_more = record { factors = plus_factor (units.Var 0 (pos 1001000000000000)) ∷ plus_factor (units.Literal (whole_units 2)) ∷ [] }

-- [v <- o.x] NEXTTIME [u <- o.x] u = v + 2
abbrev pub two_further_on : ResolvedTree
two_further_on =
    shapes.Assign (0, first)
    (shapes.Next (shapes.Assign (1, first) (compare (alone (units.Var 1 (pos 1001000000000000))) Eq two_more)))

abbrev pub three_times : RTerm
three_times = record { factors = times_factor 3 (dynamic 0) ∷ [] }

abbrev pub clock_without : RTerm
clock_without = record { factors = minus_factor (dynamic 0) ∷ plus_factor units.Time ∷ [] }

-- (f OR g AND h) UNTIL (k OR l), by the clock and by the fuel
abbrev pub until_of : (RTerm → ResolvedTree) → RTerm → ResolvedTree
until_of led q =
    shapes.Until untils.Plain 0
    (shapes.Or (compare q Le (literal_term 4)) (shapes.And (compare q Ge (literal_term 6)) (compare q Le (literal_term 9))))
    (led q)

abbrev pub at_five_or_ten : RTerm → ResolvedTree
at_five_or_ten q = shapes.Or (compare q Eq (literal_term 5)) (compare q Eq (literal_term 10))

pub record AnswersByTime : Type 0 where
  pub led_by_the_clock : rows_from_start at_rest 20 (until_of at_five_or_ten (alone units.Time)) ≡ first_has ((0, 10) ∷ [])
  pub led_by_the_fuel : rows_from_start filling 20 (until_of at_five_or_ten first) ≡ first_has ((0, 10) ∷ [])
  pub always_for : rows_from_start at_rest 10 (shapes.Bounded bounds.Always 5 (time Ge 7)) ≡ first_has ((7, 10) ∷ [])
  pub next_but_for_the_last : rows_from_start at_rest 10 (shapes.Next (shapes.Truth true)) ≡ first_has ((0, 9) ∷ [])
  pub at_once : rows_from_start at_rest 0 (shapes.Truth true) ≡ first_has ((0, 0) ∷ [])
  pub none_next : rows_from_start at_rest 0 (shapes.Next (shapes.Truth true)) ≡ []
  pub eventually_of_the_clock : rows_from_start at_rest 10 (shapes.Eventually (time Eq 3)) ≡ first_has ((0, 3) ∷ [])
  pub always_of_the_clock : rows_from_start at_rest 10 (shapes.Always (time Ge 3)) ≡ first_has ((3, 10) ∷ [])
  pub after_so_many : rows_from_start at_rest 10 (shapes.Bounded bounds.After 2 (time Eq 5)) ≡ first_has ((0, 3) ∷ [])
  pub within_so_many :
      rows_from_start at_rest 10 (shapes.Until untils.Within 1 (time Le 4) (time Eq 5)) ≡ first_has ((4, 5) ∷ [])
  pub after_at_least : rows_from_start at_rest 10 (shapes.Until untils.After 2 (time Le 4) (time Eq 5)) ≡ first_has ((0, 3) ∷ [])

-- Each value that an assignment binds is that of its tick.
pub record AnswersByValue : Type 0 where
  pub ten_further_on :
      rows_from_start driving_by_two 20 (shapes.Assign (0, first) (shapes.Bounded bounds.Within 5 (compare first Ge ten_more)))
      ≡ first_has ((0, 15) ∷ [])
  pub one_within_another : rows_from_start driving_by_two 10 two_further_on ≡ first_has ((0, 9) ∷ [])
  pub by_the_slope : rows_from_start driving_by_two 1 (compare (part_term subs.Function) Eq (literal_term 2)) ≡ first_has ((0, 1) ∷ [])
  pub by_the_last_value : rows_from_start driving_by_two 1 (compare (part_term subs.Value) Eq (literal_term 0)) ≡ first_has ((0, 1) ∷ [])
  pub by_the_last_update : rows_from_start driving_by_two 1 (compare (part_term subs.UpdateTime) Lt (literal_term 1)) ≡ first_has ((0, 1) ∷ [])
  pub a_thousand_a_tick :
      rows_from_start updated_at_four 10 (compare (part_term subs.UpdateTime) Eq (literal_term 4)) ≡ first_has ((4, 10) ∷ [])
  pub by_a_number_that_stays : rows_from_start with_seats 1 (compare seats Ge (literal_term 4)) ≡ first_has ((0, 1) ∷ [])
  pub multiplied : rows_from_start driving_by_two 2 (compare three_times Ge (literal_term 7)) ≡ first_has ((2, 2) ∷ [])
  pub taken_away : rows_from_start filling 9 (compare clock_without Ne (literal_term 0)) ≡ []
  pub by_its_text : rows_from_start filling 1 (compare plate Eq (literal_text (codes "AB"))) ≡ first_has ((0, 1) ∷ [])
  pub by_another_text : rows_from_start filling 1 (compare plate Ne (literal_text (codes "AB"))) ≡ []
  pub no_text_is_below : rows_from_start filling 1 (compare (literal_text (codes "A")) Lt plate) ≡ []
  pub no_text_is_a_number : rows_from_start filling 1 (compare plate Ne (literal_term 1)) ≡ []
