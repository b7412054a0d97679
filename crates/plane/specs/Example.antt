-- Small histories, worked out by hand.
use Rattle.std.specs.Prelude.{◌≡◌, ℕ, ℤ, pos, negsuc, false, Option, None, Some, List, [], ◌∷◌, ◌++◌, codes}
use Rattle.motion.specs.Function.{Function, level}
use Rattle.motion.specs.declared.cell.AttrKind.TheVariants as kinds
use Rattle.motion.specs.declared.cell.Given.TheVariants as givens
use Rattle.motion.specs.Cells.{nowhere}
use Rattle.history.specs.Write.{Write, Class, Insert, Update, Remove}
use Rattle.meaning.specs.ExampleParts.{attribute, first_has, named_setting, speed, whole_units}
use Rattle.plane.specs.Recorded.{last_written, recorded}
use Rattle.plane.specs.Boxes.{Box, Grid, box_in, candidates, strip, strips_in}
use Rattle.plane.specs.Rows.{rows_in_range}

abbrev pub fuel : Function → List ℕ → ℕ → ℕ → Write
fuel f name tick n = Insert tick (codes "tank") name nowhere (named_setting (codes "fuel") (givens.Both (whole_units n) f) ∷ [])

abbrev pub tank_class : Write
tank_class = Class (codes "tank") 9 false (attribute (codes "fuel") kinds.Dyn ∷ [])

-- the fuel of one tank rises by 1 a tick from 0 on, and another has 1000
abbrev pub two_tanks : List Write
two_tanks = tank_class ∷ fuel (speed 1) (codes "a") 0 0 ∷ fuel level (codes "b") 0 1000 ∷ []

-- then the second has 6
abbrev pub refilled : List Write
refilled = two_tanks ++ Update 0 (codes "b") nowhere (named_setting (codes "fuel") (givens.Num (whole_units 6)) ∷ []) ∷ []

-- an index of their fuel from tick 0 on, by strips of 10
abbrev pub by_tens : Grid
by_tens = record { class = 0; attribute = 0; from = 0; width = whole_units 10 }

-- Three more tanks. The fuel of the first rises by 1 a tick for 600 ticks and then falls by 1 a tick, that of the second
-- rises by 1 a tick from -700 on and is written at tick 500, and the third is removed.
abbrev pub other_tanks : List Write
other_tanks =
    tank_class
    ∷ fuel (record { firsts = (whole_units 1, 600) ∷ []; last = negsuc 999 }) (codes "c") 0 0
    ∷ Insert 0 (codes "tank") (codes "d") nowhere (named_setting (codes "fuel") (givens.Both (negsuc 699999) (speed 1)) ∷ [])
    ∷ fuel level (codes "e") 0 5
    ∷ Update 500 (codes "d") nowhere (named_setting (codes "fuel") (givens.Rate (speed 1)) ∷ [])
    ∷ Remove 700 (codes "e")
    ∷ []

abbrev pub box : ℤ → ℤ → Option Box
box least greatest = Some (record { least = least; greatest = greatest })

pub record AreBoxes : Type 0 where
  pub strip_of_0 : strip (whole_units 10) (pos 0) ≡ pos 0
  pub last_of_a_strip : strip (whole_units 10) (pos 9999) ≡ pos 0
  pub first_of_a_strip : strip (whole_units 10) (pos 10000) ≡ pos 1
  pub below_0 : strip (whole_units 10) (negsuc 0) ≡ negsuc 0
  pub lowest_of_it : strip (whole_units 10) (negsuc 9999) ≡ negsuc 0
  pub next_below : strip (whole_units 10) (negsuc 10000) ≡ negsuc 1
  pub rises : box_in (recorded two_tanks) by_tens 0 0 ≡ box (pos 0) (pos 999000)
  pub rises_on : box_in (recorded two_tanks) by_tens 0 1 ≡ box (pos 1000000) (pos 1999000)
  pub stands : box_in (recorded two_tanks) by_tens 1 63 ≡ box (whole_units 1000) (whole_units 1000)
  pub strips : strips_in (recorded two_tanks) by_tens 0 0 ≡ Some (record { first = pos 0; last = pos 99 })
  pub turns : box_in (recorded other_tanks) by_tens 0 0 ≡ box (pos 0) (whole_units 600)
  pub written_within : box_in (recorded other_tanks) by_tens 1 0 ≡ box (negsuc 199999) (whole_units 299)
  pub written_at : last_written other_tanks (codes "d") ≡ 500
  pub removed : box_in (recorded other_tanks) by_tens 2 0 ≡ None
  pub later_slice : box_in (recorded other_tanks) (record by_tens { from = 500 }) 1 0 ≡ box (negsuc 199999) (whole_units 799)

pub record AreCandidates : Type 0 where
  pub first_alone : candidates (recorded two_tanks) by_tens (whole_units 5) (whole_units 8) 0 20 ≡ 0 ∷ []
  pub both : candidates (recorded refilled) by_tens (whole_units 5) (whole_units 8) 0 20 ≡ 0 ∷ 1 ∷ []
  pub wrong_order : candidates (recorded refilled) by_tens (whole_units 8) (whole_units 5) 0 20 ≡ []
  -- the first has the value at tick 500
  pub at_another_tick : candidates (recorded two_tanks) by_tens (whole_units 500) (whole_units 500) 0 20 ≡ 0 ∷ []
  pub in_another_slice : candidates (recorded refilled) by_tens (whole_units 1500) (whole_units 1500) 0 999 ≡ []
  pub in_a_slice_that_is_met : candidates (recorded refilled) by_tens (whole_units 1500) (whole_units 1500) 990 1000 ≡ 0 ∷ []
  -- 6 and 9 lie in one strip
  pub by_strips : candidates (recorded refilled) by_tens (whole_units 9) (whole_units 9) 1000 1999 ≡ 1 ∷ []

pub record AreRowsInRange : Type 0 where
  pub first_alone : rows_in_range (recorded two_tanks).history 0 0 (whole_units 5) (whole_units 8) 0 20 ≡ first_has ((5, 8) ∷ [])
  pub both : rows_in_range (recorded refilled).history 0 0 (whole_units 5) (whole_units 8) 0 20
      ≡ first_has ((5, 8) ∷ []) ++ record { key = 1 ∷ []; runs = (0, 20) ∷ [] } ∷ []
  pub wrong_order : rows_in_range (recorded refilled).history 0 0 (whole_units 8) (whole_units 5) 0 20 ≡ []
  pub twice : rows_in_range (recorded other_tanks).history 0 0 (whole_units 599) (whole_units 700) 590 610 ≡ first_has ((599, 601) ∷ [])
