-- Small histories, worked out by hand.
use Rattle.std.specs.Prelude.{◌≡◌, ℕ, pos, negsuc, true, false, Option, None, Some, List, [], ◌∷◌, codes}
use Rattle.motion.specs.Function.{Function, level}
use Rattle.motion.specs.Dynamic.{Dynamic, value_at}
use Rattle.motion.specs.declared.cell.Cell.{Cell}
use Rattle.motion.specs.declared.cell.Cell.TheVariants as cells
use Rattle.motion.specs.declared.cell.Given.TheVariants as givens
use Rattle.motion.specs.declared.cell.AttrKind.TheVariants as kinds
use Rattle.motion.specs.Cells.{nowhere}
use Rattle.history.specs.Write.{Write, Class, Insert, Update, Remove}
use Rattle.history.specs.Catalog.{catalog, ids_of, names}
use Rattle.history.specs.State.{state}
use Rattle.history.specs.History.{cells_at, history}

abbrev pub falling : Function
falling = record { firsts = []; last = negsuc 499 }

-- a tank whose fuel falls, is filled at tick 4 by two updates, is removed at 6, and comes again at 8
abbrev pub refilled_tank_writes : List Write
refilled_tank_writes =
    Class (codes "tank") 9 false (record { name = codes "fuel"; kind = kinds.Dyn } ∷ [])
    ∷ Insert 0 (codes "tank") (codes "a") nowhere (record { name = codes "fuel"; given = givens.Both (pos 10000) falling } ∷ [])
    ∷ Update 4 (codes "a") nowhere (record { name = codes "fuel"; given = givens.Num (pos 50000) } ∷ [])
    ∷ Update 4 (codes "a") nowhere (record { name = codes "fuel"; given = givens.Num (pos 100000) } ∷ [])
    ∷ Remove 6 (codes "a")
    ∷ Insert 8 (codes "tank") (codes "a") nowhere []
    ∷ []

abbrev pub fuel_at : ℕ → Option (List Cell)
fuel_at t = state refilled_tank_writes (codes "a") t

abbrev pub fuel_cells : Dynamic → Option (List Cell)
fuel_cells v = Some (cells.Dyn v ∷ [])

-- the states of its ticks, one for each stretch between two writes
pub record TellsTheTank : Type 0 where
  pub inserted : fuel_at 3 ≡ fuel_cells (record { value = pos 10000; updatetime = 0; function = falling })
  pub last_of_the_tick : fuel_at 4 ≡ fuel_cells (record { value = pos 100000; updatetime = 4; function = falling })
  pub removed : fuel_at 7 ≡ None
  pub again : fuel_at 8 ≡ fuel_cells (record { value = pos 0; updatetime = 8; function = level })
  pub stranger : state refilled_tank_writes (codes "b") 3 ≡ None
  pub named_once : names (catalog refilled_tank_writes) 0 ≡ codes "a" ∷ []

-- a point object that is moved: `at` sets where it is, `move` its legs
abbrev pub moved_car_writes : List Write
moved_car_writes =
    Class (codes "car") 100 true []
    ∷ Insert 0 (codes "car") (codes "c") (record { at = Some (record { x = pos 3000; y = pos 0 }); moving = None }) []
    ∷ Update 2 (codes "c") (record { at = None; moving = Some (falling, level) }) []
    ∷ []

pub record TellsTheCar : Type 0 where
  pub stands : state moved_car_writes (codes "c") 1 ≡ Some
      (cells.Dyn (record { value = pos 3000; updatetime = 0; function = level })
      ∷ cells.Dyn (record { value = pos 0; updatetime = 0; function = level }) ∷ [])
  pub moves : state moved_car_writes (codes "c") 2 ≡ Some
      (cells.Dyn (record { value = pos 3000; updatetime = 2; function = falling })
      ∷ cells.Dyn (record { value = pos 0; updatetime = 2; function = level }) ∷ [])

-- 1 a tick for ten ticks, and then at rest
abbrev pub halting_legs : Function
halting_legs = record { firsts = (pos 1000, 10) ∷ []; last = pos 0 }

-- Two vans: `at` with `move`, a leg that ends, a static number, a text, and a setting that no attribute has.
abbrev pub van_writes : List Write
van_writes =
    Class (codes "depot") 1 false []
    ∷ Class (codes "van") 10 true (record { name = codes "seats"; kind = kinds.Num } ∷ record { name = codes "plate"; kind = kinds.Text } ∷ [])
    ∷ Insert 0 (codes "van") (codes "a") (record { at = Some (record { x = pos 7000; y = pos 1000 }); moving = Some (halting_legs, falling) })
    (record { name = codes "seats"; given = givens.Num (pos 3000) } ∷ record { name = codes "plate"; given = givens.Text (codes "AB") } ∷ [])
    ∷ Insert 2 (codes "van") (codes "b") nowhere (record { name = codes "plate"; given = givens.Text (codes "CD") } ∷ [])
    ∷ Update 4 (codes "a") (record { at = Some (record { x = pos 100000; y = pos 2000 }); moving = None })
    (record { name = codes "wheels"; given = givens.Num (pos 6000) } ∷ [])
    ∷ []

-- the position of a van on its way, from the update on: 6 ticks of the leg are left
abbrev pub on_the_way : Dynamic
on_the_way = record { value = pos 100000; updatetime = 4; function = record { firsts = (pos 1000, 6) ∷ []; last = pos 0 } }

pub record TellsTheVans : Type 0 where
  pub placed : state van_writes (codes "a") 3 ≡ Some
      (cells.Dyn (record { value = pos 7000; updatetime = 0; function = halting_legs })
      ∷ cells.Dyn (record { value = pos 1000; updatetime = 0; function = falling })
      ∷ cells.Num (pos 3000) ∷ cells.Text (codes "AB") ∷ [])
  pub shifted : state van_writes (codes "a") 4 ≡ Some
      (cells.Dyn on_the_way ∷ cells.Dyn (record { value = pos 2000; updatetime = 4; function = falling })
      ∷ cells.Num (pos 3000) ∷ cells.Text (codes "AB") ∷ [])
  pub leg : value_at on_the_way 9 ≡ pos 105000
  pub leg_ends : value_at on_the_way 10 ≡ pos 106000
  pub rests : value_at on_the_way 20 ≡ pos 106000
  pub not_yet : state van_writes (codes "b") 1 ≡ None
  pub other : cells_at (history van_writes) 1 4 ≡ Some
      (cells.Dyn (record { value = pos 0; updatetime = 2; function = level })
      ∷ cells.Dyn (record { value = pos 0; updatetime = 2; function = level })
      ∷ cells.Num (pos 0) ∷ cells.Text (codes "CD") ∷ [])
  pub numbers : ids_of (catalog van_writes) 1 ≡ 0 ∷ 1 ∷ []
  pub no_third : cells_at (history van_writes) 2 4 ≡ None
