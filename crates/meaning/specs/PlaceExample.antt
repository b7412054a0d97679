-- Regions, distances and circles, worked out by hand.
use Rattle.std.specs.Prelude.{◌≡◌, ℤ, pos, negsuc, true, Some, [], ◌∷◌, codes}
use Rattle.case_table.specs.declared.compare.Op.{Op}
use Rattle.case_table.specs.declared.compare.Op.TheVariants.{Eq, Gt, Le, Ne}
use Rattle.motion.specs.Function.{level}
use Rattle.motion.specs.declared.cell.Place.{Place}
use Rattle.motion.specs.Cells.{nowhere}
use Rattle.history.specs.Write.{Class, Insert, Remove}
use Rattle.history.specs.World.{World}
use Rattle.formula_shape.specs.Shape as shapes
use Rattle.formula.specs.declared.tree.RAtom.TheVariants as atoms
use Rattle.formula.specs.Tree.{ResolvedQuery, ResolvedTree}
use Rattle.meaning.specs.Answer.{answer}
use Rattle.meaning.specs.ExampleParts.{car, car_class, car_query, first_has, moving_along, pairs_query, post_class, speed, standing_at, whole_units, world_with_square}

-- a car that moves along x, by such legs
abbrev pub one_car : Place → World
one_car place = world_with_square (car_class ∷ car place ∷ [])

abbrev pub inside : ResolvedTree
inside = shapes.Atom (atoms.Inside 0 0)

abbrev pub outside : ResolvedTree
outside = shapes.Atom (atoms.Outside 0 0)

-- 2 units a tick for 6 ticks, and then at rest
abbrev pub halting : Place
halting = moving_along (record { firsts = (whole_units 2, 6) ∷ []; last = pos 0 })

-- RETRIEVE o FROM car o,post n WHERE DIST(o,n) op c
abbrev pub distance_query : Op → ℤ → ResolvedQuery
distance_query op c = record { targets = 0 ∷ []; classes = 0 ∷ 1 ∷ []; formula = shapes.Atom (atoms.Dist 0 1 op c) }

-- a car and a post
abbrev pub car_and_post : Place → Place → World
car_and_post place post = world_with_square (car_class ∷ post_class ∷ car place ∷ Insert 0 (codes "post") (codes "b") post [] ∷ [])

-- a car that passes by, from (0,y) along x
abbrev pub passing : ℤ → ℤ → Place
passing x y = record { at = Some (record { x = x; y = y }); moving = Some (speed 1, level) }

-- a car that passes by a post, 3 units from it at tick 10 where it begins at 0
abbrev pub by_the_post : ℤ → World
by_the_post x = car_and_post (passing x (pos 3000)) (standing_at 10 0)

-- a car and a post at one place
abbrev pub together : World
together = car_and_post nowhere nowhere

-- RETRIEVE n,o FROM car o,post n WHERE DIST(o,n) = 0
abbrev pub other_order : ResolvedQuery
other_order = record {
  targets = 1 ∷ 0 ∷ [];
  classes = 0 ∷ 1 ∷ [];
  formula = shapes.Atom (atoms.Dist 0 1 Eq (pos 0));
}

-- a car that is removed while it is inside
abbrev pub gone : World
gone = world_with_square (car_class ∷ car (moving_along (speed 1)) ∷ Remove 15 (codes "a") ∷ [])

-- three objects, each of a class of its own, and whether they fit a circle of radius r
abbrev pub three_objects : World
three_objects =
    world_with_square
    (Class (codes "pa") 1 true []
    ∷ Class (codes "pb") 1 true []
    ∷ Class (codes "pc") 1 true []
    ∷ Insert 0 (codes "pa") (codes "p") nowhere []
    ∷ Insert 0 (codes "pb") (codes "q") (standing_at 6 0) []
    ∷ Insert 0 (codes "pc") (codes "r") (standing_at 3 5) []
    ∷ [])

abbrev pub circle_query : ℤ → ResolvedQuery
circle_query r =
    let circle = shapes.Atom (atoms.Sphere r (0 ∷ 1 ∷ 2 ∷ [])) in
    record { targets = 0 ∷ []; classes = 0 ∷ 1 ∷ 2 ∷ []; formula = circle }

pub record AnswersByPlace : Type 0 where
  pub drives_through : answer (one_car (moving_along (speed 1))) (car_query inside) 0 30 ≡ first_has ((10, 20) ∷ [])
  pub is_outside_else : answer (one_car (moving_along (speed 1))) (car_query outside) 0 30 ≡ first_has ((0, 9) ∷ (21, 30) ∷ [])
  pub halts_within : answer (one_car halting) (car_query inside) 0 30 ≡ first_has ((5, 30) ∷ [])
  pub jumps_over : answer (one_car (moving_along (speed 21))) (car_query inside) 0 30 ≡ []
  pub is_not_outside_once_removed : answer gone (car_query (shapes.Eventually outside)) 0 30 ≡ first_has ((0, 9) ∷ [])
  pub no_such_region : answer (one_car (moving_along (speed 1))) (car_query (shapes.Atom (atoms.Inside 0 1))) 0 9 ≡ []
  pub comes_near : answer (by_the_post (pos 0)) (distance_query Le (whole_units 3)) 0 20 ≡ first_has ((10, 10) ∷ [])
  pub not_near_enough : answer (by_the_post (pos 500)) (distance_query Le (whole_units 3)) 0 20 ≡ []
  pub is_not_so_far : answer (car_and_post (moving_along (speed 1)) (standing_at 5 0)) (distance_query Ne (whole_units 3)) 0 10
      ≡ first_has ((0, 1) ∷ (3, 7) ∷ (9, 10) ∷ [])
  pub farther_than_a_negative : answer together (distance_query Gt (negsuc 999)) 0 1 ≡ first_has ((0, 1) ∷ [])
  pub never_below_a_negative : answer together (distance_query Le (negsuc 999)) 0 1 ≡ []
  pub targets_in_their_order : answer together other_order 0 5 ≡ record { key = 1 ∷ 0 ∷ []; runs = (0, 5) ∷ [] } ∷ []
  pub fits_the_circle : answer three_objects (circle_query (pos 3400)) 0 0 ≡ first_has ((0, 0) ∷ [])
  pub too_small_a_circle : answer three_objects (circle_query (pos 3399)) 0 0 ≡ []
  pub one_object_twice : answer (one_car nowhere) (pairs_query (shapes.Atom (atoms.Dist 0 1 Eq (pos 0)))) 0 5
      ≡ record { key = 0 ∷ 0 ∷ []; runs = (0, 5) ∷ [] } ∷ []
