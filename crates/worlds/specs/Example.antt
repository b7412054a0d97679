-- What is told where positions may be off, worked out by hand.
use Rattle.std.specs.Prelude.{◌≡◌, ℕ, pos, negsuc, Bool, true, false, Some, None, List, [], ◌∷◌, codes, map}
use Rattle.case_table.specs.declared.compare.Op.TheVariants.{Lt, Le, Eq, Ne, Ge, Gt}
use Rattle.history.specs.Write.{Insert, Remove}
use Rattle.history.specs.World.{World, world_of}
use Rattle.geometry.specs.Region.{Region}
use Rattle.formula_shape.specs.Shape as shapes
use Rattle.formula.specs.declared.tree.RAtom.TheVariants as atoms
use Rattle.formula.specs.Tree.{ResolvedQuery, ResolvedTree}
use Rattle.meaning.specs.Answer.{Row, answer, answer_where}
use Rattle.meaning.specs.Binding.{holds_by}
use Rattle.meaning.specs.ExampleParts.{alone, at_point, car, car_class, car_query, compare, dynamic, first_has, literal_term, moving_along, pairs_query, post_class, speed, standing_at, whole_units, world_with_square}
use Rattle.meaning.specs.PlaceExample.{by_the_post, circle_query, distance_query, gone, inside, one_car, outside, three_objects}
use Rattle.worlds.specs.Apart.{distance_compares_by, possibly_compares, surely_compares}
use Rattle.worlds.specs.Blurred.{blurred}
use Rattle.worlds.specs.Moved.{Move, in_world, is_world}
use Rattle.motion.specs.Cells.{nowhere}

-- ---- comparisons

-- neither surely nor possibly, possibly alone, and both
abbrev pub never : Bool × Bool
never = (false, false)

abbrev pub maybe : Bool × Bool
maybe = (false, true)

abbrev pub always : Bool × Bool
always = (true, true)

-- how a number from low to high compares with x, by <, <=, =, !=, >= and >
abbrev pub all_comparisons : ℕ → ℕ → ℕ → List (Bool × Bool)
all_comparisons low high x =
    map
    (λ op. (surely_compares op (pos low) (pos high) (pos x), possibly_compares op (pos low) (pos high) (pos x)))
    (Lt ∷ Le ∷ Eq ∷ Ne ∷ Ge ∷ Gt ∷ [])

pub record Compares : Type 0 where
  pub below : all_comparisons 4 16 3 ≡ never ∷ never ∷ never ∷ always ∷ always ∷ always ∷ []
  pub at_the_least : all_comparisons 4 16 4 ≡ never ∷ maybe ∷ maybe ∷ maybe ∷ always ∷ maybe ∷ []
  pub between : all_comparisons 4 16 9 ≡ maybe ∷ maybe ∷ maybe ∷ maybe ∷ maybe ∷ maybe ∷ []
  pub at_the_greatest : all_comparisons 4 16 16 ≡ maybe ∷ always ∷ maybe ∷ maybe ∷ maybe ∷ never ∷ []
  pub above : all_comparisons 4 16 17 ≡ always ∷ always ∷ never ∷ always ∷ never ∷ never ∷ []
  pub exactly : all_comparisons 9 9 9 ≡ never ∷ always ∷ always ∷ never ∷ always ∷ never ∷ []
  pub above_a_negative : distance_compares_by surely_compares Gt (negsuc 999) (pos 0) (pos 4) ≡ true
  pub not_below_a_negative : distance_compares_by possibly_compares Le (negsuc 999) (pos 0) (pos 4) ≡ false

-- ---- answers up to a tick, by an error in thousandths

abbrev pub sure_rows : ℕ → World → ResolvedQuery → ℕ → List Row
sure_rows error w q e = answer_where w q (holds_by (blurred true error w) w q e) 0 e

abbrev pub possible_rows : ℕ → World → ResolvedQuery → ℕ → List Row
possible_rows error w q e = answer_where w q (holds_by (blurred false error w) w q e) 0 e

-- a car that drives through the region, which is 10 to 20 along x
abbrev pub driving : World
driving = one_car (moving_along (speed 1))

pub record DrivesThrough : Type 0 where
  pub surely_inside : sure_rows 1000 driving (car_query inside) 30 ≡ first_has ((11, 19) ∷ [])
  pub possibly_inside : possible_rows 1000 driving (car_query inside) 30 ≡ first_has ((9, 21) ∷ [])
  pub surely_outside : sure_rows 1000 driving (car_query outside) 30 ≡ first_has ((0, 8) ∷ (22, 30) ∷ [])
  pub possibly_outside : possible_rows 1000 driving (car_query outside) 30 ≡ first_has ((0, 10) ∷ (20, 30) ∷ [])
  pub too_wide : sure_rows 5001 driving (car_query inside) 30 ≡ []
  pub surely_later : sure_rows 1000 driving (car_query (shapes.Eventually inside)) 30 ≡ first_has ((0, 19) ∷ [])
  pub without_error : sure_rows 0 driving (car_query inside) 30 ≡ answer driving (car_query inside) 0 30
  pub not_surely : sure_rows 1000 driving (car_query (shapes.Not inside)) 30 ≡ first_has ((0, 10) ∷ (20, 30) ∷ [])
  pub no_such_region : possible_rows 1000 driving (car_query (shapes.Atom (atoms.Inside 0 1))) 9 ≡ []
  pub removed : sure_rows 1000 gone (car_query outside) 30 ≡ first_has ((0, 8) ∷ [])
  pub possibly_removed : possible_rows 1000 gone (car_query outside) 30 ≡ first_has ((0, 10) ∷ [])

-- ---- distances

-- a car and a post, 6 units apart until the post is removed
abbrev pub apart : World
apart = world_with_square (car_class ∷ post_class ∷ car nowhere ∷ Insert 0 (codes "post") (codes "b") (standing_at 6 0) [] ∷ Remove 5 (codes "b") ∷ [])

pub record PassesBy : Type 0 where
  pub possibly_near : possible_rows 500 (by_the_post (pos 0)) (distance_query Le (whole_units 3)) 20 ≡ first_has ((7, 13) ∷ [])
  pub not_surely_near : sure_rows 500 (by_the_post (pos 0)) (distance_query Le (whole_units 3)) 20 ≡ []
  pub surely_nearer_than_5 : sure_rows 500 (by_the_post (pos 0)) (distance_query Lt (whole_units 5)) 20 ≡ first_has ((9, 11) ∷ [])
  pub surely_not_at : sure_rows 1000 apart (distance_query Ne (whole_units 9)) 9 ≡ first_has ((0, 4) ∷ [])
  pub possibly_at : possible_rows 1000 apart (distance_query Eq (whole_units 4)) 9 ≡ first_has ((0, 4) ∷ [])
  pub not_possibly_at : possible_rows 1000 apart (distance_query Eq (whole_units 9)) 9 ≡ []
  pub no_other : sure_rows 9000 (one_car nowhere) (pairs_query (shapes.Atom (atoms.Dist 0 1 Eq (pos 0)))) 5
      ≡ record { key = 0 ∷ 0 ∷ []; runs = (0, 5) ∷ [] } ∷ []
  pub never_apart : possible_rows 9000 (one_car nowhere) (pairs_query (shapes.Atom (atoms.Dist 0 1 Ne (pos 0)))) 5 ≡ []
  pub as_ever_in_a_circle : sure_rows 1000 three_objects (circle_query (pos 3400)) 0 ≡ first_has ((0, 0) ∷ [])

-- ---- a sharp corner

abbrev pub triangle : Region
triangle = record { name = codes "T"; points = at_point 0 0 ∷ at_point 10 0 ∷ at_point 0 10 ∷ [] }

-- a car that stands beyond the triangle's right corner, at (12,-1)
abbrev pub beyond : World
beyond =
    world_of
    (car_class ∷ car (record { at = Some (record { x = whole_units 12; y = negsuc 999 }); moving = None }) ∷ [])
    (triangle ∷ [])

pub record StandsBeyond : Type 0 where
  pub is_not_inside : answer beyond (car_query inside) 0 0 ≡ []
  pub as_if_possible : possible_rows 1000 beyond (car_query inside) 0 ≡ first_has ((0, 0) ∷ [])
  pub not_surely : sure_rows 1000 beyond (car_query outside) 0 ≡ []

-- ---- a world

-- the car is one unit further at tick 9, and one unit back at tick 10; what is said of tick 9 once more doesn't count
abbrev pub jumping : List Move
jumping =
    record { object = 0; tick = 9; dx = pos 1000; dy = pos 0 }
    ∷ record { object = 0; tick = 10; dx = negsuc 999; dy = negsuc 999 }
    ∷ record { object = 0; tick = 9; dx = pos 0; dy = pos 1000 }
    ∷ record { object = 1; tick = 12; dx = pos 1000; dy = pos 0 }
    ∷ []

abbrev pub rows_in_moved : List Move → World → ResolvedQuery → ℕ → List Row
rows_in_moved moves w q e = answer_where w q (holds_by (in_world moves w) w q e) 0 e

abbrev pub past_10 : ResolvedTree
past_10 = compare (alone (dynamic 0)) Ge (literal_term 10)

pub record Jumps : Type 0 where
  pub far_enough : is_world 1000 jumping ≡ true
  pub too_far : is_world 999 jumping ≡ false
  pub is_inside : rows_in_moved jumping driving (car_query inside) 30 ≡ first_has ((9, 9) ∷ (11, 20) ∷ [])
  pub is_outside : rows_in_moved jumping driving (car_query outside) 30 ≡ first_has ((0, 8) ∷ (10, 10) ∷ (21, 30) ∷ [])
  pub as_ever_in_a_term : rows_in_moved jumping driving (car_query past_10) 30 ≡ first_has ((10, 30) ∷ [])
  pub unmoved : rows_in_moved [] driving (car_query inside) 30 ≡ answer driving (car_query inside) 0 30
