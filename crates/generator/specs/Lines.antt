-- The lines of a number: a fleet of cars that report their motions, regions, and three watched queries.
use Rattle.std.specs.Prelude.{ℕ, ◌+◌, ◌-ℤ◌, ◌==◌, pos, ℤ, List, [], ◌∷◌, ◌++◌, codes, map, replicate, if◌then◌else◌}
use Rattle.std.specs.List.{flat_map, range_with_len}
use Rattle.std.specs.Fmt.{decimal}
use Rattle.fixed_point.specs.Canonical.{fix_text}
use Rattle.generator.specs.Draws.{draw, first_draw_state, state_after}
use Rattle.generator.specs.declared.plan.TheConstants.{REGIONS, CARS, WATCHES, ROUNDS, UPDATES}
use Rattle.generator.specs.declared.plan.Line.{Line}
use Rattle.generator.specs.declared.plan.Line.TheVariants as lines

-- the numbers from 0 up to a count
abbrev numbers_up_to : ℕ → List ℕ
numbers_up_to count = range_with_len 0 count

-- what the lines are, in order: a round is a tick and the updates after it
abbrev pub round : List Line
round = lines.Tick ∷ replicate UPDATES lines.Update

unfoldable pub plan : List Line
plan =
    (lines.Class ∷ map lines.Region (numbers_up_to REGIONS))
    ++ (map lines.Insert (numbers_up_to CARS)
    ++ (map lines.Watch (numbers_up_to WATCHES)
    ++ (flat_map (λ _. round) (numbers_up_to ROUNDS)
    ++ map lines.Show (numbers_up_to WATCHES))))

-- ---- The text of a line, by the state before it

-- (12,34) after a space
abbrev pub corner : ℕ → ℕ → List ℕ
corner x y = codes " (" ++ (decimal x ++ (codes "," ++ (decimal y ++ codes ")")))

-- the side of a region
abbrev pub SIDE : ℕ
SIDE = 50

abbrev pub square_text : ℕ → ℕ → List ℕ
square_text x y = corner x y ++ (corner (x + SIDE) y ++ (corner (x + SIDE) (y + SIDE) ++ corner x (y + SIDE)))

-- thousandths per tick from -1000 to 1000, by draw k
abbrev pub drawn_slope : ℕ → ℕ → ℤ
drawn_slope k state = pos (draw k 2001 state) -ℤ pos 1000

abbrev pub move_text : ℤ → ℤ → List ℕ
move_text dx dy = codes " move (" ++ (fix_text dx ++ (codes "," ++ (fix_text dy ++ codes ")")))

abbrev pub at_corner_text : ℕ → ℕ → List ℕ
at_corner_text x y = codes " at" ++ corner x y

abbrev pub region_text : ℕ → ℕ → List ℕ
region_text number state = codes "region r" ++ (decimal number ++ square_text (draw 1 950 state) (draw 2 950 state))

abbrev pub car_text : ℕ → ℕ → ℕ → ℤ → ℤ → List ℕ
car_text number x y dx dy = codes "insert car c" ++ (decimal number ++ (at_corner_text x y ++ move_text dx dy))

abbrev pub insert_text : ℕ → ℕ → List ℕ
insert_text number state = car_text number (draw 1 1000 state) (draw 2 1000 state) (drawn_slope 3 state) (drawn_slope 4 state)

abbrev pub update_text : ℕ → List ℕ
update_text state = codes "update c" ++ (decimal (draw 1 CARS state) ++ move_text (drawn_slope 2 state) (drawn_slope 3 state))

abbrev pub watch_text : ℕ → List ℕ
watch_text number =
    if number == 0 then codes "watch w0 3600 RETRIEVE o FROM car o WHERE INSIDE(o,r0)"
    else if number == 1 then codes "watch w1 3600 RETRIEVE o FROM car o WHERE EVENTUALLY_WITHIN 60 INSIDE(o,r1)"
    else codes "watch w2 3600 RETRIEVE o,n FROM car o,car n WHERE DIST(o,n) <= 5 AND OUTSIDE(o,r2)"

abbrev pub line_text : Line → ℕ → List ℕ
line_text lines.Class state = codes "class car 200 point"
line_text (lines.Region number) state = region_text number state
line_text (lines.Insert number) state = insert_text number state
line_text (lines.Watch number) state = watch_text number
line_text lines.Tick state = codes "tick 60"
line_text lines.Update state = update_text state
line_text (lines.Show number) state = codes "show w" ++ decimal number

-- how many draws a line takes
abbrev pub draws_of : Line → ℕ
draws_of lines.Class = 0
draws_of (lines.Region number) = 2
draws_of (lines.Insert number) = 4
draws_of (lines.Watch number) = 0
draws_of lines.Tick = 0
draws_of lines.Update = 3
draws_of (lines.Show number) = 0

-- ---- The lines

abbrev pub lines_from : ℕ → List Line → List (List ℕ)
lines_from state [] = []
lines_from state (line ∷ rest) = line_text line state ∷ lines_from (state_after (draws_of line) state) rest

unfoldable pub lines_of : ℕ → List (List ℕ)
lines_of number = lines_from (first_draw_state number) plan
