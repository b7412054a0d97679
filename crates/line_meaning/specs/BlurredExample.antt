-- The rows that answer a `must` and a `may`, their lines, and refusals, worked out by hand.
use Rattle.std.specs.Prelude.{◌≡◌, ℕ, pos, true, false, None, Some, List, [], ◌∷◌, ◌++◌, codes, map}
use Rattle.case_table.specs.declared.compare.Op.TheVariants.{Le}
use Rattle.motion.specs.declared.cell.Place.{Place}
use Rattle.history.specs.World.{World}
use Rattle.formula_shape.specs.Shape as shapes
use Rattle.meaning.specs.Answer.{Row}
use Rattle.command_text.specs.Journal.{Accepted}
use Rattle.command_text.specs.Tree as commands
use Rattle.command_text.specs.Tree.{CommandTree}
use Rattle.command_text.specs.declared.refusal.Refusal.TheVariants as refusals
use Rattle.ftl_parser.specs.Tree.{QueryTree, Tree}
use Rattle.ftl_parser.specs.declared.tree.Atom.TheVariants as atoms
use Rattle.ftl_parser.specs.declared.tree.Term.{Term}
use Rattle.ftl_parser.specs.declared.tree.Unit.TheVariants as units
use Rattle.ftl_parser.specs.Grammar.{from_part}
use Rattle.ftl_parser.specs.Example.{o}
use Rattle.line_meaning.specs.Answering.{answer_lines}
use Rattle.line_meaning.specs.Blurred.{blurred_refusal, rows_blurred}
use Rattle.line_meaning.specs.Example.{circle, driving_along, inside_region, misfit, of_cars, place_at_point, query_for, rectangle, row}
use Rattle.line_meaning.specs.Journal.{world}
use Rattle.line_meaning.specs.Looks.{most_looks}
use Rattle.line_meaning.specs.Reply.{row_line}
use Rattle.line_meaning.specs.Step.{held}

-- ---- a car that drives through a region along the x axis by 1 a tick, and one that passes a post 3 units away

abbrev pub passing_above : Place
passing_above = record { at = Some (record { x = pos 0; y = pos 3000 }); moving = driving_along.moving }

abbrev pub blurred_commands : List CommandTree
blurred_commands =
    commands.Class (codes "car") 100 true []
    ∷ commands.Class (codes "post") 101 true []
    ∷ commands.Region (codes "P") rectangle
    ∷ commands.Insert (codes "car") (codes "a") driving_along []
    ∷ commands.Insert (codes "car") (codes "c") passing_above []
    ∷ commands.Insert (codes "post") (codes "b") (place_at_point 10000 0) []
    ∷ []

abbrev pub roads_journal : List Accepted
roads_journal = map (λ c. (0, c)) blurred_commands

abbrev pub roads : World
roads = world roads_journal

-- RETRIEVE o FROM car o,CLASS n WHERE DIST(o,n) <= 3
abbrev pub near_a : List ℕ → QueryTree
near_a class =
    query_for (o ∷ []) (from_part (codes "car") o ∷ from_part class (codes "n") ∷ []) (shapes.Atom (atoms.Dist o (codes "n") Le (pos 3000)))

abbrev pub cars_in_region : QueryTree
cars_in_region = of_cars (inside_region (codes "P"))

-- the rows of what surely and of what possibly holds, from tick 0 on, by an error in thousandths
abbrev pub surely : ℕ → ℕ → QueryTree → List Row
surely error span q = rows_blurred true roads 0 span (pos error) q

abbrev pub possibly : ℕ → ℕ → QueryTree → List Row
possibly error span q = rows_blurred false roads 0 span (pos error) q

pub record AnswersBlurred : Type 0 where
  pub surely_inside : surely 1000 30 cars_in_region ≡ row (0 ∷ []) ((11, 19) ∷ []) ∷ row (1 ∷ []) ((11, 19) ∷ []) ∷ []
  pub possibly_inside : possibly 1000 30 cars_in_region ≡ row (0 ∷ []) ((9, 21) ∷ []) ∷ row (1 ∷ []) ((9, 21) ∷ []) ∷ []
  -- in the y direction the second car is 2 units from the edge of the region, and the first one 5
  pub less_surely : surely 2001 30 cars_in_region ≡ row (0 ∷ []) ((13, 17) ∷ []) ∷ []
  pub possibly_near : possibly 500 20 (near_a (codes "post")) ≡ row (0 ∷ []) ((6, 14) ∷ []) ∷ row (1 ∷ []) ((7, 13) ∷ []) ∷ []
  pub surely_near : surely 500 20 (near_a (codes "post")) ≡ row (0 ∷ []) ((9, 11) ∷ []) ∷ []
  pub from_now_on : rows_blurred true roads 15 9 (pos 1000) cars_in_region ≡ row (0 ∷ []) ((15, 19) ∷ []) ∷ row (1 ∷ []) ((15, 19) ∷ []) ∷ []
  -- not by the end of the window
  pub surely_in_time : surely 1000 9 (of_cars (shapes.Eventually (inside_region (codes "P")))) ≡ []
  pub possibly_in_time :
      possibly 1000 9 (of_cars (shapes.Eventually (inside_region (codes "P")))) ≡ row (0 ∷ []) ((0, 9) ∷ []) ∷ row (1 ∷ []) ((0, 9) ∷ []) ∷ []
  pub lines_of_must :
      answer_lines roads 0 (commands.Must (pos 500) 20 (near_a (codes "post"))) ≡ row_line 0 (codes "a" ∷ []) ((9, 11) ∷ []) ++ []
  pub lines_of_may :
      answer_lines roads 7 (commands.May (pos 500) 13 (near_a (codes "post")))
      ≡ row_line 7 (codes "a" ∷ []) ((7, 14) ∷ []) ++ (row_line 7 (codes "c" ∷ []) ((7, 13) ∷ []) ++ [])
  -- one look for the place and one for the presence of each of two cars
  pub looks : most_looks (held roads_journal) (commands.Must (pos 1000) 30 cars_in_region) ≡ 4

-- ---- refusals

-- 1000 * o.x <= 1000 * o.x, whose terms may pass their bound
abbrev pub large : Term
large = record { factors = record { minus = false; times = Some 1000; unit = units.Attr o (codes "x") } ∷ [] }

abbrev pub past_bound : Tree
past_bound = shapes.Atom (atoms.Compare large Le large)

abbrev pub two_faults : Tree
two_faults = shapes.And past_bound (shapes.Not (shapes.Truth true))

pub record RefusesBlurred : Type 0 where
  pub unknown_region : blurred_refusal roads 0 10001 (of_cars (shapes.Not (inside_region (codes "Q")))) ≡ Some refusals.UnknownName
  pub of_another_kind : blurred_refusal roads 0 10001 (of_cars misfit) ≡ Some refusals.WrongKind
  pub with_not : blurred_refusal roads 0 30 (of_cars (shapes.Not (shapes.Truth true))) ≡ Some refusals.WrongKind
  pub with_circle : blurred_refusal roads 0 30 (of_cars (circle (o ∷ []))) ≡ Some refusals.WrongKind
  pub past_its_bound : blurred_refusal roads 0 10001 (of_cars past_bound) ≡ Some refusals.TermRange
  pub not_before_bounds : blurred_refusal roads 0 10001 (of_cars two_faults) ≡ Some refusals.WrongKind
  pub longest : blurred_refusal roads 0 10000 cars_in_region ≡ None
  pub one_longer : blurred_refusal roads 0 10001 cars_in_region ≡ Some refusals.SpanRange
  pub past_the_clock : blurred_refusal roads 999999999 2 cars_in_region ≡ Some refusals.SpanRange
  pub to_the_last_tick : blurred_refusal roads 999999999 1 cars_in_region ≡ None
  pub most_bindings : blurred_refusal roads 0 1 (near_a (codes "car")) ≡ None
  pub too_many_bindings : blurred_refusal roads 0 1 (near_a (codes "post")) ≡ Some refusals.BindingLimit
