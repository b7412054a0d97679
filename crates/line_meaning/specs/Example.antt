-- The rows that answer an `ask`, their lines, and refusals, worked out by hand.
use Rattle.std.specs.Prelude.{◌≡◌, ℕ, pos, negsuc, true, false, Option, None, Some, List, [], ◌∷◌, ◌++◌, codes, map}
use Rattle.std.specs.List.{filter, flat_map}
use Rattle.case_table.specs.declared.compare.Op.TheVariants.{Eq, Le}
use Rattle.fixed_point.specs.declared.number.Point.{Point}
use Rattle.motion.specs.Function.{level}
use Rattle.motion.specs.declared.cell.Place.{Place}
use Rattle.history.specs.World.{World}
use Rattle.formula_shape.specs.Shape as shapes
use Rattle.outside.specs.Shelf.{texts_of}
use Rattle.meaning.specs.Answer.{Row}
use Rattle.command_text.specs.Journal.{Accepted}
use Rattle.command_text.specs.Tree as commands
use Rattle.command_text.specs.Tree.{CommandTree}
use Rattle.command_text.specs.declared.refusal.Refusal.{Refusal}
use Rattle.command_text.specs.declared.refusal.Refusal.TheVariants as refusals
use Rattle.ftl_parser.specs.Tree.{QueryTree, Tree}
use Rattle.ftl_parser.specs.declared.tree.Atom.TheVariants as atoms
use Rattle.ftl_parser.specs.declared.tree.FromPart.{FromPart}
use Rattle.ftl_parser.specs.declared.tree.Term.{Term}
use Rattle.ftl_parser.specs.declared.tree.Unit as unit_type
use Rattle.ftl_parser.specs.declared.tree.Unit.TheVariants as units
use Rattle.ftl_parser.specs.Grammar.{from_part}
use Rattle.ftl_parser.specs.Example.{o}
use Rattle.line_meaning.specs.Ask.{ask_refusal, rows_asked}
use Rattle.line_meaning.specs.Journal.{world}
use Rattle.line_meaning.specs.Looks.{most_looks}
use Rattle.line_meaning.specs.Reply.{line_feed, row_text, run_text}
use Rattle.line_meaning.specs.Refusing.{all_refusals, refuses}
use Rattle.line_meaning.specs.Step.{base, held, refusal_of}

abbrev pub point_at : (x y : ℕ) → Point
point_at x y = record { x = pos x; y = pos y }

-- ---- two cars at tick 0, one of which drives along the x axis by 1 a tick, and a region before it

abbrev pub place_at_point : (x y : ℕ) → Place
place_at_point x y = record { at = Some (point_at x y); moving = None }

abbrev pub driving_along : Place
driving_along = record { at = Some (point_at 0 0); moving = Some (record { firsts = []; last = pos 1000 }, level) }

-- (10,-5) (20,-5) (20,5) (10,5)
abbrev pub rectangle : List Point
rectangle =
    record { x = pos 10000; y = negsuc 4999 }
    ∷ record { x = pos 20000; y = negsuc 4999 }
    ∷ point_at 20000 5000
    ∷ point_at 10000 5000
    ∷ []

abbrev pub cars_commands : List CommandTree
cars_commands =
    commands.Class (codes "car") 100 true []
    ∷ commands.Class (codes "big") 101 true []
    ∷ commands.Region (codes "P") rectangle
    ∷ commands.Insert (codes "car") (codes "a") driving_along []
    ∷ commands.Insert (codes "car") (codes "b") (place_at_point 12000 0) []
    ∷ []

abbrev pub cars_journal : List Accepted
cars_journal = map (λ c. (0, c)) cars_commands

abbrev pub cars : World
cars = world cars_journal

-- ---- queries

abbrev pub query_for : List (List ℕ) → List FromPart → Tree → QueryTree
query_for targets from f = record { targets = targets; from = from; formula = f }

-- RETRIEVE o FROM car o WHERE f
abbrev pub of_cars : Tree → QueryTree
of_cars f = query_for (codes "o" ∷ []) (from_part (codes "car") (codes "o") ∷ []) f

-- RETRIEVE n,o FROM car o,car n WHERE DIST(o,n) <= 2
abbrev pub of_pairs : QueryTree
of_pairs =
    query_for (codes "n" ∷ codes "o" ∷ []) (from_part (codes "car") (codes "o") ∷ from_part (codes "car") (codes "n") ∷ [])
    (shapes.Atom (atoms.Dist (codes "o") (codes "n") Le (pos 2000)))

-- three variables of a class
abbrev pub of_three : List ℕ → QueryTree
of_three class =
    query_for (codes "o" ∷ []) (from_part class (codes "o") ∷ from_part class (codes "n") ∷ from_part class (codes "m") ∷ []) (shapes.Truth true)

abbrev pub inside_region : List ℕ → Tree
inside_region region = shapes.Atom (atoms.Inside (codes "o") region)

abbrev pub term_of_unit : unit_type.Unit → Term
term_of_unit unit = record { factors = record { minus = false; times = None; unit = unit } ∷ [] }

-- [v <- o.x] TRUE
abbrev pub assigned_x : Tree
assigned_x = shapes.Assign (codes "v", term_of_unit (units.Attr (codes "o") (codes "x"))) (shapes.Truth true)

-- o.x = "A"
abbrev pub misfit : Tree
misfit = shapes.Atom (atoms.Compare (term_of_unit (units.Attr (codes "o") (codes "x"))) Eq (term_of_unit (units.Text (codes "A"))))

abbrev pub circle : List (List ℕ) → Tree
circle names = shapes.Atom (atoms.Sphere (pos 1000) names)

abbrev pub row : List ℕ → List (ℕ × ℕ) → Row
row key runs = record { key = key; runs = runs }

pub record AnswersAsks : Type 0 where
  pub through_a_region :
      rows_asked cars 0 30 (of_cars (inside_region (codes "P"))) ≡ row (0 ∷ []) ((10, 20) ∷ []) ∷ row (1 ∷ []) ((0, 30) ∷ []) ∷ []
  pub from_now_on :
      rows_asked cars 15 9 (of_cars (inside_region (codes "P"))) ≡ row (0 ∷ []) ((15, 20) ∷ []) ∷ row (1 ∷ []) ((15, 24) ∷ []) ∷ []
  pub by_the_targets :
      rows_asked cars 0 20 of_pairs
      ≡ row (0 ∷ 0 ∷ []) ((0, 20) ∷ [])
      ∷ row (0 ∷ 1 ∷ []) ((10, 14) ∷ [])
      ∷ row (1 ∷ 0 ∷ []) ((10, 14) ∷ [])
      ∷ row (1 ∷ 1 ∷ []) ((0, 20) ∷ [])
      ∷ []
  pub line_of_later :
      row_text cars.history.catalog 0 (row (0 ∷ 1 ∷ []) ((10, 14) ∷ [])) ≡ codes "later a b :" ++ flat_map run_text ((10, 14) ∷ []) ++ line_feed
  pub line_of_now :
      row_text cars.history.catalog 14 (row (1 ∷ []) ((10, 14) ∷ (20, 25) ∷ []))
      ≡ codes "now b :" ++ flat_map run_text ((10, 14) ∷ (20, 25) ∷ []) ++ line_feed
  pub line_of_past :
      row_text cars.history.catalog 15 (row (1 ∷ []) ((10, 14) ∷ [])) ≡ codes "past b :" ++ flat_map run_text ((10, 14) ∷ []) ++ line_feed
  -- one look for the place and one for the presence of each of two cars
  pub looks : most_looks (held cars_journal) (commands.Ask 30 (of_cars (inside_region (codes "P")))) ≡ 4

pub record RefusesAsks : Type 0 where
  pub unknown_region : ask_refusal cars 0 200000000 (of_cars (inside_region (codes "Q"))) ≡ Some refusals.UnknownName
  pub of_another_kind : ask_refusal cars 0 200000000 (of_cars misfit) ≡ Some refusals.WrongKind
  pub longest : ask_refusal cars 0 100000000 (of_cars (shapes.Truth true)) ≡ None
  pub one_longer : ask_refusal cars 0 100000001 (of_cars (shapes.Truth true)) ≡ Some refusals.SpanRange
  pub past_the_clock : ask_refusal cars 999999999 2 (of_cars (shapes.Truth true)) ≡ Some refusals.SpanRange
  pub longest_assigned : ask_refusal cars 0 10000 (of_cars assigned_x) ≡ None
  pub one_longer_assigned : ask_refusal cars 0 10001 (of_cars assigned_x) ≡ Some refusals.SpanRange
  pub circle_of_two : ask_refusal cars 0 100001 (of_cars (circle (o ∷ o ∷ []))) ≡ None
  pub longest_circle : ask_refusal cars 0 100000 (of_cars (circle (o ∷ o ∷ o ∷ []))) ≡ None
  pub one_longer_circle : ask_refusal cars 0 100001 (of_cars (circle (o ∷ o ∷ o ∷ []))) ≡ Some refusals.SpanRange
  pub least_that_applies : ask_refusal cars 0 10001 (of_cars (shapes.And assigned_x (circle (o ∷ o ∷ o ∷ [])))) ≡ Some refusals.SpanRange
  pub most_bindings : ask_refusal cars 0 1 (of_three (codes "car")) ≡ None
  pub too_many_bindings : ask_refusal cars 0 1 (of_three (codes "big")) ≡ Some refusals.BindingLimit

-- ---- lines with two faults

-- all refusals that hold of a line, and the one that it is refused by
abbrev pub judged : List ℕ → List Refusal × Option Refusal
judged line =
    let b = base (held cars_journal) (texts_of []) in
    (filter (refuses b line) all_refusals, refusal_of b line)

pub record RefusesByTheFirst : Type 0 where
  pub unknown_and_absent : judged (codes "remove c") ≡ (refusals.UnknownName ∷ refusals.Presence ∷ [], Some refusals.UnknownName)
  pub out_of_range_and_taken : judged (codes "class car 0") ≡ (refusals.NumberRange ∷ refusals.NameTaken ∷ [], Some refusals.NumberRange)
  pub twice_and_present :
      judged (codes "insert car a y = 1 y = 2") ≡ (refusals.NameTaken ∷ refusals.Presence ∷ [], Some refusals.NameTaken)
  pub of_no_class : judged (codes "index bus fuel 1") ≡ (refusals.UnknownName ∷ [], Some refusals.UnknownName)
  pub accepted : judged (codes "remove a") ≡ ([], None)
