-- Registered queries, the lines of what changes for them, and refusals, worked out by hand.
use Rattle.std.specs.Prelude.{◌≡◌, ℕ, Bool, true, false, not, pos, None, Some, List, [], ◌∷◌, ◌++◌, codes, map}
use Rattle.std.specs.List.{flat_map}
use Rattle.formula.specs.declared.kind.QueryKind.TheVariants as kinds
use Rattle.formula_shape.specs.Shape as shapes
use Rattle.case_table.specs.declared.compare.Op.TheVariants.{Le}
use Rattle.motion.specs.Function.{level}
use Rattle.meaning.specs.Registered.{Change}
use Rattle.command_text.specs.Journal.{Accepted}
use Rattle.command_text.specs.Tree as commands
use Rattle.command_text.specs.Tree.{CommandTree}
use Rattle.command_text.specs.declared.refusal.Refusal.TheVariants as refusals
use Rattle.ftl_parser.specs.declared.tree.Atom.TheVariants as atoms
use Rattle.ftl_parser.specs.Grammar.{from_part}
use Rattle.line_meaning.specs.Answering.{kept_lines, query_lines}
use Rattle.line_meaning.specs.Changes.{change_text}
use Rattle.line_meaning.specs.Example.{inside_region, of_cars, place_at_point, query_for, rectangle}
use Rattle.line_meaning.specs.QueryFault.{command_fault}
use Rattle.line_meaning.specs.Journal.{world}
use Rattle.line_meaning.specs.Looks.{most_looks}
use Rattle.line_meaning.specs.Registry.{known, registered, registration}
use Rattle.line_meaning.specs.Reply.{query_line, rows_text}
use Rattle.line_meaning.specs.Step.{held}

abbrev pub at_once : List CommandTree → List Accepted
at_once cs = map (λ c. (0, c)) cs

-- ---- a car that stands, a region before it, and a watch over the cars inside

abbrev pub car_and_region : List CommandTree
car_and_region =
    commands.Class (codes "car") 100 true []
    ∷ commands.Region (codes "P") rectangle
    ∷ commands.Insert (codes "car") (codes "a") (place_at_point 0 0) []
    ∷ []

abbrev pub inside_watch : CommandTree
inside_watch = commands.Watch (codes "w") 30 (of_cars (inside_region (codes "P")))

abbrev pub watched : List Accepted
watched = at_once (car_and_region ++ inside_watch ∷ [])

-- `update a move (v,0)`
abbrev pub driven : ℕ → CommandTree
driven v = commands.Update (codes "a") (record { at = None; moving = Some (record { firsts = []; last = pos v }, level) }) []

abbrev pub lines_after : List Accepted → CommandTree → List ℕ
lines_after journal c = kept_lines (known journal) (known (journal ++ (0, c) ∷ [])) c

-- the change lines of the watch
abbrev pub watch_lines : List Change → List ℕ
watch_lines changes = flat_map (change_text (world watched).history.catalog (codes "w")) changes ++ []

abbrev pub gaining : List (ℕ × ℕ) → List (ℕ × ℕ) → Change
gaining gained lost = record { key = 0 ∷ []; gained = gained; lost = lost; enters = false; leaves = false }

abbrev pub turning : Bool → Change
turning enters = record { key = 0 ∷ []; gained = []; lost = []; enters = enters; leaves = not enters }

-- ---- two cars within a distance, in either order

abbrev pub near_watch : CommandTree
near_watch =
    commands.Watch (codes "w") 5
    (query_for (codes "o" ∷ codes "n" ∷ []) (from_part (codes "car") (codes "o") ∷ from_part (codes "car") (codes "n") ∷ [])
    (shapes.Atom (atoms.Dist (codes "o") (codes "n") Le (pos 1000))))

abbrev pub one_car_watched : List Accepted
one_car_watched =
    at_once
    (commands.Class (codes "car") 100 true []
    ∷ commands.Insert (codes "car") (codes "a") (place_at_point 0 0) []
    ∷ near_watch
    ∷ [])

abbrev pub second : CommandTree
second = commands.Insert (codes "car") (codes "b") (place_at_point 0 1000) []

-- two objects that hold from now on and didn't before
abbrev pub entering : ℕ → ℕ → Change
entering one other = record { key = one ∷ other ∷ []; gained = (0, 5) ∷ []; lost = []; enters = true; leaves = false }

abbrev pub leaving : ℕ → ℕ → Change
leaving one other = record { key = one ∷ other ∷ []; gained = []; lost = []; enters = false; leaves = true }

-- the change lines of that watch
abbrev pub near_watch_lines : List Change → List ℕ
near_watch_lines changes = flat_map (change_text (world (one_car_watched ++ (0, second) ∷ [])).history.catalog (codes "w")) changes ++ []

pub record AnswersRegistered : Type 0 where
  pub registered_is : registered watched ≡ registration kinds.Watch (world watched) 0 (codes "w") 30 (of_cars (inside_region (codes "P"))) ∷ []
  pub dropped : registered (watched ++ (0, commands.Drop (codes "w")) ∷ []) ≡ []
  pub shown : query_lines (known one_car_watched) (commands.Show (codes "w"))
      ≡ rows_text (world one_car_watched).history.catalog 0 (record { key = 0 ∷ 0 ∷ []; runs = (0, 5) ∷ [] } ∷ [])
  pub listed :
      query_lines (known watched) commands.Listing ≡ query_line (codes "watch") (codes "w") 0 30 ++ []
  pub nothing_inside : lines_after (at_once car_and_region) inside_watch ≡ []
  pub gains : lines_after watched (driven 1000) ≡ watch_lines (gaining ((10, 20) ∷ []) [] ∷ [])
  pub gains_and_loses :
      lines_after (watched ++ (0, driven 1000) ∷ []) (driven 2000) ≡ watch_lines (gaining ((5, 9) ∷ []) ((11, 20) ∷ []) ∷ [])
  pub the_same_again : lines_after (watched ++ (0, driven 1000) ∷ []) (driven 1000) ≡ []
  pub enters : lines_after (watched ++ (0, driven 1000) ∷ []) (commands.Tick 10) ≡ watch_lines (turning true ∷ [])
  pub leaves_past_the_expiry :
      lines_after (one_car_watched ++ (0, commands.Tick 5) ∷ []) (commands.Tick 1) ≡ near_watch_lines (leaving 0 0 ∷ [])
  pub an_insert : lines_after one_car_watched second ≡ near_watch_lines (entering 0 1 ∷ entering 1 0 ∷ entering 1 1 ∷ [])
  pub removes : lines_after watched (commands.Remove (codes "a")) ≡ []
  -- one look for the place and one for the presence
  pub looks : most_looks (held watched) (driven 1000) ≡ 2

pub record RefusesRegistered : Type 0 where
  pub taken : command_fault (known watched) inside_watch ≡ Some refusals.NameTaken
  pub unknown_before_taken :
      command_fault (known watched) (commands.Keep (codes "w") 30 (of_cars (inside_region (codes "Q")))) ≡ Some refusals.UnknownName
  pub dropped_is_free : command_fault (known (watched ++ (0, commands.Drop (codes "w")) ∷ [])) inside_watch ≡ None
  pub too_long : command_fault (known watched) (commands.Keep (codes "k") 100000001 (of_cars (inside_region (codes "P")))) ≡ Some refusals.SpanRange
  pub unknown_shown : command_fault (known watched) (commands.Show (codes "k")) ≡ Some refusals.UnknownName
  pub unknown_dropped : command_fault (known watched) (commands.Drop (codes "k")) ≡ Some refusals.UnknownName
  pub known_dropped : command_fault (known watched) (commands.Drop (codes "w")) ≡ None
