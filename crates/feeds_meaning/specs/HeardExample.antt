-- What one user hears, worked out by hand.
use Rattle.std.specs.Prelude.{◌≡◌, ℕ, pos, true, None, Some, Option, List, [], ◌∷◌, codes}
use Rattle.formula_shape.specs.Shape as shapes
use Rattle.command_text.specs.Tree as commands
use Rattle.command_text.specs.Tree.{CommandTree}
use Rattle.command_text.specs.declared.refusal.Refusal.{Refusal}
use Rattle.command_text.specs.declared.refusal.Refusal.TheVariants as refusals
use Rattle.line_meaning.specs.Example.{of_cars, place_at_point}
use Rattle.line_meaning.specs.Judging.{held}
use Rattle.feeds_meaning.specs.Heard.{Item, Own, Other, Seat, after_own, command_refusal, heard, own_refusal, own_text, seat_after, empty_seat}

-- ---- a car, and a watch over all cars

abbrev pub one_car_items : List Item
one_car_items = Other (commands.Class (codes "car") 9 true []) ∷ Other (commands.Insert (codes "car") (codes "a") (place_at_point 0 0) []) ∷ []

-- watch w 10 RETRIEVE o FROM car o WHERE TRUE
abbrev pub watch_command : CommandTree
watch_command = commands.Watch (codes "w") 10 (of_cars (shapes.Truth true))

abbrev pub beginner : Seat
beginner = seat_after empty_seat one_car_items

abbrev pub watcher : Seat
watcher = after_own beginner watch_command

abbrev pub tick_of_another : Item
tick_of_another = Other (commands.Tick 4)

-- index car x 10
abbrev pub index_of_places : CommandTree
index_of_places = commands.Index (codes "car") (codes "x") (pos 10000)

-- range 5 car x 0 5
abbrev pub range_of_places : CommandTree
range_of_places = commands.Range 5 (codes "car") (codes "x") (pos 0) (pos 5000)

abbrev pub indexer : Seat
indexer = after_own beginner index_of_places

-- a user with so many accepted lines of either kind
abbrev pub with_lines : (data_lines query_lines : ℕ) → Seat
with_lines data_lines query_lines = record { held = held []; here = true; data_lines = data_lines; query_lines = query_lines }

abbrev pub refused : (data_lines query_lines : ℕ) → List ℕ → Option Refusal
refused data_lines query_lines line = own_refusal (with_lines data_lines query_lines) line

pub record HearsAlone : Type 0 where
  -- a user who sent no line hears nothing
  pub nothing_yet : heard empty_seat one_car_items ≡ []
  pub start : own_text beginner.held watch_command ≡ codes "start w watch 0\nnow a : 0..10\nok\n"
  pub stop : own_text watcher.held (commands.Drop (codes "w")) ≡ codes "stop w\nok\n"
  pub own_tick : own_text watcher.held (commands.Tick 4) ≡ codes "clock 4\nok\n"
  pub ticks : heard watcher (tick_of_another ∷ []) ≡ codes "clock 4" ∷ []
  pub removed : heard (seat_after watcher (tick_of_another ∷ [])) (Other (commands.Remove (codes "a")) ∷ [])
      ≡ codes "lose w a : 4..10" ∷ codes "leave w a" ∷ []
  pub own_lines : heard beginner (Own (codes "tick 2") ∷ Own (codes "remove b") ∷ Own (codes "# a note") ∷ Own (codes "quit") ∷ [])
      ≡ codes "clock 2" ∷ codes "ok" ∷ codes "refused 7 UnknownName" ∷ codes "refused 4 BadSyntax" ∷ []
  -- ---- an index is the user's own
  pub own_index : own_text beginner.held index_of_places ≡ codes "ok\n"
  pub own_range : own_text indexer.held range_of_places ≡ codes "now a : 0..5\nok\n"
  pub no_index : command_refusal beginner.held range_of_places ≡ Some refusals.UnknownName
  pub index_stays : command_refusal (seat_after indexer (tick_of_another ∷ [])).held range_of_places ≡ None
  -- ---- the order of the refusals of a line
  pub last_data_line : refused 7999 0 (codes "tick 1") ≡ None
  pub data_limit : refused 8000 0 (codes "tick 1") ≡ Some refusals.JournalFull
  pub before_bad_tokens : refused 8000 0 (codes "  tick ?") ≡ Some refusals.JournalFull
  pub by_the_whole_word : refused 8000 0 (codes "ticks ?") ≡ Some refusals.BadToken
  pub query_limit : refused 0 8000 (codes "drop w") ≡ Some refusals.JournalFull
  pub queries_apart : refused 8000 7999 (codes "drop w") ≡ Some refusals.UnknownName
  pub file_line : refused 8000 8000 (codes "save \"s\"") ≡ Some refusals.BadSyntax
  pub faulty_file_line : refused 0 0 (codes "save ?") ≡ Some refusals.BadToken
