-- The rows that answer a `nearest`, their lines, and refusals, worked out by hand.
use Rattle.std.specs.Prelude.{◌≡◌, ℕ, negsuc, true, false, None, Some, List, [], ◌∷◌, ◌++◌, codes, map}
use Rattle.motion.specs.Function.{level}
use Rattle.motion.specs.declared.cell.Place.{Place}
use Rattle.motion.specs.Cells.{nowhere}
use Rattle.history.specs.Catalog.{Catalog}
use Rattle.history.specs.World.{World}
use Rattle.command_text.specs.Journal.{Accepted}
use Rattle.command_text.specs.Tree as commands
use Rattle.command_text.specs.Tree.{CommandTree}
use Rattle.command_text.specs.declared.refusal.Refusal.TheVariants as refusals
use Rattle.line_meaning.specs.Answering.{answer_lines}
use Rattle.line_meaning.specs.Example.{place_at_point, point_at, row}
use Rattle.line_meaning.specs.Journal.{world}
use Rattle.line_meaning.specs.Looks.{most_looks}
use Rattle.line_meaning.specs.Near.{near_refusal, rows_near}
use Rattle.line_meaning.specs.Reply.{row_line}
use Rattle.line_meaning.specs.Step.{held}

-- from 10 units to the right, by 1 a tick to the left
abbrev pub coming_car : Place
coming_car = record { at = Some (point_at 10000 0); moving = Some (record { firsts = []; last = negsuc 999 }, level) }

-- A post at (0,0), a car that comes, one that stands 5 units above the post, and a depot, whose class has no positions. At ticks
-- 5 and 15 both cars are as near to the post.
abbrev pub near_commands : List CommandTree
near_commands =
    commands.Class (codes "car") 1000 true []
    ∷ commands.Class (codes "post") 1001 true []
    ∷ commands.Class (codes "depot") 9 false []
    ∷ commands.Insert (codes "post") (codes "b") nowhere []
    ∷ commands.Insert (codes "car") (codes "a") coming_car []
    ∷ commands.Insert (codes "car") (codes "c") (place_at_point 0 5000) []
    ∷ commands.Insert (codes "depot") (codes "d") nowhere []
    ∷ []

abbrev pub post_journal : List Accepted
post_journal = map (λ c. (0, c)) near_commands

abbrev pub posted : World
posted = world post_journal

-- after the post was removed at tick 3
abbrev pub unposted : World
unposted = world (post_journal ++ (3, commands.Remove (codes "b")) ∷ [])

abbrev pub b : List ℕ
b = codes "b"

abbrev pub car_word : List ℕ
car_word = codes "car"

pub record AnswersNearest : Type 0 where
  pub ties_go_to_the_first :
      rows_near posted 0 20 1 b car_word ≡ row (1 ∷ []) ((5, 15) ∷ []) ∷ row (2 ∷ []) ((0, 4) ∷ (16, 20) ∷ []) ∷ []
  pub from_now_on : rows_near posted 15 3 1 b car_word ≡ row (1 ∷ []) ((15, 15) ∷ []) ∷ row (2 ∷ []) ((16, 18) ∷ []) ∷ []
  pub more_than_there_are : rows_near posted 0 20 100 b car_word ≡ row (1 ∷ []) ((0, 20) ∷ []) ∷ row (2 ∷ []) ((0, 20) ∷ []) ∷ []
  pub not_itself : rows_near posted 0 5 1 (codes "a") car_word ≡ row (2 ∷ []) ((0, 5) ∷ []) ∷ []
  pub of_an_absent_object : rows_near unposted 3 5 1 b car_word ≡ []
  pub lines :
      answer_lines posted 0 (commands.Nearest 20 1 b car_word)
      ≡ row_line 0 (codes "a" ∷ []) ((5, 15) ∷ []) ++ (row_line 0 (codes "c" ∷ []) ((0, 4) ∷ (16, 20) ∷ []) ++ [])
  -- one look at the post, and one at each car
  pub looks : most_looks (held post_journal) (commands.Nearest 20 1 b car_word) ≡ 3

abbrev pub posted_catalog : Catalog
posted_catalog = posted.history.catalog

pub record RefusesNearest : Type 0 where
  pub no_such_object : near_refusal posted_catalog 0 1000001 (codes "e") (codes "depot") ≡ Some refusals.UnknownName
  pub no_such_class : near_refusal posted_catalog 0 1000001 (codes "d") (codes "bus") ≡ Some refusals.UnknownName
  pub object_without_positions : near_refusal posted_catalog 0 1000001 (codes "d") car_word ≡ Some refusals.WrongKind
  pub class_without_positions : near_refusal posted_catalog 0 1000001 b (codes "depot") ≡ Some refusals.WrongKind
  pub longest : near_refusal posted_catalog 0 1000000 b car_word ≡ None
  pub one_longer : near_refusal posted_catalog 0 1000001 b (codes "post") ≡ Some refusals.SpanRange
  pub past_the_clock : near_refusal posted_catalog 999999999 2 b car_word ≡ Some refusals.SpanRange
  pub to_the_last_tick : near_refusal posted_catalog 999999999 1 b car_word ≡ None
  pub too_many_pairs : near_refusal posted_catalog 0 1 b (codes "post") ≡ Some refusals.BindingLimit
  pub absent_is_not_refused : near_refusal unposted.history.catalog 3 1 b car_word ≡ None
