-- The rows that answer a `range`, what becomes of the indexes, and refusals, worked out by hand.
use Rattle.std.specs.Prelude.{◌≡◌, ℕ, pos, false, None, Some, List, [], ◌∷◌, ◌++◌, codes, map}
use Rattle.motion.specs.Function.{Function, level}
use Rattle.motion.specs.declared.cell.AttrKind.TheVariants as kinds
use Rattle.motion.specs.declared.cell.Given.TheVariants as givens
use Rattle.motion.specs.declared.cell.NamedSet.{NamedSet}
use Rattle.motion.specs.Cells.{nowhere}
use Rattle.command_text.specs.Journal.{Accepted}
use Rattle.command_text.specs.Tree as commands
use Rattle.command_text.specs.Tree.{CommandTree}
use Rattle.command_text.specs.declared.refusal.Refusal.TheVariants as refusals
use Rattle.line_meaning.specs.Indexed.{IndexEntry}
use Rattle.line_meaning.specs.Looks.{most_looks}
use Rattle.line_meaning.specs.Reply.{row_line, ok_line}
use Rattle.line_meaning.specs.Role.{role_of}
use Rattle.line_meaning.specs.Step.{Held, all_after, fault_of, held, reply_by}

abbrev pub fuel_is : ℕ → Function → List NamedSet
fuel_is n f = record { name = codes "fuel"; given = givens.Both (pos n) f } ∷ []

abbrev pub rising : Function
rising = record { firsts = []; last = pos 1000 }

-- tanks with fuel and a name tag: the fuel of one rises by 1 a tick from 0 on, and another has 1000
abbrev pub tanks : List CommandTree
tanks =
    commands.Class (codes "tank") 9 false ((codes "fuel", kinds.Dyn) ∷ (codes "tag", kinds.Text) ∷ [])
    ∷ commands.Insert (codes "tank") (codes "a") nowhere (fuel_is 0 rising)
    ∷ commands.Insert (codes "tank") (codes "b") nowhere (fuel_is 1000000 level)
    ∷ []

abbrev pub index_command : (class attribute : List ℕ) → ℕ → CommandTree
index_command class attribute width = commands.Index class attribute (pos width)

abbrev pub fuel_range : (span least greatest : ℕ) → CommandTree
fuel_range span least greatest = commands.Range span (codes "tank") (codes "fuel") (pos least) (pos greatest)

abbrev pub index_by_tens : CommandTree
index_by_tens = index_command (codes "tank") (codes "fuel") 10000

abbrev pub tanks_journal : List Accepted
tanks_journal = map (λ c. (0, c)) tanks

abbrev pub tanks_held : Held
tanks_held = held tanks_journal

abbrev pub entry : (from width seen : ℕ) → IndexEntry
entry from width seen = record { grid = record { class = 0; attribute = 0; from = from; width = pos width }; seen = seen }

abbrev pub held_with_index : List Accepted → IndexEntry → Held
held_with_index journal e = record { journal = journal; indexes = e ∷ [] }

-- before and after its first `range`
abbrev pub indexed : Held
indexed = held_with_index tanks_journal (entry 0 10000 0)

abbrev pub tanks_by_threes : Held
tanks_by_threes = held_with_index tanks_journal (entry 0 10000 3)

-- then the second has 6
abbrev pub refilled_tanks : Held
refilled_tanks = held_with_index
    (tanks_journal ++ (0, commands.Update (codes "b") nowhere (record { name = codes "fuel"; given = givens.Num (pos 6000) } ∷ [])) ∷ [])
    (entry 0 10000 3)

-- so many ticks later
abbrev pub later : ℕ → List Accepted
later ticks = tanks_journal ++ (0, commands.Tick ticks) ∷ []

abbrev pub reply : Held → CommandTree → List ℕ
reply h c = reply_by (role_of c) h c

-- an index that began at 0 has ended by then
abbrev pub ended_index : Held
ended_index = held_with_index (later 64000) (entry 0 10000 0)

pub record AnswersRanges : Type 0 where
  pub says_ok : reply tanks_held index_by_tens ≡ ok_line
  pub made : all_after tanks_held index_by_tens ≡ indexed
  pub rises_through : reply indexed (fuel_range 20 5000 8000) ≡ (row_line 0 (codes "a" ∷ []) ((5, 8) ∷ []) ++ []) ++ ok_line
  -- two that no `range` has looked at, and one candidate
  pub looks_at_both : most_looks indexed (fuel_range 20 5000 8000) ≡ 3
  pub seen : all_after indexed (fuel_range 20 5000 8000) ≡ tanks_by_threes
  pub looks_at_one : most_looks tanks_by_threes (fuel_range 20 5000 8000) ≡ 1
  pub both :
      reply refilled_tanks (fuel_range 20 5000 8000)
      ≡ (row_line 0 (codes "a" ∷ []) ((5, 8) ∷ []) ++ (row_line 0 (codes "b" ∷ []) ((0, 20) ∷ []) ++ [])) ++ ok_line
  -- the one that was written, and two candidates
  pub looks_at_it_anew : most_looks refilled_tanks (fuel_range 20 5000 8000) ≡ 3
  pub wrong_order : reply refilled_tanks (fuel_range 20 8000 5000) ≡ ok_line
  -- an index that has ended is replaced where it stands
  pub replaced : (all_after ended_index (index_command (codes "tank") (codes "fuel") 1)).indexes ≡ entry 64000 1 0 ∷ []
  pub makes_no_looks : most_looks tanks_held index_by_tens ≡ 0

-- as many indexes as there may be, of other attributes
abbrev pub crowded : Held
crowded = record tanks_held {
  indexes = map (λ n. record { grid = record { class = 0; attribute = n; from = 0; width = pos 1 }; seen = 0 })
      (2 ∷ 3 ∷ 4 ∷ 5 ∷ 6 ∷ 7 ∷ 8 ∷ 9 ∷ 10 ∷ 11 ∷ 12 ∷ 13 ∷ 14 ∷ 15 ∷ 16 ∷ 17 ∷ []);
}

pub record RefusesRanges : Type 0 where
  pub no_class : fault_of indexed (index_command (codes "bus") (codes "fuel") 1) ≡ Some refusals.UnknownName
  pub no_attribute : fault_of indexed (index_command (codes "tank") (codes "oil") 1) ≡ Some refusals.UnknownName
  pub taken : fault_of indexed (index_command (codes "tank") (codes "fuel") 1) ≡ Some refusals.NameTaken
  pub taken_until_its_last : fault_of (held_with_index (later 63999) (entry 0 10000 0)) index_by_tens ≡ Some refusals.NameTaken
  pub free_after_it : fault_of ended_index index_by_tens ≡ None
  pub no_function : fault_of crowded (index_command (codes "tank") (codes "tag") 1) ≡ Some refusals.WrongKind
  pub ends_with_the_clock : fault_of (held (later 999936001)) index_by_tens ≡ None
  pub past_the_clock : fault_of (held (later 999936002)) index_by_tens ≡ Some refusals.SpanRange
  pub one_too_many : fault_of crowded index_by_tens ≡ Some refusals.StoreFull
  pub of_no_index : fault_of tanks_held (fuel_range 20 5000 8000) ≡ Some refusals.UnknownName
  pub to_its_last_tick : fault_of indexed (fuel_range 63999 5000 8000) ≡ None
  pub past_it : fault_of indexed (fuel_range 64000 5000 8000) ≡ Some refusals.SpanRange
  pub of_an_ended_one : fault_of ended_index (fuel_range 0 5000 8000) ≡ Some refusals.SpanRange
