-- A feed, line by line: what one user hears, of which one query is followed.
use Rattle.std.specs.Prelude.{ℕ, ◌+◌, Bool, true, false, is_some, Option, Some, None, List, [], ◌∷◌, ◌++◌, codes, decimal, if◌then◌else◌}
use Rattle.std.specs.Option.{option_map_or}
use Rattle.replica.specs.Copied.{copy_after, copy_text, starting_after}
use Rattle.replica.specs.Line.{ToldLine, Starts, Answers, Changes, Passes, Stops, Nothing, Broken, told_by_line}
use Rattle.replica.specs.Rows.{line_feed}
use Rattle.replica.specs.declared.copied.Copied.{Copied}

-- the query that is followed, its copy, whether rows may follow, how many lines were heard, and the number of the first
-- that hasn't its form
pub record Hearing : Type 0 where
  pub name : List ℕ
  pub copy : Option Copied
  pub starting : Bool
  pub lines : ℕ
  pub bad : Option ℕ

abbrev pub silent : List ℕ → Hearing
silent name = record { name = name; copy = None; starting = false; lines = 0; bad = None }

abbrev pub is_broken : ToldLine → Bool
is_broken (Starts kind clock) = false
is_broken (Answers row) = false
is_broken (Changes operation row) = false
is_broken (Passes clock) = false
is_broken Stops = false
is_broken Nothing = false
is_broken Broken = true

abbrev pub taken : Hearing → ToldLine → Hearing
taken h told = record {
  name = h.name;
  copy = copy_after h.starting h.copy told;
  starting = starting_after h.starting told;
  lines = h.lines + 1;
  bad = if is_broken told then Some (h.lines + 1) else None;
}

-- after a line that hasn't its form no more are taken
abbrev pub next_hearing : Hearing → List ℕ → Hearing
next_hearing h line = if is_some h.bad then h else taken h (told_by_line h.name line)

abbrev pub hearing_after : Hearing → List (List ℕ) → Hearing
hearing_after h [] = h
hearing_after h (line ∷ lines) = hearing_after (next_hearing h line) lines

-- what is written at the end: the rows, or which line hasn't its form
abbrev pub said : Hearing → List ℕ
said h = option_map_or (λ n. codes "bad feed " ++ decimal n ++ line_feed) h.bad (option_map_or copy_text h.copy [])
