-- Commands of rows, one after another.
use Rattle.std.specs.Prelude.{◌≡◌, ◌⊎◌, ℕ, ◌+◌, true, Option, None, Some, Result, Ok, Err, List, [], ◌∷◌, ◌++◌, if◌then◌else◌}
use Rattle.object_rows.specs.declared.rows.ObjectRow.{ObjectRow}
use Rattle.object_rows.specs.Commands.{IsPrintableRow}
use Rattle.session_file.specs.Kept.{may_be_loaded}
use Rattle.command_text.specs.Journal.{Accepted}
use Rattle.command_text.specs.Shape.{IsPrintable}
use Rattle.command_text.specs.Tree.{CommandTree}
use Rattle.line_meaning.specs.Import.{MayBeLoaded, entry_lines, is_taken, row_command, with_entry}
use Rattle.line_meaning.specs.Looks.{most_looks}
use Rattle.line_meaning.specs.Reply.{ok_line}
use Rattle.line_meaning.specs.Step.{held}
use Rattle.database.specs.Written.{writes_object}

-- those of rows, each by the journal after the rows before it
abbrev pub row_commands : List ℕ → List Accepted → List ObjectRow → List CommandTree
row_commands class journal [] = []
row_commands class journal (row ∷ rows) =
    let c = row_command journal class row in c ∷ row_commands class (with_entry journal c) rows

-- the command of a row of a text, whether its object is there or not, is as if it had been read from a line that a session's
-- text may have
abbrev pub IsImportedRow : List ℕ → ObjectRow → Type 0
IsImportedRow class row = IsPrintableRow class row × MayBeLoaded class row

-- a command as rows have it
abbrev pub IsRowCommand : CommandTree → Type 0
IsRowCommand c = IsPrintable c × (writes_object c ≡ true) × (may_be_loaded c ≡ true)

-- the journal after commands, None where one of them isn't taken
abbrev pub journal_after_commands : List Accepted → List CommandTree → Option (List Accepted)
journal_after_commands journal [] = Some journal
journal_after_commands journal (c ∷ cs) = if is_taken journal c then journal_after_commands (with_entry journal c) cs else None

-- the lines of what they change
abbrev pub lines_of_commands : List Accepted → List CommandTree → List ℕ
lines_of_commands journal [] = []
lines_of_commands journal (c ∷ cs) = entry_lines journal c ++ lines_of_commands (with_entry journal c) cs

-- how many looks they may take
abbrev pub looks_of_commands : List Accepted → List CommandTree → ℕ
looks_of_commands journal [] = 0
looks_of_commands journal (c ∷ cs) = most_looks (held journal) c + looks_of_commands (with_entry journal c) cs

-- the first of them were entered, and at least one was not
pub record HasFirstCommands (journal : List Accepted) (cs : List CommandTree) (new : List Accepted) : Type 0 where
  pub first : List CommandTree
  pub next : CommandTree
  pub later : List CommandTree
  pub all : cs ≡ first ++ next ∷ later
  pub entered : journal_after_commands journal first ≡ Some new

-- what want of memory leaves
abbrev pub LeavesSome : List Accepted → List CommandTree → List Accepted → Type 0
LeavesSome journal cs new = (new ≡ journal) ⊎ HasFirstCommands journal cs new

-- all were entered, and their lines are written with an `ok` at the end; or memory is out
abbrev pub EntersCommands : {E : Type 0} → List CommandTree → List Accepted → List Accepted → List ℕ → List ℕ → Result (Unit {0}) E → Type 0
EntersCommands cs journal new before after (Ok u) =
    (journal_after_commands journal cs ≡ Some new) × (after ≡ before ++ (lines_of_commands journal cs ++ ok_line))
EntersCommands cs journal new before after (Err fault) = LeavesSome journal cs new

-- ---- Some of them were entered, and the rest is to be

pub record AreEntered (start : List Accepted) (cs : List CommandTree) (journal : List Accepted) (rest : List CommandTree) : Type 0 where
  pub first : List CommandTree
  pub all : cs ≡ first ++ rest
  pub entered : journal_after_commands start first ≡ Some journal

-- their lines were written
pub record HaveWrittenLines (start : List Accepted) (cs : List CommandTree) (journal : List Accepted) (rest : List CommandTree) (before after : List ℕ) : Type 0 where
  pub said : List ℕ
  pub out : after ≡ before ++ said
  pub lines : lines_of_commands start cs ≡ said ++ lines_of_commands journal rest
