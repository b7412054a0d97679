-- What an `import` makes of the rows of a text.
use Rattle.std.specs.Prelude.{◌≡◌, ℕ, Bool, true, is_none, Option, None, Some, option_and_then, List, [], ◌∷◌, ◌++◌, if◌then◌else◌}
use Rattle.history.specs.Catalog.{attributes_of_class, class_of}
use Rattle.object_rows.specs.declared.rows.ObjectRow.{ObjectRow}
use Rattle.object_rows.specs.Commands.{command_of_row}
use Rattle.object_rows.specs.Rows.{rows_in}
use Rattle.session_file.specs.Kept.{may_be_loaded}
use Rattle.command_text.specs.Journal.{Accepted, clock}
use Rattle.command_text.specs.Tree.{CommandTree}
use Rattle.line_meaning.specs.Answering.{kept_lines}
use Rattle.line_meaning.specs.Fault.{is_present}
use Rattle.line_meaning.specs.Journal.{world}
use Rattle.line_meaning.specs.Judging.{fault_of, held, held_after}
use Rattle.line_meaning.specs.Registry.{known}

-- the command of a row: an update where the object is present, else an insert into the class
abbrev pub row_command : List Accepted → List ℕ → ObjectRow → CommandTree
row_command journal class row = command_of_row class (is_present (world journal).history row.name (clock journal)) row

abbrev pub with_entry : List Accepted → CommandTree → List Accepted
with_entry journal c = (held_after (held journal) c).journal

-- the lines of what an entry changes
abbrev pub entry_lines : List Accepted → CommandTree → List ℕ
entry_lines journal c = kept_lines (known journal) (known (with_entry journal c)) c

-- nothing refuses the command
abbrev pub is_taken : List Accepted → CommandTree → Bool
is_taken journal c = is_none (fault_of (held journal) c)

-- the command of a row may be a line of a session's text, as that of each row of a text may
abbrev pub MayBeLoaded : List ℕ → ObjectRow → Type 0
MayBeLoaded class row = (present : Bool) → may_be_loaded (command_of_row class present row) ≡ true

-- the journal after rows, each judged in the journal after the rows before it; None where one of them isn't taken
abbrev pub journal_after_rows : List ℕ → List Accepted → List ObjectRow → Option (List Accepted)
journal_after_rows class journal [] = Some journal
journal_after_rows class journal (row ∷ rows) =
    let c = row_command journal class row in
    if is_taken journal c then journal_after_rows class (with_entry journal c) rows else None

-- the lines of rows that are taken, one after another
abbrev pub lines_of_rows : List ℕ → List Accepted → List ObjectRow → List ℕ
lines_of_rows class journal [] = []
lines_of_rows class journal (row ∷ rows) =
    let c = row_command journal class row in
    entry_lines journal c ++ lines_of_rows class (with_entry journal c) rows

-- the rows of a text for a class, None where it isn't of the format
abbrev pub rows_for : List Accepted → List ℕ → List ℕ → Option (List ObjectRow)
rows_for journal class text = rows_in (attributes_of_class (class_of (world journal).history.catalog class)) text

-- the journal after an import of a text, None where the text isn't of the format or a row isn't taken
abbrev pub journal_after_text : List Accepted → List ℕ → List ℕ → Option (List Accepted)
journal_after_text journal class text = option_and_then (journal_after_rows class journal) (rows_for journal class text)
