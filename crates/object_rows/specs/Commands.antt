-- The commands of rows.
use Rattle.std.specs.Prelude.{◌≡◌, ℕ, ◌+◌, ◌≤◌, Bool, true, false, Some, List, length}
use Rattle.std.specs.List.{AllByRecursion}
use Rattle.motion.specs.declared.limits.TheConstants.{ATTRIBUTE_LIMIT}
use Rattle.motion.specs.Cells.{nowhere}
use Rattle.ftl_lexer.specs.declared.buffer.TheConstants.{LEXER_LIMIT}
use Rattle.history.specs.Write.{Attribute}
use Rattle.command_text.specs.Shape.{IsPrintable, IsShortName}
use Rattle.command_text.specs.Text.{text_of}
use Rattle.command_text.specs.Tree.{CommandTree, Insert, Update}
use Rattle.object_rows.specs.declared.rows.ObjectRow.{ObjectRow}
use Rattle.object_rows.specs.Rows.{rows_in}

-- the command of a row: an update where the object is present, else an insert into the class
abbrev pub command_of_row : List ℕ → Bool → ObjectRow → CommandTree
command_of_row class true row = Update row.name nowhere row.sets
command_of_row class false row = Insert class row.name nowhere row.sets

-- a row's command is as if it had been read from a line
abbrev pub IsPrintableRow : List ℕ → ObjectRow → Type 0
IsPrintableRow class row = (present : Bool) → IsPrintable (command_of_row class present row)

-- so is that of each row of a text, for a class of which this is true
abbrev pub GivesPrintableCommands : Type 0
GivesPrintableCommands = (class : List ℕ) (attributes : List Attribute) (text : List ℕ) (rows : List ObjectRow) → IsShortName class
    → AllByRecursion (λ (a : Attribute). IsShortName a.name) attributes → rows_in attributes text ≡ Some rows → AllByRecursion (IsPrintableRow class) rows

-- the line of a row's command isn't longer than a line that can be read back
abbrev pub HasShortLine : List ℕ → ObjectRow → Type 0
HasShortLine class row = (present : Bool) → length (text_of (command_of_row class present row)) ≤ LEXER_LIMIT

-- so is that of each row of a text, for a class of as many attributes as a class may have, with x and y
abbrev pub GivesShortLines : Type 0
GivesShortLines = (class : List ℕ) (attributes : List Attribute) (text : List ℕ) (rows : List ObjectRow) → IsShortName class
    → AllByRecursion (λ (a : Attribute). IsShortName a.name) attributes → length attributes ≤ ATTRIBUTE_LIMIT + 2 → rows_in attributes text ≡ Some rows
    → AllByRecursion (HasShortLine class) rows
