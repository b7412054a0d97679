-- Which commands and lines are refused, by what is held of the lines before; and what the journal keeps.
use Rattle.std.specs.Prelude.{ℕ, Option, None, Some, List, [], ◌∷◌, ◌++◌, length, if◌then◌else◌}
use Rattle.command_text.specs.declared.reading.TheConstants.{LINE_LIMIT}
use Rattle.command_text.specs.declared.refusal.Refusal.{Refusal}
use Rattle.command_text.specs.Journal.{Accepted, bytes_of, clock, is_kept, spelled}
use Rattle.exact.specs.First.{or_else}
use Rattle.command_text.specs.Line.{first_refusal}
use Rattle.command_text.specs.Tree.{CommandTree}
use Rattle.line_meaning.specs.declared.role.Role.{Role}
use Rattle.line_meaning.specs.declared.role.Role.TheVariants.{Blank, Indexing, Ending}
use Rattle.line_meaning.specs.Fault.{journal_refusal}
use Rattle.line_meaning.specs.Indexed.{IndexEntry, index_fault, indexes_after}
use Rattle.line_meaning.specs.Journal.{world}
use Rattle.line_meaning.specs.QueryFault.{command_fault}
use Rattle.line_meaning.specs.Registry.{known}
use Rattle.line_meaning.specs.Role.{role_of}

-- What the database holds of the lines before: the commands that it accepted, each with its tick, and the indexes. These are
-- never saved, so a session that is loaded has none.
pub record Held : Type 0 where
  pub journal : List Accepted
  pub indexes : List IndexEntry

abbrev pub held : List Accepted → Held
held journal = record { journal = journal; indexes = [] }

-- the refusals of a command by its role: a blank line and a `quit` have none
abbrev pub fault_by : Role → Held → CommandTree → Option Refusal
fault_by Blank h c = None
fault_by Ending h c = None
fault_by Indexing h c = index_fault h.indexes (world h.journal) (clock h.journal) c
fault_by role h c =
    or_else (command_fault (known h.journal) c) (journal_refusal (length h.journal) (bytes_of h.journal) c)

-- the first refusal of a command that was read, but for those of its texts
abbrev pub fault_of : Held → CommandTree → Option Refusal
fault_of h c = fault_by (role_of c) h c

-- the first refusal of a line that depends on the line and on what is held
unfoldable pub line_refusal : Held → List ℕ → Option Refusal
line_refusal h line = or_else (first_refusal LINE_LIMIT line) (fault_of h (spelled line))

-- what an accepted command adds to the journal
abbrev pub entries_of : ℕ → CommandTree → List Accepted
entries_of now c = if is_kept c then (now, c) ∷ [] else []

-- what is held after an accepted command, but for an `import` and for the indexes
abbrev pub held_after : Held → CommandTree → Held
held_after h c = record h { journal = h.journal ++ entries_of (clock h.journal) c }

-- and with what it makes of the indexes
abbrev pub all_after : Held → CommandTree → Held
all_after h c = record (held_after h c) { indexes = indexes_after h.indexes (world h.journal) (clock h.journal) (length h.journal) c }
