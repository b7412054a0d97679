-- What the text of a session leads to.
use Rattle.std.specs.Prelude.{◌≡◌, ℕ, ◌+◌, is_none, Option, None, Some, List, [], ◌∷◌, length, if◌then◌else◌}
use Rattle.std.specs.Str.Lines.{lines}
use Rattle.command_text.specs.Journal.{Accepted}
use Rattle.command_text.specs.Tree.{CommandTree}
use Rattle.session_file.specs.declared.fault.FileFault.{FileFault}
use Rattle.session_file.specs.declared.fault.FileFault.TheVariants as faults
use Rattle.session_file.specs.Reading.{Reading, reading_of}
use Rattle.line_meaning.specs.Judging.{fault_of, held, held_after}

-- the journal of its commands, or the number of the line of its first fault
pub data Loading : Type 0 where
  Loaded : List Accepted → Loading
  BadLine : ℕ → Loading

-- some line is bad, and nothing is loaded
abbrev pub IsBadLine : Loading → Type 0
IsBadLine loading = (number : ℕ) × (loading ≡ BadLine number)

-- commands with the numbers of their lines, one after another from a journal on, up to the first that is refused
abbrev pub replayed : List Accepted → List (ℕ × CommandTree) → Loading
replayed journal [] = Loaded journal
replayed journal (c ∷ later) =
    if is_none (fault_of (held journal) c.1) then replayed (held_after (held journal) c.1).journal later else BadLine c.0

-- the line of a fault of so many lines: the first for the header, and the one past the last where the end lacks
abbrev pub line_of_fault : ℕ → FileFault → ℕ
line_of_fault count faults.BadHeader = 1
line_of_fault count (faults.BadLine number) = number
line_of_fault count faults.NoEnd = count + 1
line_of_fault count faults.NoMemory = 0

abbrev pub loading_by : ℕ → Reading → Option FileFault → Loading
loading_by count reading (Some fault) = BadLine (line_of_fault count fault)
loading_by count reading None = replayed [] reading.commands

-- the faults of its form come before the refusals of its commands
unfoldable pub loading_of : List ℕ → Loading
loading_of text = loading_by (length (lines text)) (reading_of text) (reading_of text).fault
