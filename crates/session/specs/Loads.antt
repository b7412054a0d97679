-- What is loaded of the text of a session.
use Rattle.std.specs.Prelude.{◌≡◌, ℕ, ◌+◌, Bool, true, false, is_none, List, [], ◌∷◌, None, Result, Ok, Err, if◌then◌else◌}
use Rattle.command_text.specs.Journal.{Accepted}
use Rattle.command_text.specs.Tree.{CommandTree}
use Rattle.session_file.specs.Reading.{reading_of}
use Rattle.line_meaning.specs.Loading.{Loaded, BadLine, loading_of}
use Rattle.line_meaning.specs.Looks.{most_looks}
use Rattle.line_meaning.specs.Step.{Held, fault_of, held, held_after}
use Rattle.session.specs.declared.loading.LoadFault.{LoadFault}
use Rattle.session.specs.declared.loading.LoadFault.TheVariants as faults

-- the session of its commands, without an index, or the line of its first fault; want of memory tells nothing of the text
abbrev pub Loads : List ℕ → Result Held LoadFault → Type 0
Loads text (Ok h) = (loading_of text ≡ Loaded h.journal) × (h ≡ held h.journal)
Loads text (Err (faults.BadLine number)) = loading_of text ≡ BadLine number
Loads text (Err faults.NoMemory) = Unit {0}

-- one of its commands is entered, or it is refused
abbrev pub TakesLoaded : Held → CommandTree → Held → Bool → Type 0
TakesLoaded old c new true = (fault_of (held old.journal) c ≡ None) × (new ≡ held_after old c)
TakesLoaded old c new false = is_none (fault_of (held old.journal) c) ≡ false

-- ---- How many looks that may take

-- those of commands, one after another from a journal on, up to the first that is refused
abbrev pub looks_replayed : List Accepted → List (ℕ × CommandTree) → ℕ
looks_replayed journal [] = 0
looks_replayed journal (c ∷ later) =
    most_looks (held journal) c.1
    + (if is_none (fault_of (held journal) c.1) then looks_replayed (held_after (held journal) c.1).journal later else 0)

-- those of the text of a session: of its commands up to the first line that has no place in one
abbrev pub looks_of_loading : List ℕ → ℕ
looks_of_loading text = looks_replayed [] (reading_of text).commands
