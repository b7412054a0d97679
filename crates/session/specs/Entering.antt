-- Whether the journal has room for a command, and its canonical line where that was printed before.
use Rattle.std.specs.Prelude.{◌≡◌, ℕ, true, false, List, length, IfSome, Result, Ok, Err}
use Rattle.command_text.specs.declared.fault.CommandFault.{CommandFault}
use Rattle.command_text.specs.declared.fault.CommandFault.TheVariants as faults
use Rattle.command_text.specs.declared.refusal.Refusal.TheVariants as refusals
use Rattle.command_text.specs.Journal.{Accepted, bytes_of}
use Rattle.command_text.specs.Text.{IsLineOf, text_of}
use Rattle.command_text.specs.Tree.{CommandTree, command_view}
use Rattle.line_meaning.specs.Fault.{passes_limits}
use Rattle.session.specs.declared.state.Printed.{Printed}

-- Its canonical line was printed and there is room; or there is none; or memory is out.
abbrev pub Admits : List Accepted → CommandTree → List ℕ → Result (Unit {0}) CommandFault → Type 0
Admits journal c line (Ok u) =
    (line ≡ text_of c) × (passes_limits (length journal) (bytes_of journal) (length (text_of c)) ≡ false)
Admits journal c line (Err (faults.Refused r)) =
    (r ≡ refusals.JournalFull) × (passes_limits (length journal) (bytes_of journal) (length (text_of c)) ≡ true)
Admits journal c line (Err faults.NoMemory) = Unit {0}

-- what was printed of a command before is its canonical line
abbrev pub IsPrinted : Printed → Type 0
IsPrinted p = IfSome p.line (λ line. IsLineOf line.now (command_view p.command.now))
