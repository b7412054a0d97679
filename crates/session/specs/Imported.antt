-- What an import of a text makes of what is held.
use Rattle.std.specs.Prelude.{◌≡◌, ◌⊎◌, ℕ, None, Some, List, ◌++◌, map, Result, Ok, Err}
use Rattle.command_text.specs.declared.command.Command.{Command}
use Rattle.command_text.specs.declared.refusal.Refusal.TheVariants as refusals
use Rattle.command_text.specs.Journal.{Accepted}
use Rattle.command_text.specs.Shape.{IsShortName}
use Rattle.command_text.specs.Tree.{command_view}
use Rattle.line_meaning.specs.Fault.{class_refusal}
use Rattle.line_meaning.specs.Import.{journal_after_text}
use Rattle.line_meaning.specs.Journal.{world}
use Rattle.line_meaning.specs.Reply.{ok_line}
use Rattle.session.specs.declared.next.ApplyFault.{ApplyFault}
use Rattle.session.specs.declared.next.ApplyFault.TheVariants as apply_faults
use Rattle.session.specs.declared.next.Next.{Next}
use Rattle.session.specs.declared.next.Next.TheVariants as nexts
use Rattle.session.specs.Rows.{LeavesSome, journal_after_commands, lines_of_commands}
use Rattle.session.specs.Trial.{AreImported}

-- a class that is there, by a name that lines may have
pub record IsThere (journal : List Accepted) (class : List ℕ) : Type 0 where
  pub known : class_refusal (world journal).history.catalog class ≡ None
  pub name : IsShortName class

-- all rows were entered
pub record EntersRows (class text : List ℕ) (old new : List Accepted) (before after : List ℕ) : Type 0 where
  pub commands : List Command
  pub are : AreImported class old text commands
  pub entered : journal_after_commands old (map command_view commands) ≡ Some new
  pub said : after ≡ before ++ (lines_of_commands old (map command_view commands) ++ ok_line)

-- want of memory came before the last row was
pub record EntersFirst (class text : List ℕ) (old new : List Accepted) : Type 0 where
  pub commands : List Command
  pub are : AreImported class old text commands
  pub leaves : LeavesSome old (map command_view commands) new

abbrev pub Imports : List ℕ → List ℕ → List Accepted → List Accepted → List ℕ → List ℕ → Result Next ApplyFault → Type 0
Imports class text old new before after (Ok (nexts.Refused r)) =
    (r ≡ refusals.BadFile) × (journal_after_text old class text ≡ None) × (new ≡ old) × (after ≡ before)
Imports class text old new before after (Ok nexts.Accepted) = EntersRows class text old new before after
Imports class text old new before after (Ok next) = ⊥
Imports class text old new before after (Err apply_faults.NoMemory) = (new ≡ old) ⊎ EntersFirst class text old new
Imports class text old new before after (Err apply_faults.ShelfFault) = ⊥
