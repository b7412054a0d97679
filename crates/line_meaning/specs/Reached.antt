-- The journals that steps lead to, and what lines lead to.
use Rattle.std.specs.Prelude.{◌≡◌, ◌≤◌, true, None, ℕ, List, [], ◌∷◌, ◌++◌, length}
use Rattle.std.specs.List.{fold}
use Rattle.command_text.specs.Journal.{Accepted, bytes_of, clock, is_kept}
use Rattle.command_text.specs.Shape.{IsPrintable}
use Rattle.command_text.specs.Text.{text_of}
use Rattle.session_file.specs.declared.kept.TheConstants.{SESSION_LINE_LIMIT}
use Rattle.line_meaning.specs.Fault.{journal_refusal}
use Rattle.line_meaning.specs.QueryFault.{command_fault}
use Rattle.line_meaning.specs.Registry.{known}
use Rattle.line_meaning.specs.Step.{Base, step}

-- an entry after those of a journal: at the tick of its clock, of a command that is kept, printable, with a canonical line
-- that a session's text may have, and refused by nothing that the journal tells
pub record IsNextEntry (journal : List Accepted) (e : Accepted) : Type 0 where
  pub tick : e.0 ≡ clock journal
  pub kept : is_kept e.1 ≡ true
  pub printable : IsPrintable e.1
  pub short : length (text_of e.1) ≤ SESSION_LINE_LIMIT
  pub accepted : command_fault (known journal) e.1 ≡ None
  pub room : journal_refusal (length journal) (bytes_of journal) e.1 ≡ None

-- each entry of the second list is one after all those before it, of which the first are in the first list
abbrev pub AreReached : List Accepted → List Accepted → Type 0
AreReached before [] = Unit {0}
AreReached before (e ∷ later) = IsNextEntry before e × AreReached (before ++ e ∷ []) later

-- the state after lines, one after another
abbrev pub after_lines : Base → List (List ℕ) → Base
after_lines b lines = fold (λ now line. (step now line).0) b lines
