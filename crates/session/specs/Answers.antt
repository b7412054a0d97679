-- What `apply` answers of a line.
use Rattle.std.specs.Prelude.{◌≡◌, ◌⊎◌, ℕ, List, ◌∷◌, ◌++◌, true, Option, None, Some, Result, IfOk, IfErr, MatchResult}
use Rattle.outside.specs.Faults.{Rose}
use Rattle.outside.specs.Shelf.{SameButAt, Texts}
use Rattle.object_rows.specs.declared.rows.ObjectRow.{ObjectRow}
use Rattle.command_text.specs.declared.reading.TheConstants.{LINE_LIMIT}
use Rattle.command_text.specs.Journal.{spelled}
use Rattle.command_text.specs.Line.{early_refusal}
use Rattle.command_text.specs.Refusals.{refusal_line}
use Rattle.command_text.specs.Tree
use Rattle.command_text.specs.Tree.{CommandTree}
use Rattle.line_meaning.specs.declared.role.Role.{Role}
use Rattle.line_meaning.specs.declared.role.Role.TheVariants.{Blank, Journalled, Telling, Indexing, Filing, Ending}
use Rattle.line_meaning.specs.Reply.{line_feed}
use Rattle.line_meaning.specs.Import.{journal_after_rows}
use Rattle.line_meaning.specs.Role.{asks_shelf, is_import, role_of}
use Rattle.line_meaning.specs.Step.{Base, Held, base, line_refusal, refusal_of, rows_imported, step}
use Rattle.session.specs.declared.next.ApplyFault.{ApplyFault}
use Rattle.session.specs.declared.next.ApplyFault.TheVariants as apply_faults
use Rattle.session.specs.declared.next.Next.{Next}
use Rattle.session.specs.declared.next.Next.TheVariants as nexts

-- what an accepted command tells whoever applied it
abbrev pub next_by : Role → Next
next_by Blank = nexts.Silent
next_by Ending = nexts.Quit
next_by Journalled = nexts.Accepted
next_by Telling = nexts.Accepted
next_by Indexing = nexts.Accepted
next_by Filing = nexts.Accepted

abbrev pub next_of : CommandTree → Next
next_of c = next_by (role_of c)

-- A refused line changes nothing, and its reply is left to whoever applied it. Any other is one step, by the bytes before
-- and after its reply.
abbrev pub Answers : Next → Base → List ℕ → Held → List ℕ → List ℕ → Type 0
Answers (nexts.Refused r) b line new before after =
    (refusal_of b line ≡ Some r) × (step b line ≡ (b, refusal_line r ++ line_feed)) × (new ≡ b.held) × (after ≡ before)
Answers next b line new before after =
    (refusal_of b line ≡ None) × (next ≡ next_of (spelled line)) × (new ≡ (step b line).0.held)
    × (after ≡ before ++ (step b line).1)

-- the texts of the shelf need to be told for an import alone
abbrev pub Suffices : Option Texts → List ℕ → Texts → Type 0
Suffices told line texts = is_import (spelled line) ≡ true → told ≡ Some texts

-- texts that a shelf may have: those that it tells, and any where it tells none
abbrev pub MayHave : Option Texts → Texts → Type 0
MayHave told texts = (all : Texts) → told ≡ Some all → texts ≡ all

-- a refused line changes nothing, also where no text is told
abbrev pub KeepsIfRefused : Next → Held → Held → List ℕ → List ℕ → Type 0
KeepsIfRefused (nexts.Refused r) old new before after = (new ≡ old) × (after ≡ before)
KeepsIfRefused next old new before after = Unit {0}

-- ---- Failures

-- the same texts but for the one that a command was to write
abbrev pub SameButFile : CommandTree → Texts → Texts → Type 0
SameButFile (Tree.Save file) old left = SameButAt file old left
SameButFile (Tree.Export class file) old left = SameButAt file old left
SameButFile c old left = left ≡ old

-- what a failure of the shelf leaves of the texts
abbrev pub LeavesTexts : CommandTree → Option Texts → Option Texts → Type 0
LeavesTexts c told left = (texts : Texts) → told ≡ Some texts → (rest : Texts) × (left ≡ Some rest) × SameButFile c texts rest

-- the first of the rows of an import were entered, and at least one of them was not
pub record HasFirstRows (b : Base) (class file : List ℕ) (new : Held) : Type 0 where
  pub first : List ObjectRow
  pub row : ObjectRow
  pub later : List ObjectRow
  pub rows : rows_imported b class file ≡ Some (first ++ row ∷ later)
  pub entered : journal_after_rows class b.held.journal first ≡ Some new.journal
  pub indexes : new.indexes ≡ b.held.indexes

-- what want of memory leaves: all as before, but that an import may have entered some rows
abbrev pub LeavesHeld : Base → CommandTree → Held → Type 0
LeavesHeld b (Tree.Import class file) new = (new ≡ b.held) ⊎ HasFirstRows b class file new
LeavesHeld b c new = new ≡ b.held

-- the shelf fails only of a command on files that nothing refuses, and changes nothing but the text that it was to write
pub record IsShelfFault (told left : Option Texts) (line : List ℕ) (old new : Held) (before after : List ℕ) : Type 0 where
  pub asks : asks_shelf (spelled line) ≡ true
  pub accepted : line_refusal old line ≡ None
  pub held_stays : new ≡ old
  pub said : after ≡ before
  pub texts : LeavesTexts (spelled line) told left

-- want of memory is told of no line that one of the first three refusals holds of
pub record IsNoMemory (told left : Option Texts) (line : List ℕ) (old new : Held) (before after : List ℕ) : Type 0 where
  pub late : early_refusal LINE_LIMIT line ≡ None
  pub said : after ≡ before
  pub texts : (texts : Texts) → told ≡ Some texts → left ≡ Some texts
  pub leaves : (texts : Texts) → Suffices told line texts → LeavesHeld (base old texts) (spelled line) new

abbrev pub FailsAtLine : ApplyFault → Option Texts → Option Texts → List ℕ → Held → Held → List ℕ → List ℕ → Type 0
FailsAtLine apply_faults.ShelfFault told left line old new before after = IsShelfFault told left line old new before after
FailsAtLine apply_faults.NoMemory told left line old new before after = IsNoMemory told left line old new before after

-- ---- All that is promised of one line, from what was held and told of the shelf before it to what is after it, by the
-- bytes before and after its reply
pub record Applies (told left : Option Texts) (line : List ℕ) (old new : Held) (before after : List ℕ)
    (result : Result Next ApplyFault) : Type 0 where
  pub answers : (texts : Texts) → Suffices told line texts →
      IfOk result (λ next. Answers next (base old texts) line new before after)
  pub refused : IfOk result (λ next. KeepsIfRefused next old new before after)
  pub texts : (texts : Texts) → told ≡ Some texts → IfOk result (λ next. left ≡ Some (step (base old texts) line).0.texts)
  pub fails : IfErr result (λ fault. FailsAtLine fault told left line old new before after)

-- the shelf is blamed only where its count rose
abbrev pub FaultCounts : ℕ → ℕ → ApplyFault → Type 0
FaultCounts before now apply_faults.ShelfFault = Rose before now
FaultCounts before now apply_faults.NoMemory = now ≡ before

abbrev pub HasFaultCause : ℕ → ℕ → Result Next ApplyFault → Type 0
HasFaultCause before now result = MatchResult result (λ _. now ≡ before) (FaultCounts before now)

-- a refused line and one without a reply look at no object
abbrev pub IsUnread : Next → ℕ → ℕ → Type 0
IsUnread (nexts.Refused r) before after = after ≡ before
IsUnread nexts.Silent before after = after ≡ before
IsUnread next before after = Unit {0}
