-- Rows that are tried before any is entered, and taken back afterwards.
use Rattle.std.specs.Prelude.{◌≡◌, ◌<◌, ◌≤◌, vec_capacity, vec_len, ℕ, ◌+◌, Bool, true, false, is_some, Result, Ok, Err, Option, None, Some, List, [], ◌∷◌, ◌++◌, length, map}
use Rattle.std.specs.List.{AllByRecursion}
use Rattle.object_rows.specs.declared.rows.ObjectRow.{ObjectRow}
use Rattle.command_text.specs.declared.command.Command.{Command}
use Rattle.command_text.specs.declared.journal.TheConstants.{MOST_BYTES}
use Rattle.command_text.specs.Journal.{Accepted, bytes_of}
use Rattle.command_text.specs.Text.{text_of}
use Rattle.command_text.specs.Tree.{CommandTree, command_view}
use Rattle.line_meaning.specs.Import.{is_taken, journal_after_rows, rows_for, with_entry}
use Rattle.database.specs.declared.change.Change.{Change}
use Rattle.database.specs.declared.database.Database.{Database}
use Rattle.database.specs.Attempt.{Carries}
use Rattle.database.specs.Keeping.{Keeps}
use Rattle.database.specs.Taking.{IsLast, without}
use Rattle.session.specs.declared.trying.Trial.{Trial}
use Rattle.session.specs.Rows.{IsRowCommand, row_commands}

-- ---- Changes that are taken back, the last one first

abbrev pub bottom : List Change → Database → Database
bottom [] d = d
bottom (change ∷ changes) d = without change (bottom changes d)

abbrev pub IsStack : List Change → Database → Type 0
IsStack [] d = Unit {0}
IsStack (change ∷ changes) d = IsStack changes d × IsLast change (bottom changes d)

-- ---- The lists of a trial

-- the same, with room for more perhaps
pub record IsSameTrial (old new : Trial) : Type 0 where
  pub commands : new.commands.items ≡ old.commands.items
  pub changes : new.changes.items ≡ old.changes.items
  pub bytes : new.bytes ≡ old.bytes

-- one more of each needs no memory
pub record HasSpare (t : Trial) : Type 0 where
  pub commands : vec_len t.commands < vec_capacity t.commands
  pub changes : vec_len t.changes < vec_capacity t.changes

-- ---- One row after those of a trial

-- a journal with the entries of commands
abbrev pub with_entries : List Accepted → List CommandTree → List Accepted
with_entries journal [] = journal
with_entries journal (c ∷ cs) = with_entries (with_entry journal c) cs

abbrev pub journal_of : List Accepted → Trial → List Accepted
journal_of start t = with_entries start (map command_view t.commands.items)

-- the database tells the journal with the commands of the trial, whose size is known
pub record TellsTrial (start : List Accepted) (d : Database) (t : Trial) : Type 0 where
  pub keeps : Keeps (journal_of start t) d
  pub entries : length (journal_of start t) ≡ length start + length t.commands.items
  pub bytes : bytes_of (journal_of start t) ≡ t.bytes
  pub short : t.bytes ≤ MOST_BYTES

-- a command isn't taken, or it changed the database
abbrev pub Tries : List Accepted → CommandTree → Database → Database → Option Change → Type 0
Tries journal c old new None = (is_taken journal c ≡ false) × (new ≡ old)
Tries journal c old new (Some change) = (is_taken journal c ≡ true) × Carries c old new change

-- the same of the command of a line, with room in the trial for it
pub record IsTried (start : List Accepted) (c : CommandTree) (old new : Database) (t more : Trial) (line : List ℕ) (change : Change) : Type 0 where
  pub tries : Tries (journal_of start t) c old new (Some change)
  pub same : IsSameTrial t more
  pub spare : HasSpare more
  pub printed : line ≡ text_of c
  pub short : t.bytes + length line + 1 ≤ MOST_BYTES

abbrev pub TriesCommand : {E : Type 0} → List Accepted → CommandTree → Database → Database → Trial → Trial → List ℕ →
    Result (Option Change) E → Type 0
TriesCommand start c old new t more line (Ok (Some change)) = IsTried start c old new t more line change
TriesCommand start c old new t more line (Ok None) = Tries (journal_of start t) c old new None × IsSameTrial t more
TriesCommand start c old new t more line (Err fault) = (new ≡ old) × IsSameTrial t more

pub record IsAdded (command : Command) (bytes : ℕ) (change : Change) (old new : Trial) : Type 0 where
  pub commands : new.commands.items ≡ old.commands.items ++ command ∷ []
  pub changes : new.changes.items ≡ old.changes.items ++ change ∷ []
  pub size : new.bytes ≡ old.bytes + bytes

-- a command that is taken is added
abbrev pub AddsTaken : {E : Type 0} → Command → ℕ → Result (Option Change) E → Trial → Trial → Result Bool E → Type 0
AddsTaken command bytes (Ok (Some change)) old new result = (result ≡ Ok true) × IsAdded command bytes change old new
AddsTaken command bytes (Ok None) old new result = (result ≡ Ok false) × (new ≡ old)
AddsTaken command bytes (Err fault) old new result = (result ≡ Err fault) × (new ≡ old)

-- it was taken, and its change is the last of the trial
pub record IsTakenNext (start : List Accepted) (c : CommandTree) (old new : Database) (t more : Trial) : Type 0 where
  pub taken : is_taken (journal_of start t) c ≡ true
  pub told : TellsTrial start new more
  pub commands : map command_view more.commands.items ≡ map command_view t.commands.items ++ c ∷ []
  pub stack : IsStack t.changes.items old → IsStack more.changes.items new
  pub back : bottom more.changes.items new ≡ bottom t.changes.items old

pub record IsNotNext (start : List Accepted) (c : CommandTree) (old new : Database) (t more : Trial) : Type 0 where
  pub refused : is_taken (journal_of start t) c ≡ false
  pub same : new ≡ old
  pub changes : more.changes.items ≡ t.changes.items

-- a command was tried, and added where it is taken
abbrev pub Steps : {E : Type 0} → List Accepted → CommandTree → Database → Database → Trial → Trial → Result Bool E → Type 0
Steps start c old new t more (Ok true) = IsTakenNext start c old new t more
Steps start c old new t more (Ok false) = IsNotNext start c old new t more
Steps start c old new t more (Err fault) = (new ≡ old) × (more.changes.items ≡ t.changes.items)

-- ---- All rows

-- some rows were tried, and the rest is to be
pub record IsTrial (class : List ℕ) (start : List Accepted) (rows rest : List ObjectRow) (t : Trial) : Type 0 where
  pub journals : journal_after_rows class start rows ≡ journal_after_rows class (journal_of start t) rest
  pub commands : row_commands class start rows ≡ map command_view t.commands.items ++ row_commands class (journal_of start t) rest

-- all rows are taken, and these are their commands
pub record AreTaken (class : List ℕ) (start : List Accepted) (rows : List ObjectRow) (commands : List Command) : Type 0 where
  pub all : is_some (journal_after_rows class start rows) ≡ true
  pub are : row_commands class start rows ≡ map command_view commands

-- the commands of an import's text, none of which is refused
pub record AreImported (class : List ℕ) (journal : List Accepted) (text : List ℕ) (commands : List Command) : Type 0 where
  pub rows : List ObjectRow
  pub are : rows_for journal class text ≡ Some rows
  pub taken : AreTaken class journal rows commands
  pub ready : AllByRecursion IsRowCommand (map command_view commands)
