-- Carrying out a command that was read: what it has to be like, and what it does from one moment to the next.
use Rattle.std.specs.Prelude.{◌≡◌, ◌≤◌, ◌+◌, ◌++◌, ◌&&◌, not, ℕ, Bool, true, false, List, [], length, None, Some, Vec, Result, IfErr, IfOk, OnErr}
use Rattle.std.specs.declared.alloc.Global.{Global}
use Rattle.ftl_lexer.specs.declared.buffer.TheConstants.{LEXER_LIMIT}
use Rattle.command_text.specs.declared.fault.CommandFault.{CommandFault}
use Rattle.command_text.specs.declared.fault.CommandFault.TheVariants as faults
use Rattle.command_text.specs.declared.reading.TheConstants.{LINE_LIMIT}
use Rattle.command_text.specs.Journal.{clock, is_kept, spelled}
use Rattle.command_text.specs.Line.{IsRead}
use Rattle.command_text.specs.Shape.{IsPrintable}
use Rattle.command_text.specs.Text.{text_of}
use Rattle.command_text.specs.Tree
use Rattle.command_text.specs.Tree.{CommandTree}
use Rattle.line_meaning.specs.declared.role.Role.{Role}
use Rattle.line_meaning.specs.declared.role.Role.TheVariants.{Blank, Journalled, Telling, Indexing, Filing, Ending}
use Rattle.line_meaning.specs.Answering.{answer_lines, kept_lines, query_lines}
use Rattle.line_meaning.specs.Journal.{world}
use Rattle.line_meaning.specs.Looks.{is_query, most_looks}
use Rattle.line_meaning.specs.QueryFault.{command_fault}
use Rattle.line_meaning.specs.Registry.{known}
use Rattle.line_meaning.specs.Reply.{ok_line}
use Rattle.line_meaning.specs.Role.{asks_shelf, is_on_queries, role_of}
use Rattle.line_meaning.specs.Step.{Held, all_after, fault_of, held_after}
use Rattle.database.specs.Telling.{RefusesFreely, Tally, TakesAtMost, tally}
use Rattle.session.specs.declared.next.Next.{Next}
use Rattle.session.specs.declared.next.Next.TheVariants as nexts
use Rattle.session.specs.Answers.{IsUnread, next_of}
use Rattle.kept_indexes.specs.Making.{HasRoomForOk}

-- ---- The command

-- as a line gives it: it can be printed, and its canonical line is read back as it and is short enough for that
pub record IsLegible (c : CommandTree) : Type 0 where
  pub printable : IsPrintable c
  pub canonical : spelled (text_of c) ≡ c
  pub short : length (text_of c) ≤ LEXER_LIMIT

-- whatever a line is read as
abbrev pub ReadsLegibly : Type 0
ReadsLegibly = (line : List ℕ) (c : CommandTree) → IsRead LINE_LIMIT line c → IsLegible c

-- it is carried out without the shelf
pub record IsToCarryOut (c : CommandTree) : Type 0 where
  pub legible : IsLegible c
  pub plain : asks_shelf c ≡ false

-- it changes nothing, and is answered
pub record IsTelling (c : CommandTree) : Type 0 where
  pub printable : IsPrintable c
  pub telling : role_of c ≡ Telling

-- a command that changes the objects, the regions or the clock
abbrev pub is_on_data : CommandTree → Bool
is_on_data c = is_kept c && not (is_on_queries c)

-- it is one, and the journal keeps it
pub record IsOnData (c : CommandTree) : Type 0 where
  pub kept : is_kept c ≡ true
  pub other : is_on_queries c ≡ false

abbrev pub is_class : CommandTree → Bool
is_class (Tree.Class name capacity point attributes) = true
is_class c = false

-- ---- Before it and after it

-- what is held, the bytes that were written, and how many looks and probes were counted
pub record Moment : Type 0 where
  pub holds : Held
  pub tally : Tally

abbrev pub moment : Held → List ℕ → ℕ → ℕ → Moment
moment holds said reads probes = record { holds = holds; tally = tally said reads probes }

-- the lines of its reply, before the `ok` that ends it
abbrev pub lines_by : Role → Held → CommandTree → List ℕ
lines_by Blank h c = []
lines_by Telling h c = answer_lines (world h.journal) (clock h.journal) c ++ query_lines (known h.journal) c
lines_by Indexing h c = answer_lines (world h.journal) (clock h.journal) c
lines_by Journalled h c = kept_lines (known h.journal) (known (held_after h c).journal) c
lines_by Filing h c = []
lines_by Ending h c = []

-- it is accepted: what is held goes on, and its lines stand at the end
pub record IsAccepted (c : CommandTree) (old new : Held) (before after : List ℕ) : Type 0 where
  pub accepted : fault_of old c ≡ None
  pub goes_on : new ≡ all_after old c
  pub said : after ≡ before ++ lines_by (role_of c) old c

-- Want of memory is told of no command that what is held refuses, but that the attributes of a class are copied before it
-- is judged.
abbrev pub LacksMemory : Held → CommandTree → Type 0
LacksMemory h c = is_class c ≡ false → command_fault (known h.journal) c ≡ None

-- it is refused, or memory is out, and nothing else is held
abbrev pub IsStopped : CommandTree → Held → Held → CommandFault → Type 0
IsStopped c old new (faults.Refused r) = (fault_of old c ≡ Some r) × (new ≡ old)
IsStopped c old new faults.NoMemory = LacksMemory old c × (new ≡ old)

-- What it takes, whatever comes of it: what was written stays in front, the looks are within the bound of the command,
-- and a command that evaluates nothing takes no probes.
pub record Spends (c : CommandTree) (old new : Moment) : Type 0 where
  pub within : TakesAtMost (most_looks old.holds c) old.tally new.tally
  pub plain : is_query c ≡ false → new.tally.probes ≡ old.tally.probes

-- all that a command does until its reply is to be ended; a refused one takes nothing
pub record CarriesOut {T : Type 0} (c : CommandTree) (old new : Moment) (result : Result T CommandFault) : Type 0 where
  pub accepted : IfOk result (λ _. IsAccepted c old.holds new.holds old.tally.said new.tally.said)
  pub stopped : IfErr result (IsStopped c old.holds new.holds)
  pub spends : Spends c old new
  pub free : RefusesFreely old.tally new.tally result

-- ---- What is told of it

-- a refused command changes nothing; an accepted one does what it has to, and tells what becomes of the line
abbrev pub CarriedAs : Next → CommandTree → Held → Held → List ℕ → List ℕ → Type 0
CarriedAs (nexts.Refused r) c old new before after = (fault_of old c ≡ Some r) × (new ≡ old) × (after ≡ before)
CarriedAs next c old new before after = (next ≡ next_of c) × IsAccepted c old new before after

-- want of memory changes nothing
pub record IsLacking (c : CommandTree) (old new : Held) (before after : List ℕ) : Type 0 where
  pub lacks : LacksMemory old c
  pub same : new ≡ old
  pub cut : after ≡ before

-- a command that asks nothing of the shelf was carried out
pub record Carried {E : Type 0} (c : CommandTree) (old new : Moment) (result : Result Next E) : Type 0 where
  pub carried : IfOk result (λ next. CarriedAs next c old.holds new.holds old.tally.said new.tally.said)
  pub lacks : OnErr result (IsLacking c old.holds new.holds old.tally.said new.tally.said)
  pub least : old.tally.reads ≤ new.tally.reads
  pub most : new.tally.reads ≤ old.tally.reads + most_looks old.holds c
  pub plain : is_query c ≡ false → new.tally.probes ≡ old.tally.probes
  pub unread : IfOk result (λ next. IsUnread next old.tally.reads new.tally.reads)
  pub unprobed : IfOk result (λ next. IsUnread next old.tally.probes new.tally.probes)

-- the end of a reply by what was told of the command
abbrev pub end_of : Next → List ℕ
end_of nexts.Accepted = ok_line
end_of nexts.Quit = ok_line
end_of next = []

-- where a reply is to be ended there is room for that
abbrev pub HasRoomFor : Next → Vec ℕ Global → Type 0
HasRoomFor nexts.Accepted out = HasRoomForOk out
HasRoomFor nexts.Quit out = HasRoomForOk out
HasRoomFor next out = Unit {0}
