-- What is answered of a command that changes nothing, by the bytes before and after.
use Rattle.std.specs.Prelude.{◌≡◌, ◌≤◌, ◌+◌, ℕ, false, List, ◌++◌, Option, None, Some, Result, Ok, Err, IfErr}
use Rattle.tick_set.specs.declared.spans.TheConstants.{LAST_TICK}
use Rattle.history.specs.World.{World}
use Rattle.command_text.specs.declared.fault.CommandFault.{CommandFault}
use Rattle.command_text.specs.declared.fault.CommandFault.TheVariants as faults
use Rattle.command_text.specs.declared.refusal.Refusal.{Refusal}
use Rattle.command_text.specs.Tree.{CommandTree}
use Rattle.ftl_parser.specs.Lawful.{IsLawful}
use Rattle.ftl_parser.specs.Tree.{QueryTree}
use Rattle.line_meaning.specs.Answering.{answer_lines}
use Rattle.line_meaning.specs.Ask.{ask_refusal, rows_asked}
use Rattle.line_meaning.specs.declared.role.Role.TheVariants.{Telling}
use Rattle.line_meaning.specs.Reply.{rows_text}
use Rattle.line_meaning.specs.Role.{is_on_queries, role_of}
use Rattle.reply_text.specs.Begins.{Begins}
use Rattle.database.specs.declared.database.Database.{Database}
use Rattle.database.specs.Attempt.{fault_told}
use Rattle.database.specs.Keeping.{clock_of, world_of_database}
use Rattle.database.specs.Ready.{IsReadyCommand}

-- it is stopped by its refusal, or wants memory where it has none
abbrev pub IsStoppedBy : Option Refusal → CommandFault → Type 0
IsStoppedBy refusal (faults.Refused r) = refusal ≡ Some r
IsStoppedBy refusal faults.NoMemory = refusal ≡ None

-- by its refusal and its lines
abbrev pub RefusesOrWrites : Option Refusal → (lines before after : List ℕ) → Result (Unit {0}) CommandFault → Type 0
RefusesOrWrites refusal lines before after (Ok u) = (refusal ≡ None) × (after ≡ before ++ lines)
RefusesOrWrites refusal lines before after (Err fault) = IsStoppedBy refusal fault

abbrev pub Tells : Database → CommandTree → List ℕ → List ℕ → Result (Unit {0}) CommandFault → Type 0
Tells d c = RefusesOrWrites (fault_told d c) (answer_lines (world_of_database d) (clock_of d) c)

-- the same of a query
abbrev pub Asks : World → ℕ → ℕ → QueryTree → List ℕ → List ℕ → Result (Unit {0}) CommandFault → Type 0
Asks w now span q = RefusesOrWrites (ask_refusal w now span q) (rows_text w.history.catalog now (rows_asked w now span q))

-- a refusal, and no want of memory
abbrev pub IsRefused : CommandFault → Type 0
IsRefused (faults.Refused r) = Unit {0}
IsRefused faults.NoMemory = ⊥

-- ---- What is required, and what it takes

-- a command that the database answers
pub record IsToTell (c : CommandTree) : Type 0 where
  pub telling : role_of c ≡ Telling
  pub other : is_on_queries c ≡ false
  pub ready : IsReadyCommand c

-- a query that is asked from now on, for so many ticks more
pub record IsToAsk (d : Database) (span : ℕ) (q : QueryTree) : Type 0 where
  pub lawful : IsLawful q
  pub now : d.clock ≤ LAST_TICK
  pub reach : span ≤ LAST_TICK

-- the bytes that were written, and how many looks and probes were counted
pub record Tally : Type 0 where
  pub said : List ℕ
  pub reads : ℕ
  pub probes : ℕ

abbrev pub tally : List ℕ → ℕ → ℕ → Tally
tally said reads probes = record { said = said; reads = reads; probes = probes }

-- what was written stays in front, and the looks are within a bound, whatever comes of it
pub record TakesAtMost (bound : ℕ) (old new : Tally) : Type 0 where
  pub begins : Begins old.said new.said
  pub least : old.reads ≤ new.reads
  pub most : new.reads ≤ old.reads + bound

-- a refusal takes no step
pub record RefusesFreely {T : Type 0} (old new : Tally) (result : Result T CommandFault) : Type 0 where
  pub unread : IfErr result (λ fault. IsRefused fault → new.reads ≡ old.reads)
  pub unprobed : IfErr result (λ fault. IsRefused fault → new.probes ≡ old.probes)
