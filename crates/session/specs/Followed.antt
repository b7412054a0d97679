-- What follows a change of the database: lines of what changes for the registered queries, and what a write makes of them.
use Rattle.std.specs.Prelude.{◌≡◌, ℕ, true, Option, None, Some, List, [], ◌∷◌, ◌++◌, Result, IfErr, IfOk, OnErr, OnOk}
use Rattle.std.specs.List.{flat_map}
use Rattle.object_store.specs.Contents.{catalog_of}
use Rattle.command_text.specs.declared.fault.CommandFault.{CommandFault}
use Rattle.command_text.specs.Tree
use Rattle.command_text.specs.Tree.{CommandTree}
use Rattle.line_meaning.specs.Step.{fault_of, held}
use Rattle.live_queries.specs.Kept.{KeptQuery}
use Rattle.live_queries.specs.Prepared.{AreFreshFor, AreMade, IsPrepared, Prepared}
use Rattle.live_queries.specs.Told.{changes_of, passings_of}
use Rattle.database.specs.declared.change.Change.{Change}
use Rattle.database.specs.declared.change.Change.TheVariants as changes
use Rattle.database.specs.declared.database.Database.{Database}
use Rattle.database.specs.Attempt.{Carries}
use Rattle.database.specs.Keeping.{clock_of, world_of_database}
use Rattle.database.specs.Written.{writes_object}
use Rattle.registry.specs.Moves.{told_moves_text}
use Rattle.session.specs.declared.state.Changed.{Changed}
use Rattle.session.specs.declared.state.State.{State}
use Rattle.session.specs.Carried.{IsStopped}
use Rattle.session.specs.State.{IsState, KeepsIndexes}

-- the database was changed by a command, and nothing else was since
pub record IsChanged (c : CommandTree) (before : ℕ) (change : Change) (s : State) : Type 0 where
  pub old : Database
  pub state : IsState s.journal (record s { database = old })
  pub carries : Carries c old s.database change
  pub tick : before ≡ clock_of old

-- the object that a change wrote
abbrev pub object_of_change : Change → Option ℕ
object_of_change (changes.Object done) = Some done.id
object_of_change _ = None

-- it is what the write makes of the registered queries
pub record IsRenewal (c : CommandTree) (change : Change) (d : Database) (live : List KeptQuery) (f : Prepared) : Type 0 where
  pub write : writes_object c ≡ true
  pub object : object_of_change change ≡ Some f.object
  pub prepared : IsPrepared live f
  pub fresh : AreFreshFor (world_of_database d) f.object f.class (clock_of d) live f.renewals

-- what is prepared of a change: nothing where it wrote to no object
abbrev pub Prepares : CommandTree → Change → Database → List KeptQuery → Option Prepared → Type 0
Prepares c change d live None = writes_object c ≡ true → object_of_change change ≡ None
Prepares c change d live (Some f) = IsRenewal c change d live f

-- the lines of a change by the rows from before it
abbrev pub lines_told : CommandTree → ℕ → Database → List KeptQuery → Option Prepared → List ℕ
lines_told c before d live (Some f) = told_moves_text (catalog_of d.store) (changes_of f.object (clock_of d) live f.renewals)
lines_told (Tree.Tick ticks) before d live None =
    told_moves_text (catalog_of d.store) (flat_map (passings_of before (clock_of d)) live)
lines_told c before d live None = []

-- what was prepared is made
abbrev pub Settles : Option Prepared → List KeptQuery → List KeptQuery → Type 0
Settles None old new = new ≡ old
Settles (Some f) old new = AreMade f.object f.class f.renewals old new

-- what follows a change from tick `before`: what it changes is told, and the command is entered; or it is stopped
pub record Follows (c : CommandTree) (before : ℕ) (change : Change) (old new : State) (said later : List ℕ)
    (result : Result (Option Prepared) CommandFault) : Type 0 where
  pub entered : IfOk result (λ _. new.journal ≡ old.journal ++ (before, c) ∷ [])
  pub accepted : IfOk result (λ _. fault_of (held old.journal) c ≡ None)
  pub prepared : IfOk result (Prepares c change old.database old.live)
  pub told : IfOk result (λ f. later ≡ said ++ lines_told c before old.database old.live f)
  pub stopped : IfErr result (IsStopped c (held old.journal) (held new.journal))
  pub database : new.database ≡ old.database
  pub live : new.live ≡ old.live

-- ---- A change that is accepted

-- a command changed the database, from the tick before it on
pub record IsMadeBy (c : CommandTree) (changed : Changed) (old new : Database) : Type 0 where
  pub carries : Carries c old new changed.change
  pub tick : changed.before ≡ clock_of old

-- the database from before it
abbrev pub with_database : State → Database → State
with_database s d = record s { database = d }

-- whoever is at the database accepts it, or nothing but the line has changed
pub record Accepts {E : Type 0} (c : CommandTree) (changed : Changed) (old new : State) (result : Result (Unit {0}) E) : Type 0 where
  pub state : OnOk result (IsState new.journal new)
  pub indexes : OnOk result ((before : Database) → IsMadeBy c changed before old.database → KeepsIndexes (with_database old before) new)
  pub database : new.database ≡ old.database
  pub journal : OnErr result (new.journal ≡ old.journal)
  pub live : OnErr result (new.live ≡ old.live)
  pub index_list : OnErr result (new.indexes ≡ old.indexes)
