-- What a database tells, and which journal it keeps.
use Rattle.std.specs.Prelude.{◌≡◌, ℕ, ◌≤◌, List}
use Rattle.tick_set.specs.declared.spans.TheConstants.{LAST_TICK}
use Rattle.history.specs.World.{World}
use Rattle.object_store.specs.Contents.{history_of}
use Rattle.answers.specs.Objects.{IsOfAcceptedWrites}
use Rattle.command_text.specs.Journal.{Accepted, clock}
use Rattle.line_meaning.specs.Journal.{world}
use Rattle.database.specs.declared.database.Database.{Database}

-- all that a query may ask of
abbrev pub world_of_database : Database → World
world_of_database d = record { history = history_of d.store; regions = d.regions }

abbrev pub clock_of : Database → ℕ
clock_of d = d.clock

-- the clock is within the last tick, and nothing was written past it
pub record IsTimely (d : Database) : Type 0 where
  pub in_range : d.clock ≤ LAST_TICK
  pub written : d.store.last_tick ≤ d.clock

-- the objects are those of writes within their limits
abbrev pub TellsAcceptedWrites : Database → Type 0
TellsAcceptedWrites d = IsOfAcceptedWrites d.store

-- the database tells what the journal tells, and its clock is the journal's
pub record Keeps (journal : List Accepted) (d : Database) : Type 0 where
  pub told_is : world_of_database d ≡ world journal
  pub clock_is : clock_of d ≡ clock journal
  pub timely : IsTimely d
