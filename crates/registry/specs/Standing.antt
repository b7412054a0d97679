-- The registered queries of a database.
use Rattle.std.specs.Prelude.{◌≡◌, ◌≤◌, ℕ, List, All, map}
use Rattle.line_meaning.specs.Registry.{Known, Registration}
use Rattle.live_queries.specs.Asked.{FitsWorld, class_in}
use Rattle.live_queries.specs.Current.{AreCurrent}
use Rattle.live_queries.specs.Kept.{KeptQuery, registered_query}
use Rattle.live_queries.specs.Prepared.{AreFreshFor, IsPrepared, Prepared}
use Rattle.database.specs.declared.database.Database.{Database}
use Rattle.database.specs.Keeping.{clock_of, world_of_database}

abbrev pub registration_of : KeptQuery → Registration
registration_of k = record { name = k.name; query = registered_query k }

-- what a database and its registered queries tell by which commands are judged
abbrev pub known_of : Database → List KeptQuery → Known
known_of d live = record { world = world_of_database d; now = clock_of d; live = map registration_of live }

-- their rows are current at the clock's tick, and none was registered later
pub record Stand (d : Database) (live : List KeptQuery) : Type 0 where
  pub current : AreCurrent (world_of_database d) (clock_of d) live
  pub fits : All (FitsWorld (world_of_database d)) live
  pub entered : All (λ k. k.entry ≤ clock_of d) live

-- their rows were current at an earlier tick, when all of them were registered
pub record StoodAt (d : Database) (before : ℕ) (live : List KeptQuery) : Type 0 where
  pub upto : before ≤ clock_of d
  pub current : AreCurrent (world_of_database d) before live
  pub entered : All (λ k. k.entry ≤ before) live

-- what a write to an object makes of them
pub record Renews (d : Database) (live : List KeptQuery) (id : ℕ) (f : Prepared) : Type 0 where
  pub object : f.object ≡ id
  pub class : f.class ≡ class_in d.store id
  pub prepared : IsPrepared live f
  pub fresh : AreFreshFor (world_of_database d) f.object f.class (clock_of d) live f.renewals
