-- When what is kept is what a journal tells.
use Rattle.std.specs.Prelude.{◌≡◌, List, [], map}
use Rattle.command_text.specs.Journal.{Accepted}
use Rattle.line_meaning.specs.Judging.{Held}
use Rattle.line_meaning.specs.Reached.{AreReached}
use Rattle.line_meaning.specs.Registry.{registered}
use Rattle.database.specs.Keeping.{Keeps}
use Rattle.registry.specs.Standing.{Stand, registration_of}
use Rattle.kept_indexes.specs.Kept.{AreIndexes, entries}
use Rattle.session.specs.declared.state.State.{State}

-- the database tells the journal, and the registered queries are the journal's, with current rows
pub record IsState (journal : List Accepted) (s : State) : Type 0 where
  pub journal_is : s.journal ≡ journal
  pub keeps : Keeps journal s.database
  pub queries : map registration_of s.live ≡ registered journal
  pub stand : Stand s.database s.live
  pub reached : AreReached [] journal

-- ---- The indexes beside it

-- what is held
abbrev pub holds : State → Held
holds s = record { journal = s.journal; indexes = entries s.indexes }

-- they are right for the database
abbrev pub IsIndexed : State → Type 0
IsIndexed s = AreIndexes s.journal s.database.store s.indexes

-- what is done leaves the list of them, and leaves them right
pub record KeepsIndexes (old new : State) : Type 0 where
  pub entries : entries new.indexes ≡ entries old.indexes
  pub right : IsIndexed old → IsIndexed new
