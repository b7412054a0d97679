-- One database that several users share, each with a desk: when a desk is right for the database, or has yet to follow a change.
use Rattle.std.specs.Prelude.{◌≡◌, Bool, true, false, List, [], Some}
use Rattle.command_text.specs.Journal.{Accepted}
use Rattle.command_text.specs.Tree.{CommandTree}
use Rattle.line_meaning.specs.Judging.{Held}
use Rattle.database.specs.declared.database.Database.{Database}
use Rattle.kept_indexes.specs.Kept.{entries}
use Rattle.session.specs.declared.next.Next.{Next}
use Rattle.session.specs.declared.next.Next.TheVariants as nexts
use Rattle.session.specs.declared.sharing.Desk.{Desk}
use Rattle.session.specs.declared.sharing.Shared.{Shared}
use Rattle.session.specs.declared.state.Changed.{Changed}
use Rattle.session.specs.declared.state.State.{State}
use Rattle.session.specs.Carried.{is_on_data}
use Rattle.session.specs.Followed.{IsMadeBy}
use Rattle.session.specs.State.{IsIndexed, IsState}

-- ---- A desk beside a database

-- together they are what a session of this user alone would keep
abbrev pub user_state : Database → Desk → State
user_state d k = record { journal = k.journal; database = d; live = k.live; indexes = k.indexes; line = k.line }

abbrev pub desk_of : State → Desk
desk_of s = record { journal = s.journal; live = s.live; indexes = s.indexes; line = s.line }

-- what is held of the user's lines
abbrev pub held_at : Desk → Held
held_at k = record { journal = k.journal; indexes = entries k.indexes }

-- without queries and indexes
pub record IsBare (journal : List Accepted) (k : Desk) : Type 0 where
  pub journal_is : k.journal ≡ journal
  pub live : k.live ≡ []
  pub indexes : k.indexes ≡ []

pub record IsRightBeside (d : Database) (k : Desk) : Type 0 where
  pub state : IsState k.journal (user_state d k)
  pub indexed : IsIndexed (user_state d k)

-- it was right before a change that a command made
pub record IsBehind (c : CommandTree) (changed : Changed) (d : Database) (k : Desk) : Type 0 where
  pub before : Database
  pub right : IsRightBeside before k
  pub made : IsMadeBy c changed before d

-- ---- Of the database that is shared

abbrev pub IsRightOver : Shared → Desk → Type 0
IsRightOver s k = IsRightBeside s.state.database k

-- the last change of the database is one that the user of a desk has yet to follow
pub record Awaits (c : CommandTree) (s : Shared) (k : Desk) : Type 0 where
  pub changed : Changed
  pub last : s.changed ≡ Some changed
  pub behind : IsBehind c changed s.state.database k

-- a command that isn't refused changes the database
abbrev pub changes_data : Next → CommandTree → Bool
changes_data (nexts.Refused r) c = false
changes_data next c = is_on_data c

abbrev pub IsLeftBy : Bool → CommandTree → Shared → Desk → Type 0
IsLeftBy true c s k = Awaits c s k
IsLeftBy false c s k = IsRightOver s k

-- where a command was carried out for one user, each other desk that was right is so still, or has yet to follow
abbrev pub LeavesOthers : Next → CommandTree → Shared → Shared → Type 0
LeavesOthers next c old new = (k : Desk) → IsRightOver old k → IsLeftBy (changes_data next c) c new k

-- the database was changed by a command, which is the last change, or wasn't
abbrev pub LeavesDatabase : Bool → CommandTree → Shared → Shared → Type 0
LeavesDatabase true c old new = (changed : Changed) × (new.changed ≡ Some changed) × IsMadeBy c changed old.state.database new.state.database
LeavesDatabase false c old new = new.state.database ≡ old.state.database

-- nothing that another desk goes by has changed
pub record IsSameFor (old new : Shared) : Type 0 where
  pub database : new.state.database ≡ old.state.database
  pub changed : new.changed ≡ old.changed
