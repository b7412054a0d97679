-- What the parts of a hub are seen as, and what holds of them.
use Rattle.std.specs.Prelude.{◌≡◌, ◌+◌, ◌≤◌, true, false, List, [], ◌∷◌, length, map}
use Rattle.std.specs.List.{AllByRecursion, filter}
use Rattle.command_text.specs.Journal.{Accepted}
use Rattle.command_text.specs.Tree.{CommandTree}
use Rattle.line_meaning.specs.Reached.{AreReached}
use Rattle.users.specs.declared.sender.TheConstants.{USER_LIMIT}
use Rattle.feeds_meaning.specs.declared.limits.TheConstants.{DATA_LINES_LIMIT, QUERY_LINES_LIMIT, USERS_LIMIT}
use Rattle.feeds_meaning.specs.Hub.{Hub, Seated, has_user}
use Rattle.feeds_meaning.specs.Lines.{is_data}

-- the entries of data commands
abbrev pub data_entries : List Accepted → List Accepted
data_entries journal = filter (λ e. is_data e.1) journal

abbrev pub data_commands : List Accepted → List CommandTree
data_commands journal = map (λ e. e.1) (data_entries journal)

-- of the first user, as of each
abbrev pub accepted_in : List Seated → List CommandTree
accepted_in [] = []
accepted_in (s ∷ seats) = data_commands s.seat.held.journal

-- no two users are one
abbrev pub AreDistinctUsers : List Seated → Type 0
AreDistinctUsers [] = Unit {0}
AreDistinctUsers (s ∷ seats) = AllByRecursion (λ t. has_user s.user t ≡ false) seats × AreDistinctUsers seats

-- what holds of a user where these data commands were accepted
pub record IsUser (accepted : List CommandTree) (s : Seated) : Type 0 where
  pub reached : AreReached [] s.seat.held.journal
  pub shared : data_commands s.seat.held.journal ≡ accepted
  pub here : s.seat.here ≡ true
  pub data_lines : s.seat.data_lines ≡ length accepted
  pub entries : length s.seat.held.journal ≤ s.seat.data_lines + s.seat.query_lines
  pub few : s.seat.query_lines ≤ QUERY_LINES_LIMIT
  pub short : length s.user ≤ USER_LIMIT

pub record IsHub (h : Hub) : Type 0 where
  pub users : AllByRecursion (IsUser h.accepted) h.seats
  pub accepted_is : h.accepted ≡ accepted_in h.seats
  pub few : length h.accepted ≤ DATA_LINES_LIMIT
  pub few_users : length h.seats ≤ USERS_LIMIT
  pub apart : AreDistinctUsers h.seats
