-- The desks of users who share a database: when they are right, also while some have yet to follow a change.
use Rattle.std.specs.Prelude.{◌≡◌, ℕ, zero, suc, Bool, true, false, List, [], ◌∷◌}
use Rattle.std.specs.List.{AllByRecursion}
use Rattle.std.specs.Str.{bytes_eq}
use Rattle.command_text.specs.Tree.{CommandTree}
use Rattle.session.specs.declared.sharing.Desk.{Desk}
use Rattle.session.specs.declared.sharing.Shared.{Shared}
use Rattle.session.specs.Sharing.{Awaits, IsBare, IsLeftBy, IsRightOver}
use Rattle.hub.specs.declared.seat.Seat.{Seat}

abbrev pub IsRightSeat : Shared → Seat → Type 0
IsRightSeat shared s = IsRightOver shared s.desk

-- each is right, and where there is none the first will be
pub record AreRightDesks (shared : Shared) (seats : List Seat) : Type 0 where
  pub each : AllByRecursion (IsRightSeat shared) seats
  pub none : seats ≡ [] → (k : Desk) → IsBare [] k → IsRightOver shared k

-- each desk that was right is so still, or has yet to follow where a command has changed the database
abbrev pub LeavesDesks : Bool → CommandTree → Shared → Shared → Type 0
LeavesDesks changed c old new = (k : Desk) → IsRightOver old k → IsLeftBy changed c new k

-- ---- A command of the user at a place was carried out, and has changed the database or not

abbrev pub IsLeftSeat : Bool → CommandTree → Shared → Seat → Type 0
IsLeftSeat changed c shared s = IsLeftBy changed c shared s.desk

abbrev pub AreLeftAt : ℕ → Bool → CommandTree → Shared → List Seat → Type 0
AreLeftAt place changed c shared [] = Unit {0}
AreLeftAt zero changed c shared (s ∷ seats) = IsRightSeat shared s × AllByRecursion (IsLeftSeat changed c shared) seats
AreLeftAt (suc place) changed c shared (s ∷ seats) = IsLeftSeat changed c shared s × AreLeftAt place changed c shared seats

-- ---- A data command of a sender was carried out for the sender, and the others are to follow

pub record IsToFollow (sender : List ℕ) (c : CommandTree) (shared : Shared) (s : Seat) : Type 0 where
  pub own : bytes_eq sender s.user ≡ true → IsRightSeat shared s
  pub other : bytes_eq sender s.user ≡ false → Awaits c shared s.desk

abbrev pub AreToFollow : List ℕ → CommandTree → Shared → List Seat → Type 0
AreToFollow sender c shared seats = AllByRecursion (IsToFollow sender c shared) seats

-- those before a place have followed
abbrev pub HaveFollowed : ℕ → List ℕ → CommandTree → Shared → List Seat → Type 0
HaveFollowed place sender c shared [] = Unit {0}
HaveFollowed zero sender c shared (s ∷ seats) = AreToFollow sender c shared (s ∷ seats)
HaveFollowed (suc place) sender c shared (s ∷ seats) = IsRightSeat shared s × HaveFollowed place sender c shared seats
