-- The parts of a hub as the hub that they are seen as.
use Rattle.std.specs.Prelude.{◌≡◌, ℕ, ◌-◌, ◌<◌, ◌≤◌, Bool, true, false, ◌&&◌, is_none, Option, None, Some, option_map, List, [], ◌∷◌, ◌++◌, length, map, slice_get, slice_set, if◌then◌else◌}
use Rattle.std.specs.List.{flat_map}
use Rattle.std.specs.Option.{option_map_or}
use Rattle.std.specs.Str.{bytes_eq}
use Rattle.command_text.specs.declared.refusal.Refusal.{Refusal}
use Rattle.command_text.specs.Journal.{Accepted, spelled}
use Rattle.command_text.specs.Refusals.{refusal_line}
use Rattle.command_text.specs.Text.{text_of}
use Rattle.command_text.specs.Tree.{CommandTree}
use Rattle.line_meaning.specs.Judging.{Held, all_after, fault_of, held_after}
use Rattle.line_meaning.specs.Reply.{line_feed}
use Rattle.users.specs.declared.sender.TheConstants.{USER_LIMIT}
use Rattle.users.specs.Tagged.{tagged}
use Rattle.feeds_meaning.specs.declared.limits.TheConstants.{DATA_LINES_LIMIT, QUERY_LINES_LIMIT}
use Rattle.feeds_meaning.specs.Heard.{Seat, count_with_line, other_by, other_text, own_by, own_refusal}
use Rattle.feeds_meaning.specs.Hub.{Hub, Seated, added, has_room, has_user, hub_step, seats_with}
use Rattle.feeds_meaning.specs.Lines.{is_data, is_of_queries}
use Rattle.hub.specs.Answering.{answer_by}
use Rattle.hub.specs.Seats.{IsHub, accepted_in, data_entries}
use Rattle.hub.specs.declared.parts.Parts.{Parts}
use Rattle.hub.specs.declared.seat.Seat.{Seat as Place}
use Rattle.session.specs.Sharing.{held_at}
use Rattle.hub.specs.Desks.{AreRightDesks}

-- a user, with what is held of this user's lines
pub record HeldUser : Type 0 where
  pub user : List ℕ
  pub held : Held
  pub query_lines : ℕ

abbrev pub held_user : Place → HeldUser
held_user s = record { user = s.user; held = held_at s.desk; query_lines = s.query_lines }

abbrev pub held_users : List Place → List HeldUser
held_users seats = map held_user seats

-- a user, where so many data commands were accepted
abbrev pub seated : ℕ → HeldUser → Seated
seated data_lines s = record {
  user = s.user;
  seat = record { held = s.held; here = true; data_lines = data_lines; query_lines = s.query_lines };
}

abbrev pub hub_of : Parts → Hub
hub_of p = record {
  seats = map (seated p.data_lines) (held_users p.seats.items);
  accepted = accepted_in (map (seated p.data_lines) (held_users p.seats.items));
}

-- the hub, or none once want of memory has spent it
abbrev pub served : Parts → (is_spent : Bool) → Option Hub
served p is_spent = if is_spent then None else Some (hub_of p)

-- what holds of the parts
pub record AreRightParts (p : Parts) : Type 0 where
  pub hub : IsHub (hub_of p)
  pub data_lines : p.data_lines ≡ length (hub_of p).accepted
  pub desks : AreRightDesks p.shared p.seats.items

-- a line was answered: the hub goes on, and what is told of the line stands at the end
pub record IsLineTold (old new : Hub) (line before after : List ℕ) : Type 0 where
  pub goes_on : new ≡ (hub_step old line).0
  pub said : after ≡ before ++ (hub_step old line).1

-- ---- A line of a user, by the command that it is and its refusal

-- the data command that is accepted
abbrev pub change_by : CommandTree → Option Refusal → Option CommandTree
change_by c refusal = if is_none refusal && is_data c then Some c else None

-- what it leaves of a seat, and the text that is told of it
abbrev pub taken_by : List ℕ → CommandTree → Option Refusal → Seated → Seat × List ℕ
taken_by user c refusal s =
    if has_user user s then own_by s.seat c refusal
    else option_map_or (other_by s.seat) (change_by c refusal) (s.seat, [])

abbrev pub seated_by : List ℕ → CommandTree → Option Refusal → Seated → Seated
seated_by user c refusal s = record { user = s.user; seat = (taken_by user c refusal s).0 }

abbrev pub told_to_seat : List ℕ → CommandTree → Option Refusal → Seated → List ℕ
told_to_seat user c refusal s = tagged s.user (taken_by user c refusal s).1

-- the user has a seat
pub record IsAnsweredBy (user : List ℕ) (c : CommandTree) (refusal : Option Refusal) (old new : Hub) (before after : List ℕ) : Type 0 where
  pub seats : new.seats ≡ map (seated_by user c refusal) old.seats
  pub accepted : new.accepted ≡ old.accepted ++ added (change_by c refusal)
  pub said : after ≡ before ++ flat_map (told_to_seat user c refusal) old.seats

-- a command of the user at a place is answered by what is held of this user's lines
abbrev pub IsAnsweredAt : (place : ℕ) → CommandTree → (old new : Hub) → (before after : List ℕ) → Type 0
IsAnsweredAt place c old new before after = (s : Seated) → slice_get old.seats place ≡ Some s →
    IsAnsweredBy s.user c (fault_of s.seat.held c) old new before after

-- as is a line
abbrev pub IsSentAt : (place : ℕ) → (line : List ℕ) → (old new : Hub) → (before after : List ℕ) → Type 0
IsSentAt place line old new before after = (s : Seated) → slice_get old.seats place ≡ Some s →
    IsAnsweredBy s.user (spelled line) (own_refusal s.seat line) old new before after

-- there is room for what a command of the user at a place would count
pub record HasRoomAt (place : ℕ) (c : CommandTree) (h : Hub) : Type 0 where
  pub of_data : is_data c ≡ true → length h.accepted < DATA_LINES_LIMIT
  pub of_queries : is_of_queries c ≡ true → (s : Seated) → slice_get h.seats place ≡ Some s → s.seat.query_lines < QUERY_LINES_LIMIT

-- ---- What each user keeps and is told of a command

-- the sender keeps
abbrev pub kept_own : CommandTree → Option Refusal → HeldUser → HeldUser
kept_own c (Some refusal) s = s
kept_own c None s = record s { held = all_after s.held c; query_lines = count_with_line (is_of_queries c) s.query_lines }

-- the sender's command was accepted or not
pub record IsOwnOf (c : CommandTree) (old new : HeldUser) (text : List ℕ) (accepted : Bool) : Type 0 where
  pub told : accepted ≡ is_none (fault_of old.held c)
  pub kept_is : new ≡ kept_own c (fault_of old.held c) old
  pub text_is : text ≡ answer_by old.held c (fault_of old.held c)

-- so it is of the user at a place
abbrev pub IsOwnAt : (place : ℕ) → CommandTree → (old new : List HeldUser) → (text : List ℕ) → Bool → Type 0
IsOwnAt place c old new text accepted = (s : HeldUser) → slice_get old place ≡ Some s →
    (t : HeldUser) × IsOwnOf c s t text accepted × (new ≡ slice_set old place t)

-- a refusal was written for the user at a place
abbrev pub IsRefusedAt : (place : ℕ) → Refusal → List HeldUser → (before after : List ℕ) → Type 0
IsRefusedAt place refusal seats before after = (s : HeldUser) → slice_get seats place ≡ Some s →
    after ≡ before ++ tagged s.user (refusal_line refusal ++ line_feed)

-- a user who is told of an accepted data command of the sender, who has carried it out
pub record MayBeTold (sender : List ℕ) (c : CommandTree) (s : HeldUser) : Type 0 where
  pub accepted : bytes_eq sender s.user ≡ false → fault_of s.held c ≡ None
  pub short : length s.user ≤ USER_LIMIT

abbrev pub kept_told : (sender : List ℕ) → CommandTree → HeldUser → HeldUser
kept_told sender c s = if bytes_eq sender s.user then s else record s { held = held_after s.held c }

abbrev pub told_kept : (sender own : List ℕ) → CommandTree → HeldUser → List ℕ
told_kept sender own c s = tagged s.user (if bytes_eq sender s.user then own else other_text s.held c)

-- who isn't the sender takes it by its canonical line
abbrev pub HasLineFor : (sender : List ℕ) → CommandTree → (line : List ℕ) → HeldUser → Type 0
HasLineFor sender c line s = bytes_eq sender s.user ≡ false → line ≡ text_of c

-- the canonical line of the last entry
abbrev pub IsLastLine : List Accepted → List ℕ → Type 0
IsLastLine journal line = (e : Accepted) → slice_get journal (length journal - 1) ≡ Some e → line ≡ text_of e.1

abbrev pub HasLastLineAt : ℕ → List HeldUser → List ℕ → Type 0
HasLastLineAt place seats line = (s : HeldUser) → slice_get seats place ≡ Some s → IsLastLine s.held.journal line

-- the user at a place has sent it, and it was accepted and is the last entry
pub record IsSender (sender : List ℕ) (c : CommandTree) (s : HeldUser) : Type 0 where
  pub user : s.user ≡ sender
  pub last : option_map (λ e. e.1) (slice_get s.held.journal (length s.held.journal - 1)) ≡ Some c

abbrev pub HasSentAt : ℕ → (sender : List ℕ) → CommandTree → List HeldUser → Type 0
HasSentAt place sender c seats = (s : HeldUser) → slice_get seats place ≡ Some s → IsSender sender c s

-- all users were told of it
pub record AreTold (sender own : List ℕ) (c : CommandTree) (old new : List HeldUser) (before after : List ℕ) : Type 0 where
  pub kept : new ≡ map (kept_told sender c) old
  pub said : after ≡ before ++ flat_map (told_kept sender own c) old

-- ---- Places

-- a user whose line has come
abbrev pub arrived : Seated → Seated
arrived s = record { user = s.user; seat = record s.seat { here = true } }

-- a user's place, or where a new user gets one
pub record IsUserPlace (accepted : List CommandTree) (user : List ℕ) (old new : List Seated) (place : ℕ) : Type 0 where
  pub there : option_map (λ s. s.user) (slice_get new place) ≡ Some user
  pub seats : new ≡ map arrived (seats_with (record { seats = old; accepted = accepted }) user)

-- the user has one, or gets one, or there is no room
abbrev pub IsSeatedAs : (h : Hub) → (user : List ℕ) → Hub → Option ℕ → Type 0
IsSeatedAs h user new (Some place) = (has_room h user ≡ true) × IsUserPlace h.accepted user h.seats new.seats place × (new.accepted ≡ h.accepted)
IsSeatedAs h user new None = (has_room h user ≡ false) × (new ≡ h)

-- the journal of one more user: the data commands, with their ticks
abbrev pub data_journal : List HeldUser → List Accepted
data_journal [] = []
data_journal (s ∷ seats) = data_entries s.held.journal
