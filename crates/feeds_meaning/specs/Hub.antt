-- Several users who share one world: what each line leaves of all, and what is written of it.
use Rattle.std.specs.Prelude.{ℕ, Bool, ◌&&◌, ◌||◌, nat_lt, false, Option, None, Some, is_none, is_some, option_map, unwrap_or, List, [], ◌∷◌, ◌++◌, find, length, map, codes, if◌then◌else◌}
use Rattle.std.specs.List.{flat_map}
use Rattle.std.specs.Option.{option_map_or}
use Rattle.std.specs.Str.{bytes_eq}
use Rattle.command_text.specs.declared.refusal.Refusal.TheVariants.{BadSyntax, StoreFull}
use Rattle.command_text.specs.Journal.{spelled}
use Rattle.command_text.specs.Refusals.{refusal_line}
use Rattle.command_text.specs.Tree.{CommandTree}
use Rattle.line_meaning.specs.Reply.{line_feed}
use Rattle.line_loop.specs.Machine.{Machine}
use Rattle.users.specs.Sender.{Sent, sent_in}
use Rattle.users.specs.Tagged.{tagged}
use Rattle.feeds_meaning.specs.declared.limits.TheConstants.{USERS_LIMIT}
use Rattle.feeds_meaning.specs.Heard.{Item, Own, Other, Seat, empty_seat, own_refusal, seat_after, item_outcome}
use Rattle.feeds_meaning.specs.Lines.{is_data}

pub record Seated : Type 0 where
  pub user : List ℕ
  pub seat : Seat

pub record Hub : Type 0 where
  -- in the order of the users' first lines
  pub seats : List Seated
  -- the data commands that were accepted, of whomever, in order
  pub accepted : List CommandTree

abbrev pub empty_hub : Hub
empty_hub = record { seats = []; accepted = [] }

-- ---- Seats

abbrev pub has_user : List ℕ → Seated → Bool
has_user user s = bytes_eq user s.user

abbrev pub seat_in : List Seated → List ℕ → Option Seat
seat_in seats user = option_map (λ s. s.seat) (find (has_user user) seats)

-- what the data commands that were accepted leave of a user who sent no line
abbrev pub newcomer : List CommandTree → Seat
newcomer accepted = seat_after empty_seat (map Other accepted)

-- the seat of a user, who may be none yet
abbrev pub seat_of : Hub → List ℕ → Seat
seat_of h user = unwrap_or (seat_in h.seats user) (newcomer h.accepted)

-- all seats, with one for this user
abbrev pub seats_with : Hub → List ℕ → List Seated
seats_with h user =
    if is_some (seat_in h.seats user) then h.seats
    else h.seats ++ record { user = user; seat = newcomer h.accepted } ∷ []

-- ---- Lines

-- the user is one of the users, or there is room for one more
abbrev pub has_room : Hub → List ℕ → Bool
has_room h user = is_some (seat_in h.seats user) || nat_lt (length h.seats) USERS_LIMIT

-- a line that is some user's: who sends it, and the data command that is accepted by it, if it is one
pub record Event : Type 0 where
  pub sent : Sent
  pub change : Option CommandTree

abbrev pub data_command_of : Seat → List ℕ → Option CommandTree
data_command_of s line = if is_none (own_refusal s line) && is_data (spelled line) then Some (spelled line) else None

abbrev pub event_by : Hub → Option Sent → Option Event
event_by h None = None
event_by h (Some sent) =
    if has_room h sent.user then Some (record { sent = sent; change = data_command_of (seat_of h sent.user) sent.line }) else None

-- what a line is; None where it is no user's
abbrev pub event_in : Hub → List ℕ → Option Event
event_in h line = event_by h (sent_in line)

-- what of an event concerns a user
abbrev pub item_of : Event → List ℕ → Option Item
item_of e user = if bytes_eq user e.sent.user then Some (Own e.sent.line) else option_map Other e.change

-- what an event leaves of a seat, and the text that is told of it
abbrev pub taken_of : Event → Seated → Seat × List ℕ
taken_of e s = option_map_or (item_outcome s.seat) (item_of e s.user) (s.seat, [])

abbrev pub seated_after : Event → Seated → Seated
seated_after e s = record { user = s.user; seat = (taken_of e s).0 }

abbrev pub told_of_event : Event → Seated → List ℕ
told_of_event e s = tagged s.user (taken_of e s).1

abbrev pub added : Option CommandTree → List CommandTree
added change = option_map_or (λ c. c ∷ []) change []

-- `? refused 4 BadSyntax`, the reply to a line that is no user's
abbrev pub unheard : Option Sent → List ℕ
unheard None = codes "? " ++ refusal_line BadSyntax ++ line_feed
unheard (Some sent) = codes "? " ++ refusal_line StoreFull ++ line_feed

-- the seats are those with one for the sender
abbrev pub hub_step_by : Hub → Option Sent → Option Event → Hub × List ℕ
hub_step_by h sender None = (h, unheard sender)
hub_step_by h sender (Some e) = (
  record { seats = map (seated_after e) (seats_with h e.sent.user); accepted = h.accepted ++ added e.change },
  flat_map (told_of_event e) (seats_with h e.sent.user),
)

unfoldable pub hub_step : Hub → List ℕ → Hub × List ℕ
hub_step h line = hub_step_by h (sent_in line) (event_in h line)

-- No line ends the run.
abbrev pub machine : Machine Hub
machine = record { next = λ h line. (hub_step h line).0; reply = λ h line. (hub_step h line).1; done = λ _. false }
