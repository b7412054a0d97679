-- A line is answered as the definition of several users tells.
use Rattle.std.proofs.Common.{◌≡◌, ℕ, zero, suc, ◌<◌, true, false, Bool, List, [], ◌∷◌, ◌++◌, length, map, None, Some, Option, refl, sym, ap, ◌∙◌, subst, inl, inr}
use Rattle.std.proofs.lemmas.Bool.{cases_Bool}
use Rattle.std.proofs.lemmas.Option.{slice_get_within}
use Rattle.std.specs.Prelude.{find, if◌then◌else◌, is_some, option_map, slice_get, unwrap_or}
use Rattle.std.specs.List.{AllByRecursion, flat_map}
use Rattle.std.specs.Option.{option_map_or}
use Rattle.std.specs.Str.{bytes_eq}
use Rattle.command_text.specs.declared.refusal.Refusal.{Refusal}
use Rattle.command_text.specs.Journal.{spelled}
use Rattle.command_text.specs.Tree.{CommandTree}
use Rattle.users.specs.Sender.{sent_in}
use Rattle.users.specs.Tagged.{tagged}
use Rattle.feeds_meaning.specs.Heard.{Other, Seat, item_outcome, other_by, own_by, own_refusal}
use Rattle.feeds_meaning.specs.Hub.{Event, Hub, Seated, added, data_command_of, event_by, has_room, has_user, hub_step, hub_step_by, newcomer, seat_in, seat_of, seated_after, seats_with, taken_of, told_of_event, unheard}
use Rattle.hub.specs.Seats.{IsHub, IsUser}
use Rattle.hub.specs.Told.{IsAnsweredBy, IsLineTold, IsSeatedAs, IsSentAt, arrived, change_by, seated_by, taken_by, told_to_seat}
use Rattle.hub.proofs.PlaceLemmas.{IsAloneAt, alone, found_at}
use Rattle.exact.proofs.Items.{bytes_eq_swap}
use Rattle.exact.proofs.Lists.{bytes_eq_refl}

-- ---- Each user

abbrev event : (user line : List ℕ) → Option CommandTree → Event
event user line change = record { sent = record { user = user; line = line }; change = change }

-- whether the sender was there before
arrived_own : (s : Seat) (c : CommandTree) (r : Option Refusal) → own_by (record s { here = true }) c r ≡ own_by s c r
arrived_own s c (Some refusal) = refl
arrived_own s c None = refl

own_taken : (user line : List ℕ) (r : Option Refusal) (t : Seated) → has_user user t ≡ true → own_refusal t.seat line ≡ r →
    taken_by user (spelled line) r (arrived t) ≡ taken_of (event user line (change_by (spelled line) r)) t
own_taken user line r t own refusal =
    let back : bytes_eq t.user user ≡ true = bytes_eq_swap t.user user ∙ own in
    let mine : taken_by user (spelled line) r (arrived t) ≡ own_by t.seat (spelled line) r = rw own (arrived_own t.seat (spelled line) r) in
    let all : taken_of (event user line (change_by (spelled line) r)) t ≡ own_by t.seat (spelled line) (own_refusal t.seat line) = rw back refl in
    mine ∙ ap (own_by t.seat (spelled line)) (sym refusal) ∙ sym all

-- who isn't the sender
record IsOther (user : List ℕ) (t : Seated) : Type 0 where
  other : has_user user t ≡ false
  here : t.seat.here ≡ true

change_taken : (s : Seat) (change : Option CommandTree) → option_map_or (other_by s) change (s, []) ≡ option_map_or (item_outcome s) (option_map Other change) (s, [])
change_taken s None = refl
change_taken s (Some c) = refl

other_taken : (user line : List ℕ) (r : Option Refusal) (t : Seated) → IsOther user t →
    taken_by user (spelled line) r (arrived t) ≡ taken_of (event user line (change_by (spelled line) r)) t
other_taken user line r t is =
    let stays : arrived t ≡ t = λ i. record { user = t.user; seat = record t.seat { here = sym is.here i } } in
    let back : bytes_eq t.user user ≡ false = bytes_eq_swap t.user user ∙ is.other in
    let mine : taken_by user (spelled line) r t ≡ option_map_or (other_by t.seat) (change_by (spelled line) r) (t.seat, []) = rw is.other refl in
    let all : taken_of (event user line (change_by (spelled line) r)) t ≡ option_map_or (item_outcome t.seat) (option_map Other (change_by (spelled line) r)) (t.seat, []) =
    rw back refl in
    ap (taken_by user (spelled line) r) stays ∙ mine ∙ change_taken t.seat (change_by (spelled line) r) ∙ sym all

-- ---- All of them

abbrev IsReadyAt : (user line : List ℕ) → Option Refusal → ℕ → List Seated → Type 0
IsReadyAt user line r place [] = ⊥
IsReadyAt user line r zero (t ∷ seats) = (has_user user t ≡ true) × (own_refusal t.seat line ≡ r) × AllByRecursion (IsOther user) seats
IsReadyAt user line r (suc place) (t ∷ seats) = IsOther user t × IsReadyAt user line r place seats

abbrev IsThere : List ℕ → Seated → Type 0
IsThere user t = has_user user t ≡ false → t.seat.here ≡ true

others_ready : (user : List ℕ) (seats : List Seated) → AllByRecursion (λ t. has_user user t ≡ false) seats → AllByRecursion (IsThere user) seats →
    AllByRecursion (IsOther user) seats
others_ready user [] others there = tt
others_ready user (t ∷ seats) others there = (record { other = others.0; here = there.0 others.0 }, others_ready user seats others.1 there.1)

ready : (user line : List ℕ) (r : Option Refusal) (seats : List Seated) (place : ℕ) (t : Seated) → IsAloneAt user place seats →
    slice_get seats place ≡ Some t → AllByRecursion (IsThere user) seats → own_refusal t.seat line ≡ r → IsReadyAt user line r place seats
ready user line r [] place t at e there refusal = absurd at
ready user line r (x ∷ seats) zero t at e there refusal =
    let same : t ≡ x = let back : x ≡ t = cc in sym back in
    (at.0, subst (λ (y : Seated). own_refusal y.seat line ≡ r) same refusal, others_ready user seats at.1 there.1)
ready user line r (x ∷ seats) (suc place) t at e there refusal =
    (record { other = at.0; here = there.0 at.0 }, ready user line r seats place t at.1 e there.1 refusal)

abbrev AreTaken : (user line : List ℕ) → Option Refusal → Seated → Type 0
AreTaken user line r t = taken_by user (spelled line) r (arrived t) ≡ taken_of (event user line (change_by (spelled line) r)) t

others_taken : (user line : List ℕ) (r : Option Refusal) (seats : List Seated) → AllByRecursion (IsOther user) seats → AllByRecursion (AreTaken user line r) seats
others_taken user line r [] others = tt
others_taken user line r (t ∷ seats) others = (other_taken user line r t others.0, others_taken user line r seats others.1)

all_taken : (user line : List ℕ) (r : Option Refusal) (place : ℕ) (seats : List Seated) → IsReadyAt user line r place seats →
    AllByRecursion (AreTaken user line r) seats
all_taken user line r place [] at = absurd at
all_taken user line r zero (t ∷ seats) at = (own_taken user line r t at.0 at.1, others_taken user line r seats at.2)
all_taken user line r (suc place) (t ∷ seats) at = (other_taken user line r t at.0, all_taken user line r place seats at.1)

seats_step : (user line : List ℕ) (r : Option Refusal) (seats : List Seated) → AllByRecursion (AreTaken user line r) seats →
    map (seated_by user (spelled line) r) (map arrived seats) ≡ map (seated_after (event user line (change_by (spelled line) r))) seats
seats_step user line r [] all = refl
seats_step user line r (t ∷ seats) all =
    let later = seats_step user line r seats all.1 in
    λ i. record { user = t.user; seat = (all.0 i).0 } ∷ later i

told_step : (user line : List ℕ) (r : Option Refusal) (seats : List Seated) → AllByRecursion (AreTaken user line r) seats →
    flat_map (told_to_seat user (spelled line) r) (map arrived seats) ≡ flat_map (told_of_event (event user line (change_by (spelled line) r))) seats
told_step user line r [] all = refl
told_step user line r (t ∷ seats) all =
    let later = told_step user line r seats all.1 in
    λ i. tagged t.user (all.0 i).1 ++ later i

-- ---- The sender's place

unarrived_alone : (user : List ℕ) (seats : List Seated) (place : ℕ) → IsAloneAt user place (map arrived seats) → IsAloneAt user place seats
unarrived_alone user [] place at = at
unarrived_alone user (t ∷ seats) zero at = (at.0, others seats at.1)
  where
    others : (seats : List Seated) → AllByRecursion (λ t. has_user user t ≡ false) (map arrived seats) → AllByRecursion (λ t. has_user user t ≡ false) seats
    others [] all = tt
    others (x ∷ seats) all = (all.0, others seats all.1)
unarrived_alone user (t ∷ seats) (suc place) at = (at.0, unarrived_alone user seats place at.1)

record WasAt (seats : List Seated) (place : ℕ) (s : Seated) : Type 0 where
  before : Seated
  there : slice_get seats place ≡ Some before
  came : s ≡ arrived before

was_at : (seats : List Seated) (place : ℕ) (s : Seated) → slice_get (map arrived seats) place ≡ Some s → WasAt seats place s
was_at [] place s e = absurd (cc)
was_at (t ∷ seats) zero s e = let same : arrived t ≡ s = cc in record { before = t; there = refl; came = sym same }
was_at (t ∷ seats) (suc place) s e = let later = was_at seats place s e in record { before = later.before; there = later.there; came = later.came }

record IsUserAt (o : Option Seated) (user : List ℕ) : Type 0 where
  s : Seated
  found : o ≡ Some s
  named : s.user ≡ user

user_at : (o : Option Seated) (user : List ℕ) → option_map (λ s. s.user) o ≡ Some user → IsUserAt o user
user_at None user e = absurd (cc)
user_at (Some s) user e = record { s = s; found = refl; named = cc }

-- the definition doesn't ask whether the user was there
arrived_refusal : (s : Seat) (line : List ℕ) → own_refusal (record s { here = true }) line ≡ own_refusal s line
unfolding own_refusal
arrived_refusal s line = refl

find_pushed : (user : List ℕ) (seats : List Seated) (n : Seated) → find (has_user user) seats ≡ None → has_user user n ≡ true →
    find (has_user user) (seats ++ n ∷ []) ≡ Some n
find_pushed user [] n none own = rw own refl
find_pushed user (t ∷ seats) n none own = elim (cases_Bool (has_user user t)) [
  | inl is ↦ let some : find (has_user user) (t ∷ seats) ≡ Some t = rw is refl in let bad = sym some ∙ none in absurd (cc)
  | inr other ↦ let later : find (has_user user) seats ≡ None = rw other at none in rw other (find_pushed user seats n later own)
]

abbrev new_seat : Hub → List ℕ → Seated
new_seat h user = record { user = user; seat = newcomer h.accepted }

-- the seat by which the definition judges, and all seats, by whether the user is found
seat_by : (h : Hub) (user : List ℕ) (o : Option Seated) (t : Seated) → find (has_user user) h.seats ≡ o →
    find (has_user user) (if is_some (option_map (λ s. s.seat) o) then h.seats else h.seats ++ new_seat h user ∷ []) ≡ Some t →
    unwrap_or (option_map (λ s. s.seat) o) (newcomer h.accepted) ≡ t.seat
seat_by h user (Some x) t found e = let same : Some x ≡ Some t = sym found ∙ e in let is : x ≡ t = cc in ap (λ (y : Seated). y.seat) is
seat_by h user None t found e =
    let pushed = find_pushed user h.seats (new_seat h user) found (bytes_eq_refl user) in
    let same : Some (new_seat h user) ≡ Some t = sym pushed ∙ e in
    let is : new_seat h user ≡ t = cc in
    ap (λ (y : Seated). y.seat) is

seat_is : (h : Hub) (user : List ℕ) (t : Seated) → find (has_user user) (seats_with h user) ≡ Some t → seat_of h user ≡ t.seat
seat_is h user t e =
    seat_by h user (find (has_user user) h.seats) t refl e

there_by : (h : Hub) (user : List ℕ) (b : Bool) → AllByRecursion (λ t. t.seat.here ≡ true) h.seats →
    AllByRecursion (IsThere user) (if b then h.seats else h.seats ++ new_seat h user ∷ [])
there_by h user true all = all_there h.seats all
  where
    all_there : (seats : List Seated) → AllByRecursion (λ t. t.seat.here ≡ true) seats → AllByRecursion (IsThere user) seats
    all_there [] all = tt
    all_there (t ∷ seats) all = (λ _. all.0, all_there seats all.1)
there_by h user false all = more_there h.seats all
  where
    more_there : (seats : List Seated) → AllByRecursion (λ t. t.seat.here ≡ true) seats → AllByRecursion (IsThere user) (seats ++ new_seat h user ∷ [])
    more_there [] all = (λ other. let bad : true ≡ false = sym (bytes_eq_refl user) ∙ other in absurd (cc), tt)
    more_there (t ∷ seats) all = (λ _. all.0, more_there seats all.1)

all_here : (accepted : List CommandTree) (seats : List Seated) → AllByRecursion (IsUser accepted) seats → AllByRecursion (λ t. t.seat.here ≡ true) seats
all_here accepted [] all = tt
all_here accepted (t ∷ seats) all = (all.0.here, all_here accepted seats all.1)

-- ---- The step

step_of : (h : Hub) (input user line : List ℕ) → sent_in input ≡ Some (record { user = user; line = line }) → has_room h user ≡ true →
    hub_step h input ≡ hub_step_by h (Some (record { user = user; line = line })) (Some (event user line (data_command_of (seat_of h user) line)))
unfolding hub_step
step_of h input user line sent room =
    ap (λ o. hub_step_by h o (event_by h o)) sent
    ∙ ap (λ b. hub_step_by h (Some (record { user = user; line = line })) (if b then Some (event user line (data_command_of (seat_of h user) line)) else None)) room

pub step_of_nobody : (h : Hub) (input : List ℕ) → sent_in input ≡ None → hub_step h input ≡ (h, unheard None)
unfolding hub_step
step_of_nobody h input sent = ap (λ o. hub_step_by h o (event_by h o)) sent

pub step_without_room : (h : Hub) (input user line : List ℕ) → sent_in input ≡ Some (record { user = user; line = line }) → has_room h user ≡ false →
    hub_step h input ≡ (h, unheard (Some (record { user = user; line = line })))
unfolding hub_step
step_without_room h input user line sent room =
    ap (λ o. hub_step_by h o (event_by h o)) sent
    ∙ ap (λ b. hub_step_by h (Some (record { user = user; line = line })) (if b then Some (event user line (data_command_of (seat_of h user) line)) else None)) room

-- the refusal by which all is told is that of the definition
record IsReady (h : Hub) (user line : List ℕ) (r : Option Refusal) (place : ℕ) : Type 0 where
  judged : own_refusal (seat_of h user) line ≡ r
  all : AllByRecursion (AreTaken user line r) (seats_with h user)

ready_at : (h h1 : Hub) (user line : List ℕ) (place : ℕ) (s : Seated) → IsHub h → IsHub h1 → h1.seats ≡ map arrived (seats_with h user) →
    slice_get h1.seats place ≡ Some s → s.user ≡ user → IsReady h user line (own_refusal s.seat line) place
ready_at h h1 user line place s hub hub1 seats found named =
    let by_name : IsAloneAt user place h1.seats = subst (λ (u : List ℕ). IsAloneAt u place h1.seats) named (alone h1.seats place s found hub1.apart) in
    let by_seats : IsAloneAt user place (seats_with h user) =
    unarrived_alone user (seats_with h user) place (subst (IsAloneAt user place) seats by_name) in
    let was = was_at (seats_with h user) place s (sym (ap (λ (l : List Seated). slice_get l place) seats) ∙ found) in
    let refusal : own_refusal was.before.seat line ≡ own_refusal s.seat line =
    sym (arrived_refusal was.before.seat line) ∙ ap (λ (x : Seated). own_refusal x.seat line) (sym was.came) in
    let judge : seat_of h user ≡ was.before.seat = seat_is h user was.before (found_at user (seats_with h user) place was.before by_seats was.there) in
    let there = there_by h user (is_some (seat_in h.seats user)) (all_here h.accepted h.seats hub.users) in
    record {
      judged = ap (λ (x : Seat). own_refusal x line) judge ∙ refusal;
      all = all_taken user line (own_refusal s.seat line) place (seats_with h user)
          (ready user line (own_refusal s.seat line) (seats_with h user) place was.before by_seats was.there there refusal);
    }

pub sent_is_answered : (h h1 h2 : Hub) (input user line : List ℕ) (place : ℕ) (before after : List ℕ) → IsHub h → IsHub h1 →
    sent_in input ≡ Some (record { user = user; line = line }) → IsSeatedAs h user h1 (Some place) → IsSentAt place line h1 h2 before after →
    IsLineTold h h2 input before after
sent_is_answered h h1 h2 input user line place before after hub hub1 sent seated answers =
    let put = seated.1 in
    let who = user_at (slice_get h1.seats place) user put.there in
    let r : Option Refusal = own_refusal who.s.seat line in
    let is : IsAnsweredBy user (spelled line) r h1 h2 before after =
    subst (λ (u : List ℕ). IsAnsweredBy u (spelled line) r h1 h2 before after) who.named (answers who.s who.found) in
    let at = ready_at h h1 user line place who.s hub hub1 put.seats who.found who.named in
    let change : data_command_of (seat_of h user) line ≡ change_by (spelled line) r = ap (change_by (spelled line)) at.judged in
    let steps = step_of h input user line sent seated.0 ∙ ap (λ ch. hub_step_by h (Some (record { user = user; line = line })) (Some (event user line ch))) change in
    let seats : h2.seats ≡ map (seated_after (event user line (change_by (spelled line) r))) (seats_with h user) =
    is.seats ∙ ap (map (seated_by user (spelled line) r)) put.seats ∙ seats_step user line r (seats_with h user) at.all in
    let accepted : h2.accepted ≡ h.accepted ++ added (change_by (spelled line) r) =
    is.accepted ∙ ap (λ cs. cs ++ added (change_by (spelled line) r)) seated.2 in
    let text : flat_map (told_to_seat user (spelled line) r) h1.seats ≡ flat_map (told_of_event (event user line (change_by (spelled line) r))) (seats_with h user) =
    ap (flat_map (told_to_seat user (spelled line) r)) put.seats ∙ told_step user line r (seats_with h user) at.all in
    let goes : h2 ≡ record {
      seats = map (seated_after (event user line (change_by (spelled line) r))) (seats_with h user);
      accepted = h.accepted ++ added (change_by (spelled line) r);
    } = λ i. record { seats = seats i; accepted = accepted i } in
    record {
      goes_on = goes ∙ sym (ap (λ (p : Hub × List ℕ). p.0) steps);
      said = is.said ∙ ap (λ l. before ++ l) (text ∙ sym (ap (λ (p : Hub × List ℕ). p.1) steps));
    }

-- ---- A line that is no user's

pub nobody_is_answered : (h : Hub) (input before after : List ℕ) → sent_in input ≡ None → after ≡ before ++ unheard None → IsLineTold h h input before after
nobody_is_answered h input before after sent said =
    let steps = step_of_nobody h input sent in
    record {
      goes_on = sym (ap (λ (p : Hub × List ℕ). p.0) steps);
      said = said ∙ ap (λ l. before ++ l) (sym (ap (λ (p : Hub × List ℕ). p.1) steps));
    }

pub ninth_is_answered : (h h1 : Hub) (input user line before after : List ℕ) → sent_in input ≡ Some (record { user = user; line = line }) →
    IsSeatedAs h user h1 None → after ≡ before ++ unheard (Some (record { user = user; line = line })) → IsLineTold h h1 input before after
ninth_is_answered h h1 input user line before after sent seated said =
    let steps = step_without_room h input user line sent seated.0 in
    record {
      goes_on = seated.1 ∙ sym (ap (λ (p : Hub × List ℕ). p.0) steps);
      said = said ∙ ap (λ l. before ++ l) (sym (ap (λ (p : Hub × List ℕ). p.1) steps));
    }

-- a user's place is one of a user
pub place_is_one : (h h1 : Hub) (user : List ℕ) (place : ℕ) → IsSeatedAs h user h1 (Some place) → place < length h1.seats
place_is_one h h1 user place seated =
    let who = user_at (slice_get h1.seats place) user seated.1.there in
    slice_get_within h1.seats place who.s who.found
