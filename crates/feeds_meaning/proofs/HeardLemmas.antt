-- For this crate and for the crates above: what is written for a user is what this user hears, by induction on lines, from
-- any hub whose users differ.
use Rattle.std.proofs.Common.{◌≡◌, ℕ, true, false, Bool, List, [], ◌∷◌, ◌++◌, map, None, Some, Option, refl, sym, ap, ◌∙◌, subst, append-nil, append_assoc, inl, inr, ◌⊎◌}
use Rattle.std.proofs.lemmas.Bool.{cases_Bool}
use Rattle.std.proofs.lemmas.List.{map-append}
use Rattle.std.proofs.lemmas.Slice.Eq.{bytes_eq-Decides}
use Rattle.std.specs.Prelude.{if◌then◌else◌, option_and_then, option_map, unwrap_or}
use Rattle.std.specs.List.{flat_map}
use Rattle.std.specs.Option.{option_map_or}
use Rattle.std.specs.Str.{bytes_eq}
use Rattle.command_text.specs.Tree.{CommandTree}
use Rattle.line_loop.specs.Machine.{replies}
use Rattle.users.specs.Sender.{Sent, sent_in}
use Rattle.users.specs.Tagged.{lines_for, lines_in, tagged_lines}
use Rattle.users.proofs.CallerLemmas.{lines_for_other, lines_for_own, no_feeds}
use Rattle.feeds_meaning.specs.Heard.{Item, Other, Seat, empty_seat, heard, item_outcome, seat_after}
use Rattle.feeds_meaning.specs.HeardLaw.{HearsAlike, HearsTheView, is_of_letters}
use Rattle.feeds_meaning.specs.Hub.{Event, Hub, Seated, added, data_command_of, empty_hub, event_by, event_in, has_room, hub_step, hub_step_by, item_of, machine, newcomer, seat_in, seat_of, seated_after, seats_with, taken_of, told_of_event}
use Rattle.feeds_meaning.specs.View.{item_in, user_view}
use Rattle.feeds_meaning.proofs.SenderLemmas.{sender_is_of_letters, unheard_for_nobody}
use Rattle.exact.proofs.Items.{bytes_differ_swap}

-- ---- What is heard of items, one list after another

heard_more : (s : Seat) (xs ys : List Item) → heard s (xs ++ ys) ≡ heard s xs ++ heard (seat_after s xs) ys
heard_more s [] ys = refl
heard_more s (x ∷ xs) ys =
    ap (λ l. lines_in (item_outcome s x).1 ++ l) (heard_more (item_outcome s x).0 xs ys)
    ∙ sym (append_assoc (lines_in (item_outcome s x).1) (heard (item_outcome s x).0 xs) (heard (seat_after (item_outcome s x).0 xs) ys))

seat_more : (s : Seat) (xs ys : List Item) → seat_after s (xs ++ ys) ≡ seat_after (seat_after s xs) ys
seat_more s [] ys = refl
seat_more s (x ∷ xs) ys = seat_more (item_outcome s x).0 xs ys

abbrev pub items : Option Item → List Item
items o = option_map_or (λ item. item ∷ []) o []

heard_one : (s : Seat) (o : Option Item) → heard s (items o) ≡ lines_in (option_map_or (item_outcome s) o (s, [])).1
heard_one s None = refl
heard_one s (Some item) = append-nil (lines_in (item_outcome s item).1)

seat_one : (s : Seat) (o : Option Item) → seat_after s (items o) ≡ (option_map_or (item_outcome s) o (s, [])).0
seat_one s None = refl
seat_one s (Some item) = refl

-- who sent no line is told nothing of others
away : (s : Seat) (cs : List CommandTree) → s.here ≡ false → (seat_after s (map Other cs)).here ≡ false
away s [] h = h
away s (c ∷ cs) h = away (item_outcome s (Other c)).0 cs h

nothing_heard : (s : Seat) (change : Option CommandTree) → s.here ≡ false → heard s (items (option_map Other change)) ≡ []
nothing_heard s None h = refl
nothing_heard s (Some c) h = rw h refl

-- ---- Seats

-- no two users are one, and each is of letters
abbrev pub AreSeats : List Seated → Type 0
AreSeats [] = Unit {0}
AreSeats (s ∷ seats) = (is_of_letters s.user ≡ true) × (seat_in seats s.user ≡ None) × AreSeats seats

found_first : (seats more : List Seated) (u : List ℕ) (x : Seat) → seat_in seats u ≡ Some x → seat_in (seats ++ more) u ≡ Some x
found_first [] more u x e = absurd (cc)
found_first (s ∷ seats) more u x e = elim (cases_Bool (bytes_eq u s.user)) [
  | inl same ↦ let here : Some s.seat ≡ Some x = rw same at e in rw same here
  | inr other ↦ let later : seat_in seats u ≡ Some x = rw other at e in rw other (found_first seats more u x later)
]

found_last : (seats : List Seated) (s : Seated) (u : List ℕ) → seat_in seats u ≡ None → bytes_eq u s.user ≡ true →
    seat_in (seats ++ s ∷ []) u ≡ Some s.seat
found_last [] s u e same = rw same refl
found_last (t ∷ seats) s u e same = elim (cases_Bool (bytes_eq u t.user)) [
  | inl first ↦ let bad : Some t.seat ≡ None = rw first at e in absurd (cc)
  | inr other ↦ let later : seat_in seats u ≡ None = rw other at e in rw other (found_last seats s u later same)
]

not_last : (seats : List Seated) (s : Seated) (u : List ℕ) → seat_in seats u ≡ None → bytes_eq u s.user ≡ false →
    seat_in (seats ++ s ∷ []) u ≡ None
not_last [] s u e other = rw other refl
not_last (t ∷ seats) s u e other = elim (cases_Bool (bytes_eq u t.user)) [
  | inl first ↦ let bad : Some t.seat ≡ None = rw first at e in absurd (cc)
  | inr past ↦ let later : seat_in seats u ≡ None = rw past at e in rw past (not_last seats s u later other)
]

seats_and : (seats : List Seated) (s : Seated) → AreSeats seats → is_of_letters s.user ≡ true → seat_in seats s.user ≡ None →
    AreSeats (seats ++ s ∷ [])
seats_and [] s h letters e = (letters, refl, tt)
seats_and (t ∷ seats) s h letters e = elim (cases_Bool (bytes_eq s.user t.user)) [
  | inl same ↦ let bad : Some t.seat ≡ None = rw same at e in absurd (cc)
  | inr other ↦
      let later : seat_in seats s.user ≡ None = rw other at e in
      (h.0, not_last seats s t.user h.1 (bytes_differ_swap s.user t.user other), seats_and seats s h.2 letters later)
]

-- by whether the sender has a seat
with_seat : (h : Hub) (v : List ℕ) (x : Seat) → seat_in h.seats v ≡ Some x → seats_with h v ≡ h.seats
with_seat h v x e = rw e refl

without_seat : (h : Hub) (v : List ℕ) → seat_in h.seats v ≡ None →
    seats_with h v ≡ h.seats ++ record { user = v; seat = newcomer h.accepted } ∷ []
without_seat h v e = rw e refl

are_seats_with : (h : Hub) (v : List ℕ) → AreSeats h.seats → is_of_letters v ≡ true → AreSeats (seats_with h v)
are_seats_with h v seats letters = by_seat (seat_in h.seats v) refl
  where
    by_seat : (o : Option Seat) → seat_in h.seats v ≡ o → AreSeats (seats_with h v)
    by_seat (Some x) e = subst AreSeats (sym (with_seat h v x e)) seats
    by_seat None e = subst AreSeats (sym (without_seat h v e)) (seats_and h.seats (record { user = v; seat = newcomer h.accepted }) seats letters e)

-- a user has a seat beside the sender, or is another without one
abbrev HasSeat : Hub → (u v : List ℕ) → Type 0
HasSeat h u v = seat_in (seats_with h v) u ≡ Some (seat_of h u)

record IsAway (h : Hub) (u v : List ℕ) : Type 0 where
  before : seat_in h.seats u ≡ None
  after : seat_in (seats_with h v) u ≡ None
  other : bytes_eq u v ≡ false

seat_cases : (h : Hub) (u v : List ℕ) → HasSeat h u v ⊎ IsAway h u v
seat_cases h u v = by_seats (seat_in h.seats u) (seat_in h.seats v) refl refl
  where
    by_seats : (o p : Option Seat) → seat_in h.seats u ≡ o → seat_in h.seats v ≡ p → HasSeat h u v ⊎ IsAway h u v
    by_seats (Some x) (Some y) e f = inl (ap (λ s. seat_in s u) (with_seat h v y f) ∙ rw e refl)
    by_seats (Some x) None e f = inl (
        ap (λ s. seat_in s u) (without_seat h v f)
        ∙ found_first h.seats (record { user = v; seat = newcomer h.accepted } ∷ []) u x e
        ∙ rw e refl)
    by_seats None (Some y) e f = elim (cases_Bool (bytes_eq u v)) [
      | inl same ↦
          let is : u ≡ v = (bytes_eq-Decides u v).0 same in
          let bad : None ≡ Some y = sym e ∙ ap (seat_in h.seats) is ∙ f in
          absurd (cc)
      | inr other ↦ inr (record { before = e; after = ap (λ s. seat_in s u) (with_seat h v y f) ∙ e; other = other })
    ]
    by_seats None None e f = elim (cases_Bool (bytes_eq u v)) [
      | inl same ↦ inl (
          ap (λ s. seat_in s u) (without_seat h v f)
          ∙ found_last h.seats (record { user = v; seat = newcomer h.accepted }) u e same
          ∙ rw e refl)
      | inr other ↦ inr (record {
        before = e;
        after = ap (λ s. seat_in s u) (without_seat h v f) ∙ not_last h.seats (record { user = v; seat = newcomer h.accepted }) u e other;
        other = other;
      })
    ]

-- ---- What an event leaves of the seats

abbrev at_user : List ℕ → Seat → Seated
at_user u seat = record { user = u; seat = seat }

module _ (e : Event) where
  seats_taken : (seats : List Seated) (u : List ℕ) →
      seat_in (map (seated_after e) seats) u ≡ option_map (λ seat. (taken_of e (at_user u seat)).0) (seat_in seats u)
  seats_taken [] u = refl
  seats_taken (s ∷ seats) u = elim (cases_Bool (bytes_eq u s.user)) [
    | inl same ↦
        let is : u ≡ s.user = (bytes_eq-Decides u s.user).0 same in
        rw same (ap (λ v. Some (taken_of e (at_user v s.seat)).0) (sym is))
    | inr other ↦ rw other (seats_taken seats u)
  ]

  seats_stay : (seats : List Seated) → AreSeats seats → AreSeats (map (seated_after e) seats)
  seats_stay [] h = tt
  seats_stay (s ∷ seats) h =
      (h.0, seats_taken seats s.user ∙ ap (option_map (λ seat. (taken_of e (at_user s.user seat)).0)) h.1, seats_stay seats h.2)

  -- ---- and what is written for a user

  abbrev lines_told : List ℕ → Option Seat → List (List ℕ)
  lines_told u None = []
  lines_told u (Some seat) = lines_in (taken_of e (at_user u seat)).1

  told_for : (u : List ℕ) (seats : List Seated) (rest : List ℕ) → is_of_letters u ≡ true → AreSeats seats →
      lines_for u (flat_map (told_of_event e) seats ++ rest) ≡ lines_told u (seat_in seats u) ++ lines_for u rest
  told_for u [] rest hu h = refl
  told_for u (s ∷ seats) rest hu h =
      let lines : List (List ℕ) = lines_in (taken_of e s).1 in
      let more : List ℕ = flat_map (told_of_event e) seats ++ rest in
      let shape : lines_for u ((told_of_event e s ++ flat_map (told_of_event e) seats) ++ rest) ≡ lines_for u (told_of_event e s ++ more) =
      ap (lines_for u) (append_assoc (told_of_event e s) (flat_map (told_of_event e) seats) rest) in
      let later = told_for u seats rest hu h.2 in
      elim (cases_Bool (bytes_eq u s.user)) [
        | inl same ↦
            let is : u ≡ s.user = (bytes_eq-Decides u s.user).0 same in
            let none : seat_in seats u ≡ None = ap (seat_in seats) is ∙ h.1 in
            let own : lines_for u (told_of_event e s ++ more) ≡ lines ++ lines_for u more =
            ap (λ v. lines_for u (tagged_lines v lines ++ more)) (sym is) ∙ lines_for_own u lines more hu (no_feeds (taken_of e s).1) in
            let rest_is : lines_for u more ≡ lines_for u rest = later ∙ ap (λ o. lines_told u o ++ lines_for u rest) none in
            let lines_are : lines ≡ lines_in (taken_of e (at_user u s.seat)).1 = ap (λ v. lines_in (taken_of e (at_user v s.seat)).1) (sym is) in
            shape ∙ own ∙ ap (λ l. lines ++ l) rest_is ∙ ap (λ l. l ++ lines_for u rest) lines_are ∙ rw same refl
        | inr other ↦
            shape
            ∙ lines_for_other u s.user lines more hu h.0 other (no_feeds (taken_of e s).1)
            ∙ later
            ∙ rw other refl
      ]

-- ---- A line

-- what a line leaves of a user's seat, and what is written of it for the user
pub record Follows (h : Hub) (u : List ℕ) (sender : Option Sent) (o : Option Event) : Type 0 where
  pub seats : AreSeats (hub_step_by h sender o).0.seats
  pub lines : (rest : List ℕ) → lines_for u ((hub_step_by h sender o).1 ++ rest)
      ≡ heard (seat_of h u) (items (option_and_then (λ e. item_of e u) o)) ++ lines_for u rest
  pub seat : seat_of (hub_step_by h sender o).0 u ≡ seat_after (seat_of h u) (items (option_and_then (λ e. item_of e u) o))

-- by an event
record Leaves (h : Hub) (u : List ℕ) (e : Event) : Type 0 where
  lines : (rest : List ℕ) → lines_for u (flat_map (told_of_event e) (seats_with h e.sent.user) ++ rest) ≡ heard (seat_of h u) (items (item_of e u)) ++ lines_for u rest
  seat : unwrap_or (seat_in (map (seated_after e) (seats_with h e.sent.user)) u) (newcomer (h.accepted ++ added e.change))
      ≡ seat_after (seat_of h u) (items (item_of e u))

pub newcomer_more : (accepted : List CommandTree) (change : Option CommandTree) →
    newcomer (accepted ++ added change) ≡ seat_after (newcomer accepted) (items (option_map Other change))
newcomer_more accepted None = ap newcomer (append-nil accepted)
newcomer_more accepted (Some c) =
    ap (seat_after empty_seat) (map-append Other accepted (c ∷ [])) ∙ seat_more empty_seat (map Other accepted) (Other c ∷ [])

module _ (h : Hub) (u : List ℕ) (hu : is_of_letters u ≡ true) (e : Event) (seats : AreSeats (seats_with h e.sent.user)) where
  leaves_seated : HasSeat h u e.sent.user → Leaves h u e
  leaves_seated has = record {
    lines = λ rest.
        told_for e u (seats_with h e.sent.user) rest hu seats
        ∙ ap (λ o. lines_told e u o ++ lines_for u rest) has
        ∙ ap (λ l. l ++ lines_for u rest) (sym (heard_one (seat_of h u) (item_of e u)));
    seat =
        ap (λ o. unwrap_or o (newcomer (h.accepted ++ added e.change)))
        (seats_taken e (seats_with h e.sent.user) u ∙ ap (option_map (λ seat. (taken_of e (at_user u seat)).0)) has)
        ∙ sym (seat_one (seat_of h u) (item_of e u));
  }

  leaves_away : IsAway h u e.sent.user → Leaves h u e
  leaves_away away_is =
      let seat_is : seat_of h u ≡ newcomer h.accepted = ap (λ o. unwrap_or o (newcomer h.accepted)) away_is.before in
      let item_is : item_of e u ≡ option_map Other e.change = rw away_is.other refl in
      let gone : (seat_of h u).here ≡ false = ap (λ (s : Seat). s.here) seat_is ∙ away empty_seat h.accepted refl in
      record {
        lines = λ rest.
            told_for e u (seats_with h e.sent.user) rest hu seats
            ∙ ap (λ o. lines_told e u o ++ lines_for u rest) away_is.after
            ∙ ap (λ l. l ++ lines_for u rest) (sym (ap (λ o. heard (seat_of h u) (items o)) item_is ∙ nothing_heard (seat_of h u) e.change gone));
        seat =
            ap (λ o. unwrap_or o (newcomer (h.accepted ++ added e.change)))
            (seats_taken e (seats_with h e.sent.user) u ∙ ap (option_map (λ seat. (taken_of e (at_user u seat)).0)) away_is.after)
            ∙ newcomer_more h.accepted e.change
            ∙ ap (λ s. seat_after s (items (option_map Other e.change))) (sym seat_is)
            ∙ ap (λ o. seat_after (seat_of h u) (items o)) (sym item_is);
      }

  leaves : Leaves h u e
  leaves = elim (seat_cases h u e.sent.user) [ inl has ↦ leaves_seated has | inr is ↦ leaves_away is ]

pub follows : (h : Hub) (u : List ℕ) (sender : Option Sent) (o : Option Event) → is_of_letters u ≡ true → AreSeats h.seats →
    ((e : Event) → o ≡ Some e → is_of_letters e.sent.user ≡ true) → Follows h u sender o
follows h u sender None hu seats letters = record { seats = seats; lines = λ rest. unheard_for_nobody u sender rest hu; seat = refl }
follows h u sender (Some e) hu seats letters =
    let all = are_seats_with h e.sent.user seats (letters e refl) in
    let left = leaves h u hu e all in
    record { seats = seats_stay e (seats_with h e.sent.user) all; lines = left.lines; seat = left.seat }

pub event_of_letters : (h : Hub) (sender : Option Sent) (e : Event) → ((s : Sent) → sender ≡ Some s → is_of_letters s.user ≡ true) →
    event_by h sender ≡ Some e → is_of_letters e.sent.user ≡ true
event_of_letters h None e letters is = absurd (cc)
event_of_letters h (Some s) e letters is = by_room (has_room h s.user) (Some (record { sent = s; change = data_command_of (seat_of h s.user) s.line })) is refl
  where
    by_room : (b : Bool) (o : Option Event) → (if b then o else None) ≡ Some e →
        o ≡ Some (record { sent = s; change = data_command_of (seat_of h s.user) s.line }) → is_of_letters e.sent.user ≡ true
    by_room true o found made =
        let both : Some e ≡ Some (record { sent = s; change = data_command_of (seat_of h s.user) s.line }) = sym found ∙ made in
        let same : e ≡ record { sent = s; change = data_command_of (seat_of h s.user) s.line } = cc in
        ap (λ (e : Event). is_of_letters e.sent.user) same ∙ letters s refl
    by_room false o found made = absurd (cc)

hears : (u : List ℕ) (lines : List (List ℕ)) (h : Hub) → is_of_letters u ≡ true → AreSeats h.seats →
    lines_for u (replies machine h lines) ≡ heard (seat_of h u) (user_view h u lines)
unfolding hub_step
hears u [] h hu seats = refl
hears u (line ∷ lines) h hu seats =
    let f = follows h u (sent_in line) (event_in h line) hu seats (λ e is. event_of_letters h (sent_in line) e (sender_is_of_letters line) is) in
    let next : Hub = (hub_step_by h (sent_in line) (event_in h line)).0 in
    let later : lines_for u (replies machine next lines) ≡ heard (seat_of next u) (user_view next u lines) = hears u lines next hu f.seats in
    f.lines (replies machine next lines)
    ∙ ap (λ l. heard (seat_of h u) (items (item_in h u line)) ++ l) (later ∙ ap (λ s. heard s (user_view next u lines)) f.seat)
    ∙ sym (heard_more (seat_of h u) (items (item_in h u line)) (user_view next u lines))

pub hears_the_view : HearsTheView
hears_the_view u lines hu = hears u lines empty_hub hu tt

pub hears_alike : HearsAlike
hears_alike u lines other hu same = hears_the_view u lines hu ∙ ap (heard empty_seat) same ∙ sym (hears_the_view u other hu)
