-- A user is found among the others, or gets a place.
use Rattle.std.proofs.Common.{◌≡◌, ℕ, suc, ◌+◌, ◌<◌, ◌≤◌, true, false, Bool, List, [], ◌∷◌, ◌++◌, length, map, get_or, None, Some, Option, refl, sym, ap, ◌∙◌, subst, append-nil, append_assoc, length-append, inl, inr, arith}
use Rattle.std.proofs.lemmas.Bool.{cases_Bool}
use Rattle.std.proofs.lemmas.Bool.Decides.{nat_tests}
use Rattle.std.proofs.lemmas.List.{length-map, map-append}
use Rattle.std.proofs.lemmas.List.Quantifiers.{position-Some}
use Rattle.std.proofs.lemmas.Option.{slice_get-get_or}
use Rattle.std.specs.Prelude.{find, is_some, nat_le, nat_lt, option_map, slice_get, ◌||◌}
use Rattle.std.specs.List.{AllByRecursion, position, position_or_len}
use Rattle.std.specs.Str.{bytes_eq}
use Rattle.command_text.specs.Journal.{Accepted}
use Rattle.command_text.specs.Tree.{CommandTree}
use Rattle.line_meaning.specs.Judging.{Held, held, held_after}
use Rattle.line_meaning.specs.Reached.{AreReached}
use Rattle.users.specs.declared.sender.TheConstants.{USER_LIMIT}
use Rattle.feeds_meaning.specs.declared.limits.TheConstants.{DATA_LINES_LIMIT, USERS_LIMIT}
use Rattle.feeds_meaning.specs.Hub.{Seated, has_room, has_user, newcomer, seat_in, seats_with}
use Rattle.feeds_meaning.specs.Lines.{is_data}
use Rattle.hub.specs.Told.{HeldUser as Kept}
use Rattle.hub.specs.Seats.{AreDistinctUsers, IsHub, IsUser, accepted_in, data_commands, data_entries}
use Rattle.hub.specs.Told.{IsSeatedAs, arrived, data_journal, seated}
use Rattle.hub.proofs.CommandLemmas.{hub_by, seated_at}
use Rattle.hub.proofs.DataLemmas.{data_more, replayed_holds, replayed_is_taken}
use Rattle.hub.proofs.NewcomerLemmas.{newcomer_asks, newcomer_counts, newcomer_holds}
use Rattle.hub.proofs.PlaceLemmas.{IsAloneAt, alone, apart_pushed, found_at}
use Rattle.hub.proofs.UserLemmas.{ReachesMore}
use Rattle.exact.proofs.Items.{all_pushed}
use Rattle.exact.proofs.Lists.{bytes_eq_true}

arrived_same : (d : ℕ) (seats : List Kept) → map (seated d) seats ≡ map arrived (map (seated d) seats)
arrived_same d [] = refl
arrived_same d (s ∷ seats) = ap (λ l. seated d s ∷ l) (arrived_same d seats)

-- ---- A user who was there before

record FoundAt (user : List ℕ) (seats : List Kept) (place : ℕ) : Type 0 where
  s : Kept
  there : slice_get seats place ≡ Some s
  named : s.user ≡ user

found : (user : List ℕ) (seats : List Kept) (place : ℕ) → position (λ s. bytes_eq user s.user) seats ≡ Some place → FoundAt user seats place
found user [] place e = absurd (cc)
found user (x ∷ seats) place e =
    let at = position-Some (λ (s : Kept). bytes_eq user s.user) (x ∷ seats) place x e in
    record {
      s = get_or (x ∷ seats) place x;
      there = slice_get-get_or (x ∷ seats) place x at.0;
      named = sym (bytes_eq_true user (get_or (x ∷ seats) place x).user at.1);
    }

pub place_within : (user : List ℕ) (seats : List Kept) (place : ℕ) → position (λ s. bytes_eq user s.user) seats ≡ Some place → place < length seats
place_within user [] place e = absurd (cc)
place_within user (x ∷ seats) place e = (position-Some (λ (s : Kept). bytes_eq user s.user) (x ∷ seats) place x e).0

pub seated_before : (user : List ℕ) (d : ℕ) (seats : List Kept) (place : ℕ) → IsHub (hub_by d seats) →
    position (λ s. bytes_eq user s.user) seats ≡ Some place → IsSeatedAs (hub_by d seats) user (hub_by d seats) (Some place)
seated_before user d seats place hub e =
    let at = found user seats place e in
    let there = seated_at d seats place at.s at.there in
    let single : IsAloneAt user place (map (seated d) seats) =
    subst (λ u. IsAloneAt u place (map (seated d) seats)) at.named (alone (map (seated d) seats) place (seated d at.s) there hub.apart) in
    let is : find (has_user user) (map (seated d) seats) ≡ Some (seated d at.s) = found_at user (map (seated d) seats) place (seated d at.s) single there in
    let some : is_some (seat_in (map (seated d) seats) user) ≡ true = ap (λ (o : Option Seated). is_some (option_map (λ (s : Seated). s.seat) o)) is in
    let room : has_room (hub_by d seats) user ≡ true = ap (λ b. b || nat_lt (length (map (seated d) seats)) USERS_LIMIT) some in
    let all : seats_with (hub_by d seats) user ≡ map (seated d) seats = rw some refl in (
      room,
      record {
        there = ap (option_map (λ (s : Seated). s.user)) there ∙ ap Some at.named;
        seats = arrived_same d seats ∙ ap (map arrived) (sym all);
      },
      refl,
    )

-- ---- A user who wasn't

past : (p : Kept → Bool) (xs : List Kept) → nat_lt (position_or_len p xs) (length xs) ≡ false → AllByRecursion (λ x. p x ≡ false) xs
past p [] h = tt
past p (x ∷ xs) h = elim (cases_Bool (p x)) [
  | inl is ↦
      let here : nat_lt 0 (length (x ∷ xs)) ≡ false = rw is at h in
      absurd (never (length xs) here)
  | inr other ↦
      let later : nat_lt (1 + position_or_len p xs) (length (x ∷ xs)) ≡ false = rw other at h in
      (other, past p xs (down (position_or_len p xs) (length xs) later))
]
  where
    never : (n : ℕ) → nat_lt 0 (suc n) ≡ false → ⊥
    never n h = grind (arith, nat_tests)

    down : (a n : ℕ) → nat_lt (1 + a) (suc n) ≡ false → nat_lt a n ≡ false
    down a n h = grind (arith, nat_tests)

none_there : (user : List ℕ) (d : ℕ) (seats : List Kept) → position (λ s. bytes_eq user s.user) seats ≡ None →
    AllByRecursion (λ t. has_user user t ≡ false) (map (seated d) seats)
none_there user d seats e = mapped seats (past (λ (s : Kept). bytes_eq user s.user) seats (not_within (nat_lt _ _) refl))
  where
    not_within : (b : Bool) → nat_lt (position_or_len (λ (s : Kept). bytes_eq user s.user) seats) (length seats) ≡ b →
        nat_lt (position_or_len (λ (s : Kept). bytes_eq user s.user) seats) (length seats) ≡ false
    not_within true h = let some : position (λ (s : Kept). bytes_eq user s.user) seats ≡ Some (position_or_len (λ (s : Kept). bytes_eq user s.user) seats) = rw h refl in
        let bad = sym some ∙ e in absurd (cc)
    not_within false h = h

    mapped : (xs : List Kept) → AllByRecursion (λ s. bytes_eq user s.user ≡ false) xs → AllByRecursion (λ t. has_user user t ≡ false) (map (seated d) xs)
    mapped [] all = tt
    mapped (x ∷ xs) all = (all.0, mapped xs all.1)

find_none : (user : List ℕ) (seats : List Seated) → AllByRecursion (λ t. has_user user t ≡ false) seats → find (has_user user) seats ≡ None
find_none user [] all = refl
find_none user (t ∷ seats) all = rw all.0 (find_none user seats all.1)

nobody : (user : List ℕ) (d : ℕ) (seats : List Kept) → position (λ s. bytes_eq user s.user) seats ≡ None → is_some (seat_in (map (seated d) seats) user) ≡ false
nobody user d seats e =
    ap (λ (o : Option Seated). is_some (option_map (λ (s : Seated). s.seat) o)) (find_none user (map (seated d) seats) (none_there user d seats e))

pub all_taken : (n : ℕ) → nat_le USERS_LIMIT n ≡ true → USERS_LIMIT ≤ n
all_taken n h = grind (arith, nat_tests)

pub one_free : (n : ℕ) → nat_le USERS_LIMIT n ≡ false → n < USERS_LIMIT
one_free n h = grind (arith, nat_tests)

pub no_room : (user : List ℕ) (d : ℕ) (seats : List Kept) → position (λ s. bytes_eq user s.user) seats ≡ None → USERS_LIMIT ≤ length seats →
    has_room (hub_by d seats) user ≡ false
no_room user d seats e full =
    let many = length-map seats (seated d) in
    let past : nat_lt (length (map (seated d) seats)) USERS_LIMIT ≡ false = grind (arith, nat_tests) in
    ap (λ b. b || nat_lt (length (map (seated d) seats)) USERS_LIMIT) (nobody user d seats e) ∙ past

-- ---- What a newcomer has

reached_from : ReachesMore → (before later : List Accepted) → AreReached before later → AreReached [] (data_entries before) →
    AreReached [] (data_entries (before ++ later))
reached_from reaches before [] reached all = subst (λ j. AreReached [] (data_entries j)) (sym (append-nil before)) all
reached_from reaches before (e ∷ later) reached all =
    let there : before ++ e ∷ [] ++ later ≡ before ++ e ∷ later = append_assoc before (e ∷ []) later in
    subst (λ j. AreReached [] (data_entries j)) there (reached_from reaches (before ++ e ∷ []) later reached.1 one)
  where
    one : AreReached [] (data_entries (before ++ e ∷ []))
    one = elim (cases_Bool (is_data e.1)) [
      | inl is ↦
          let goes : held_after (held (data_entries before)) e.1 ≡ held (data_entries (before ++ e ∷ [])) = replayed_holds before e reached.0 is in
          subst (λ (h : Held). AreReached [] h.journal) goes
          (reaches (held (data_entries before)) e.1 reached.0.printable reached.0.short (replayed_is_taken before e reached.0 is) all)
      | inr other ↦
          let none : data_entries (before ++ e ∷ []) ≡ data_entries before = data_more before e ∙ rw other (append-nil (data_entries before)) in
          subst (AreReached []) (sym none) all
    ]

pub data_reached : (d : ℕ) (seats : List Kept) → ReachesMore → AllByRecursion (IsUser (accepted_in (map (seated d) seats))) (map (seated d) seats) →
    AreReached [] (data_journal seats)
data_reached d [] reaches users = tt
data_reached d (s ∷ seats) reaches users = reached_from reaches [] s.held.journal users.0.reached tt

twice : (journal : List Accepted) → data_entries (data_entries journal) ≡ data_entries journal
twice [] = refl
twice (e ∷ journal) = elim (cases_Bool (is_data e.1)) [
  | inl is ↦ rw (is, is) (ap (λ l. e ∷ l) (twice journal))
  | inr other ↦ rw other (twice journal)
]

-- of these data commands
record IsOfAll (accepted : List CommandTree) (h : Held) : Type 0 where
  reached : AreReached [] h.journal
  shared : data_commands h.journal ≡ accepted
  long : length h.journal ≡ length accepted

of_all : (seats : List Seated) → ReachesMore → AllByRecursion (IsUser (accepted_in seats)) seats → IsOfAll (accepted_in seats) (newcomer (accepted_in seats)).held
of_all [] reaches users = record { reached = tt; shared = refl; long = refl }
of_all (s ∷ seats) reaches users =
    let j = s.seat.held.journal in
    let is : (newcomer (data_commands j)).held ≡ held (data_entries j) = newcomer_holds j users.0.reached in
    let all : AreReached [] (data_entries j) = reached_from reaches [] j users.0.reached tt in
    let here : IsOfAll (data_commands j) (held (data_entries j)) = record {
      reached = all;
      shared = ap (map (λ (e : Accepted). e.1)) (twice j);
      long = sym (length-map (data_entries j) (λ (e : Accepted). e.1));
    } in
    subst (IsOfAll (data_commands j)) (sym is) here

-- it is what is copied of the first user
pub newcomer_of_users : (d : ℕ) (seats : List Kept) → AllByRecursion (IsUser (accepted_in (map (seated d) seats))) (map (seated d) seats) →
    held (data_journal seats) ≡ (newcomer (accepted_in (map (seated d) seats))).held
newcomer_of_users d [] users = sym (newcomer_holds [] tt)
newcomer_of_users d (s ∷ seats) users = sym (newcomer_holds s.held.journal users.0.reached)

-- ---- A newcomer gets a place

-- as the definition has a newcomer whose line has come
pub record IsNew (user : List ℕ) (accepted : List CommandTree) (k : Kept) : Type 0 where
  pub named : k.user ≡ user
  pub held_is : k.held ≡ (newcomer accepted).held
  pub asks : k.query_lines ≡ 0

pub is_new : (user : List ℕ) (accepted : List CommandTree) (k : Kept) → k.user ≡ user → k.held ≡ (newcomer accepted).held → k.query_lines ≡ 0 →
    IsNew user accepted k
is_new user accepted k named held_is asks = record { named = named; held_is = held_is; asks = asks }

same_accepted : (d : ℕ) (seats : List Kept) (k : Kept) (user : List ℕ) → IsNew user (hub_by d seats).accepted k →
    (hub_by d (seats ++ k ∷ [])).accepted ≡ (hub_by d seats).accepted
same_accepted d [] k user new = ap (λ (h : Held). data_commands h.journal) new.held_is
same_accepted d (s ∷ seats) k user new = refl

module _ (user : List ℕ) (d : ℕ) (seats : List Kept) (k : Kept) (reaches : ReachesMore) (hub : IsHub (hub_by d seats))
    (lines : d ≡ length (hub_by d seats).accepted) (short : length user ≤ USER_LIMIT) (new : IsNew user (hub_by d seats).accepted k)
    (none : position (λ s. bytes_eq user s.user) seats ≡ None) (room : length seats < USERS_LIMIT) where
  newcomer_is : seated d k ≡ arrived (record { user = user; seat = newcomer (hub_by d seats).accepted })
  newcomer_is =
      let counts : d ≡ (newcomer (hub_by d seats).accepted).data_lines = lines ∙ sym (newcomer_counts (hub_by d seats).accepted) in
      let asks : k.query_lines ≡ (newcomer (hub_by d seats).accepted).query_lines = new.asks ∙ sym (newcomer_asks (hub_by d seats).accepted) in
      λ i. record {
        user = new.named i;
        seat = record { held = new.held_is i; here = true; data_lines = counts i; query_lines = asks i };
      }

  more : map (seated d) (seats ++ k ∷ []) ≡ map (seated d) seats ++ seated d k ∷ []
  more = map-append (seated d) seats (k ∷ [])

  last_user : (xs : List Kept) → option_map (λ (s : Seated). s.user) (slice_get (map (seated d) (xs ++ k ∷ [])) (length xs)) ≡ Some user
  last_user [] = ap Some new.named
  last_user (x ∷ xs) = last_user xs

  pub seated_now : IsSeatedAs (hub_by d seats) user (hub_by d (seats ++ k ∷ [])) (Some (length seats))
  seated_now =
      let many = length-map seats (seated d) in
      let few : nat_lt (length (map (seated d) seats)) USERS_LIMIT ≡ true = grind (arith, nat_tests) in
      let nobody_is = nobody user d seats none in
      let has : has_room (hub_by d seats) user ≡ true = rw nobody_is few in
      let all : seats_with (hub_by d seats) user ≡ map (seated d) seats ++ record { user = user; seat = newcomer (hub_by d seats).accepted } ∷ [] =
      rw nobody_is refl in
      let fresh : Seated = record { user = user; seat = newcomer (hub_by d seats).accepted } in
      let came : map arrived (map (seated d) seats ++ fresh ∷ []) ≡ map arrived (map (seated d) seats) ++ arrived fresh ∷ [] =
      map-append arrived (map (seated d) seats) (fresh ∷ []) in (
        has,
        record {
          there = last_user seats;
          seats =
              more ∙ ap (λ l. l ++ seated d k ∷ []) (arrived_same d seats) ∙ ap (λ s. map arrived (map (seated d) seats) ++ s ∷ []) newcomer_is
              ∙ sym came ∙ ap (map arrived) (sym all);
        },
        same_accepted d seats k user new,
      )

  new_user : IsUser (hub_by d seats).accepted (seated d k)
  new_user =
      let all : IsOfAll (hub_by d seats).accepted (newcomer (hub_by d seats).accepted).held =
      of_all (map (seated d) seats) reaches (subst (λ a. AllByRecursion (IsUser a) (map (seated d) seats)) hub.accepted_is hub.users) in
      let mine : IsOfAll (hub_by d seats).accepted k.held = subst (IsOfAll (hub_by d seats).accepted) (sym new.held_is) all in
      let long = mine.long in
      let asks = new.asks in
      record {
        reached = mine.reached;
        shared = mine.shared;
        here = refl;
        data_lines = lines;
        entries = omega arith;
        few = omega arith;
        short = subst (λ u. length u ≤ USER_LIMIT) (sym new.named) short;
      }

  pub hub_now : IsHub (hub_by d (seats ++ k ∷ []))
  hub_now =
      let same = same_accepted d seats k user new in
      let users : AllByRecursion (IsUser (hub_by d seats).accepted) (map (seated d) (seats ++ k ∷ [])) =
      subst (AllByRecursion (IsUser (hub_by d seats).accepted)) (sym more)
      (all_pushed (IsUser (hub_by d seats).accepted) (map (seated d) seats) (seated d k) hub.users new_user) in
      let many : length (map (seated d) (seats ++ k ∷ [])) ≡ length seats + 1 = length-map (seats ++ k ∷ []) (seated d) ∙ length-append seats (k ∷ []) in
      let others : AllByRecursion (λ t. has_user (seated d k).user t ≡ false) (map (seated d) seats) =
      subst (λ u. AllByRecursion (λ t. has_user u t ≡ false) (map (seated d) seats)) (sym new.named) (none_there user d seats none) in
      record {
        users = subst (λ a. AllByRecursion (IsUser a) (map (seated d) (seats ++ k ∷ []))) (sym same) users;
        accepted_is = refl;
        few = subst (λ (a : List CommandTree). length a ≤ DATA_LINES_LIMIT) (sym same) hub.few;
        few_users = omega arith;
        apart = subst AreDistinctUsers (sym more) (apart_pushed (map (seated d) seats) (seated d k) others hub.apart);
      }

  pub lines_now : d ≡ length (hub_by d (seats ++ k ∷ [])).accepted
  lines_now = lines ∙ ap (λ (a : List CommandTree). length a) (sym (same_accepted d seats k user new))

  pub seated_pushed : (final : List Kept) (place : ℕ) → final ≡ seats ++ k ∷ [] → place ≡ length seats →
      IsSeatedAs (hub_by d seats) user (hub_by d final) (Some place)
  seated_pushed final place e at =
      subst (λ n. IsSeatedAs (hub_by d seats) user (hub_by d final) (Some n)) (sym at)
      (subst (λ l. IsSeatedAs (hub_by d seats) user (hub_by d l) (Some (length seats))) (sym e) seated_now)

  pub parts_pushed : (final : List Kept) → final ≡ seats ++ k ∷ [] → IsHub (hub_by d final) × (d ≡ length (hub_by d final).accepted)
  parts_pushed final e = subst (λ l. IsHub (hub_by d l) × (d ≡ length (hub_by d l).accepted)) (sym e) (hub_now, lines_now)
