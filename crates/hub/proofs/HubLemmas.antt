-- A command of the user at a place leaves a hub.
use Rattle.std.proofs.Common.{◌≡◌, ℕ, zero, suc, ◌+◌, ◌<◌, ◌≤◌, true, false, List, [], ◌∷◌, ◌++◌, length, map, None, Some, Option, refl, sym, ap, ◌∙◌, subst, append-nil, length-append, inl, inr, arith}
use Rattle.std.proofs.lemmas.Bool.{cases_Bool}
use Rattle.std.proofs.lemmas.List.{length-map}
use Rattle.std.specs.Prelude.{slice_get}
use Rattle.std.specs.List.{AllByRecursion}
use Rattle.command_text.specs.declared.refusal.Refusal.{Refusal}
use Rattle.command_text.specs.Tree.{CommandTree}
use Rattle.line_meaning.specs.Judging.{all_after, fault_of, held_after}
use Rattle.feeds_meaning.specs.declared.limits.TheConstants.{DATA_LINES_LIMIT, QUERY_LINES_LIMIT}
use Rattle.feeds_meaning.specs.Hub.{Hub, Seated, added, has_user}
use Rattle.feeds_meaning.specs.Lines.{is_data, is_of_queries}
use Rattle.hub.specs.Seats.{AreDistinctUsers, IsHub, IsUser, accepted_in}
use Rattle.hub.specs.Told.{change_by, seated_by}
use Rattle.hub.proofs.KindLemmas.{of_data}
use Rattle.hub.proofs.PlaceLemmas.{IsAloneAt, apart_mapped}
use Rattle.hub.proofs.UserLemmas.{IsShort, ReachesMore, after_data, after_other, refused_alike, user_of_data, user_of_other}

user_moved : (a b : List CommandTree) (s t : Seated) → a ≡ b → s ≡ t → IsUser a s → IsUser b t
user_moved a b s t ab st user = subst (λ (x : Seated). IsUser b x) st (subst (λ (l : List CommandTree). IsUser l s) ab user)

-- of the first user, as of each
pub accepted_first : (accepted : List CommandTree) (seats : List Seated) → 0 < length seats → AllByRecursion (IsUser accepted) seats →
    accepted_in seats ≡ accepted
accepted_first accepted [] some users = absurd (omega arith)
accepted_first accepted (s ∷ seats) some users = users.0.shared

-- what a user's line may count
pub record HasRoomFor (accepted : List CommandTree) (s : Seated) (c : CommandTree) : Type 0 where
  pub of_data : is_data c ≡ true → length accepted < DATA_LINES_LIMIT
  pub of_queries : is_of_queries c ≡ true → s.seat.query_lines < QUERY_LINES_LIMIT

module _ (accepted : List CommandTree) (c : CommandTree) (s : Seated) (reaches : ReachesMore) (sender : IsUser accepted s) (c_short : IsShort c)
    (room : HasRoomFor accepted s c) where
  own_refused : (refusal : Refusal) → has_user s.user s ≡ true → IsUser (accepted ++ added (change_by c (Some refusal))) (seated_by s.user c (Some refusal) s)
  own_refused refusal own =
      let there : Seated = record { user = s.user; seat = record s.seat { here = true } } in
      let user : IsUser accepted there = record {
        reached = sender.reached;
        shared = sender.shared;
        here = refl;
        data_lines = sender.data_lines;
        entries = sender.entries;
        few = sender.few;
        short = sender.short;
      } in
      let same : there ≡ seated_by s.user c (Some refusal) s = rw own refl in
      user_moved accepted (accepted ++ []) there (seated_by s.user c (Some refusal) s) (sym (append-nil accepted)) same user

  own_accepted : has_user s.user s ≡ true → fault_of s.seat.held c ≡ None → IsUser (accepted ++ added (change_by c None)) (seated_by s.user c None s)
  own_accepted own fault = elim (cases_Bool (is_data c)) [
    | inl is ↦
        let mine : Seated = record {
          user = s.user;
          seat = record { held = all_after s.seat.held c; here = true; data_lines = s.seat.data_lines + 1; query_lines = s.seat.query_lines };
        } in
        let here : after_data s c ≡ mine = λ i. record {
          user = s.user;
          seat = record {
            held = sym ((of_data c is).same s.seat.held) i;
            here = true;
            data_lines = s.seat.data_lines + 1;
            query_lines = s.seat.query_lines;
          };
        } in
        let same : mine ≡ seated_by s.user c None s = rw (own, is, (of_data c is).kept) refl in
        let more : accepted ++ c ∷ [] ≡ accepted ++ added (change_by c None) = rw is refl in
        user_moved (accepted ++ c ∷ []) (accepted ++ added (change_by c None)) (after_data s c) (seated_by s.user c None s) more (here ∙ same)
        (user_of_data accepted s c reaches sender is c_short fault)
    | inr other ↦
        let same : after_other s c ≡ seated_by s.user c None s = rw (own, other) refl in
        let more : accepted ≡ accepted ++ added (change_by c None) = rw other (sym (append-nil accepted)) in
        user_moved accepted (accepted ++ added (change_by c None)) (after_other s c) (seated_by s.user c None s) more same
        (user_of_other accepted s c reaches sender other c_short room.of_queries fault)
  ]

  own_user : (r : Option Refusal) → has_user s.user s ≡ true → fault_of s.seat.held c ≡ r → IsUser (accepted ++ added (change_by c r)) (seated_by s.user c r s)
  own_user None own fault = own_accepted own fault
  own_user (Some refusal) own fault = own_refused refusal own

  -- who isn't the sender
  other_stays : (r : Option Refusal) (t : Seated) → has_user s.user t ≡ false → change_by c r ≡ None → IsUser accepted t →
      IsUser (accepted ++ added (change_by c r)) (seated_by s.user c r t)
  other_stays r t other nothing user =
      let same : t ≡ seated_by s.user c r t = rw (other, nothing) refl in
      let more : accepted ≡ accepted ++ added (change_by c r) = rw nothing (sym (append-nil accepted)) in
      user_moved accepted (accepted ++ added (change_by c r)) t (seated_by s.user c r t) more same user

  other_takes : (t : Seated) → has_user s.user t ≡ false → is_data c ≡ true → fault_of s.seat.held c ≡ None → IsUser accepted t →
      IsUser (accepted ++ added (change_by c None)) (seated_by s.user c None t)
  other_takes t other is fault user =
      let before : Seated = record {
        user = t.user;
        seat = record { held = held_after t.seat.held c; here = t.seat.here; data_lines = t.seat.data_lines + 1; query_lines = t.seat.query_lines };
      } in
      let here : after_data t c ≡ before = λ i. record {
        user = t.user;
        seat = record {
          held = held_after t.seat.held c;
          here = sym user.here i;
          data_lines = t.seat.data_lines + 1;
          query_lines = t.seat.query_lines;
        };
      } in
      let same : before ≡ seated_by s.user c None t = rw (other, is) refl in
      let more : accepted ++ c ∷ [] ≡ accepted ++ added (change_by c None) = rw is refl in
      let taken = refused_alike accepted s t c sender user is c_short (room.of_data is) fault in
      user_moved (accepted ++ c ∷ []) (accepted ++ added (change_by c None)) (after_data t c) (seated_by s.user c None t) more (here ∙ same)
      (user_of_data accepted t c reaches user is c_short taken)

  other_user : (r : Option Refusal) (t : Seated) → has_user s.user t ≡ false → fault_of s.seat.held c ≡ r → IsUser accepted t →
      IsUser (accepted ++ added (change_by c r)) (seated_by s.user c r t)
  other_user (Some refusal) t other fault user = other_stays (Some refusal) t other refl user
  other_user None t other fault user = elim (cases_Bool (is_data c)) [
    | inl is ↦ other_takes t other is fault user
    | inr plain ↦ other_stays None t other (rw plain refl) user
  ]

  other_users : (r : Option Refusal) (seats : List Seated) → AllByRecursion (λ t. has_user s.user t ≡ false) seats → fault_of s.seat.held c ≡ r →
      AllByRecursion (IsUser accepted) seats → AllByRecursion (IsUser (accepted ++ added (change_by c r))) (map (seated_by s.user c r) seats)
  other_users r [] others fault users = tt
  other_users r (t ∷ seats) others fault users = (other_user r t others.0 fault users.0, other_users r seats others.1 fault users.1)

  all_users : (r : Option Refusal) (seats : List Seated) (place : ℕ) → IsAloneAt s.user place seats → slice_get seats place ≡ Some s →
      fault_of s.seat.held c ≡ r → AllByRecursion (IsUser accepted) seats →
      AllByRecursion (IsUser (accepted ++ added (change_by c r))) (map (seated_by s.user c r) seats)
  all_users r [] place at e fault users = absurd at
  all_users r (t ∷ seats) zero at e fault users =
      let same : s ≡ t = let back : t ≡ s = cc in sym back in
      let own : IsUser (accepted ++ added (change_by c r)) (seated_by s.user c r t) =
      subst (λ (x : Seated). has_user s.user x ≡ true → IsUser (accepted ++ added (change_by c r)) (seated_by s.user c r x)) same
      (λ h. own_user r h fault) at.0 in
      (own, other_users r seats at.1 fault users.1)
  all_users r (t ∷ seats) (suc place) at e fault users =
      (other_user r t at.0 fault users.0, all_users r seats place at.1 e fault users.1)

-- ---- All of them

few_added : (accepted : List CommandTree) (c : CommandTree) (r : Option Refusal) → length accepted ≤ DATA_LINES_LIMIT →
    (is_data c ≡ true → length accepted < DATA_LINES_LIMIT) → length (accepted ++ added (change_by c r)) ≤ DATA_LINES_LIMIT
few_added accepted c (Some refusal) few room = let none = ap length (append-nil accepted) in omega arith
few_added accepted c None few room = elim (cases_Bool (is_data c)) [
  | inl is ↦
      let more : length (accepted ++ added (change_by c None)) ≡ length accepted + 1 = rw is (length-append accepted (c ∷ [])) in
      let left = room is in
      omega arith
  | inr other ↦
      let same : length (accepted ++ added (change_by c None)) ≡ length accepted = rw other (ap length (append-nil accepted)) in
      omega arith
]

-- what a command leaves of a hub
pub record GoesOn (h : Hub) (c : CommandTree) (r : Option Refusal) (seats : List Seated) : Type 0 where
  pub hub : IsHub (record { seats = seats; accepted = accepted_in seats })
  pub accepted : accepted_in seats ≡ h.accepted ++ added (change_by c r)

some_at : (seats : List Seated) (place : ℕ) (s : Seated) → slice_get seats place ≡ Some s → 0 < length seats
some_at [] place s e = absurd (cc)
some_at (t ∷ seats) place s e = omega arith

pub hub_goes_on : (h : Hub) (c : CommandTree) (s : Seated) (place : ℕ) (r : Option Refusal) (seats : List Seated) → ReachesMore → IsHub h → IsShort c →
    HasRoomFor h.accepted s c → IsAloneAt s.user place h.seats → slice_get h.seats place ≡ Some s → IsUser h.accepted s → fault_of s.seat.held c ≡ r →
    seats ≡ map (seated_by s.user c r) h.seats → GoesOn h c r seats
hub_goes_on h c s place r seats reaches hub c_short room at e sender fault is =
    let after : List CommandTree = h.accepted ++ added (change_by c r) in
    let users : AllByRecursion (IsUser after) seats =
    subst (λ (l : List Seated). AllByRecursion (IsUser after) l) (sym is) (all_users h.accepted c s reaches sender c_short room r h.seats place at e fault hub.users) in
    let long : length seats ≡ length h.seats = ap length is ∙ length-map h.seats (seated_by s.user c r) in
    let some = some_at h.seats place s e in
    let few_users = hub.few_users in
    let first : accepted_in seats ≡ after = accepted_first after seats (omega arith) users in
    let few : length after ≤ DATA_LINES_LIMIT = few_added h.accepted c r hub.few room.of_data in
    record {
      hub = record {
        users = subst (λ (l : List CommandTree). AllByRecursion (IsUser l) seats) (sym first) users;
        accepted_is = refl;
        few = subst (λ (l : List CommandTree). length l ≤ DATA_LINES_LIMIT) (sym first) few;
        few_users = omega arith;
        apart = subst AreDistinctUsers (sym is) (apart_mapped (seated_by s.user c r) h.seats (λ t. refl) hub.apart);
      };
      accepted = first;
    }
