-- The desks of users who share a database, before and after a command of one of them.
use Rattle.std.proofs.Common.{◌≡◌, ℕ, zero, suc, ◌+◌, ◌<◌, ◌≤◌, true, false, Bool, List, [], ◌∷◌, ◌++◌, length, map, get_or, None, Some, Option, refl, sym, ap, ◌∙◌, subst, inl, inr, arith}
use Rattle.std.proofs.lemmas.Bool.{cases_Bool}
use Rattle.std.proofs.lemmas.List.{map-append}
use Rattle.std.specs.Prelude.{if◌then◌else◌, nat_lt, slice_get, slice_set}
use Rattle.std.specs.List.{AllByRecursion, position, position_or_len}
use Rattle.std.specs.Str.{bytes_eq}
use Rattle.command_text.specs.declared.refusal.Refusal.{Refusal}
use Rattle.command_text.specs.Journal.{Accepted}
use Rattle.command_text.specs.Tree
use Rattle.command_text.specs.Tree.{CommandTree}
use Rattle.history.specs.World.{World}
use Rattle.line_meaning.specs.Journal.{world}
use Rattle.line_meaning.specs.Judging.{fault_of}
use Rattle.line_meaning.specs.Reached.{AreReached}
use Rattle.line_meaning.specs.Registry.{Registration, live_after, registered_from}
use Rattle.feeds_meaning.specs.Hub.{Seated, has_user}
use Rattle.feeds_meaning.specs.Lines.{is_data}
use Rattle.session.specs.declared.sharing.Desk.{Desk}
use Rattle.session.specs.declared.sharing.Shared.{Shared}
use Rattle.session.specs.Sharing.{Awaits, IsBare, IsLeftBy, IsRightOver, IsSameFor}
use Rattle.session.proofs.CallerLemmas.{copied_is_right, same_is_awaited, same_is_right}
use Rattle.hub.specs.declared.seat.Seat.{Seat}
use Rattle.hub.specs.Desks.{AreLeftAt, AreRightDesks, AreToFollow, HaveFollowed, IsRightSeat, IsToFollow, LeavesDesks}
use Rattle.hub.specs.Seats.{IsHub, data_entries}
use Rattle.hub.specs.Told.{HeldUser, IsOwnAt, IsOwnOf, data_journal, held_user, held_users, kept_own, seated}
use Rattle.hub.proofs.CommandLemmas.{hub_by, is_at, seated_at}
use Rattle.hub.proofs.DataLemmas.{data_clock, data_world, data_writes}
use Rattle.hub.proofs.PlaceLemmas.{IsAloneAt, alone}
use Rattle.exact.proofs.Items.{all_pushed}

-- ---- Users and their places

pub held_length : (seats : List Seat) → length (held_users seats) ≡ length seats
held_length [] = refl
held_length (s ∷ seats) = let later = held_length seats in omega arith

pub held_at_place : (seats : List Seat) (place : ℕ) (s : Seat) → slice_get seats place ≡ Some s → slice_get (held_users seats) place ≡ Some (held_user s)
held_at_place [] place s e = absurd (cc)
held_at_place (x ∷ seats) zero s e = let same : x ≡ s = cc in ap (λ (y : Seat). Some (held_user y)) same
held_at_place (x ∷ seats) (suc place) s e = held_at_place seats place s e

-- whose seat is at a place
pub record IsHeldAt (seats : List Seat) (place : ℕ) (s : HeldUser) : Type 0 where
  pub seat : Seat
  pub there : slice_get seats place ≡ Some seat
  pub is : held_user seat ≡ s

pub seat_of_held : (seats : List Seat) (place : ℕ) (s : HeldUser) → slice_get (held_users seats) place ≡ Some s → IsHeldAt seats place s
seat_of_held [] place s e = absurd (cc)
seat_of_held (x ∷ seats) zero s e = let same : held_user x ≡ s = cc in record { seat = x; there = refl; is = same }
seat_of_held (x ∷ seats) (suc place) s e = let later = seat_of_held seats place s e in record { seat = later.seat; there = later.there; is = later.is }

pub held_set : (seats : List Seat) (place : ℕ) (t : Seat) → held_users (slice_set seats place t) ≡ slice_set (held_users seats) place (held_user t)
held_set [] place t = refl
held_set (x ∷ seats) zero t = refl
held_set (x ∷ seats) (suc place) t = ap (λ l. held_user x ∷ l) (held_set seats place t)

pub held_get_or : (seats : List Seat) (place : ℕ) (d : Seat) → held_user (get_or seats place d) ≡ get_or (held_users seats) place (held_user d)
held_get_or [] place d = refl
held_get_or (x ∷ seats) zero d = refl
held_get_or (x ∷ seats) (suc place) d = held_get_or seats place d

pub held_inside : (seats : List Seat) (place : ℕ) → place < length seats → place < length (held_users seats)
held_inside seats place inside = let long = held_length seats in omega arith

held_place_or_len : (user : List ℕ) (seats : List Seat) →
    position_or_len (λ (s : HeldUser). bytes_eq user s.user) (held_users seats) ≡ position_or_len (λ (s : Seat). bytes_eq user s.user) seats
held_place_or_len user [] = refl
held_place_or_len user (s ∷ seats) = elim (cases_Bool (bytes_eq user s.user)) [
  | inl is ↦ rw is refl
  | inr other ↦ rw other (ap (λ n. 1 + n) (held_place_or_len user seats))
]

pub held_position : (user : List ℕ) (seats : List Seat) →
    position (λ (s : HeldUser). bytes_eq user s.user) (held_users seats) ≡ position (λ (s : Seat). bytes_eq user s.user) seats
held_position user seats =
    let where_is = held_place_or_len user seats in
    let long = held_length seats in
    λ i. if nat_lt (where_is i) (long i) then Some (where_is i) else None

-- the user at a place, by the seat there
pub user_at : (seats : List Seat) (place : ℕ) (s : Seat) → place < length seats → s ≡ get_or seats place s →
    slice_get (held_users seats) place ≡ Some (held_user s)
user_at seats place s inside e = held_at_place seats place s (is_at seats place s inside e)

-- ---- A command of the user at a place

all_left : (changed : Bool) (c : CommandTree) (old new : Shared) → LeavesDesks changed c old new → (seats : List Seat) →
    AllByRecursion (IsRightSeat old) seats → AllByRecursion (λ s. IsLeftBy changed c new s.desk) seats
all_left changed c old new leaves [] all = tt
all_left changed c old new leaves (s ∷ seats) all = (leaves s.desk all.0, all_left changed c old new leaves seats all.1)

pub left_at : (changed : Bool) (c : CommandTree) (old new : Shared) → LeavesDesks changed c old new → (seats : List Seat) (place : ℕ) (t : Seat) →
    AllByRecursion (IsRightSeat old) seats → IsRightSeat new t → AreLeftAt place changed c new (slice_set seats place t)
left_at changed c old new leaves [] place t all right = tt
left_at changed c old new leaves (s ∷ seats) zero t all right = (right, all_left changed c old new leaves seats all.1)
left_at changed c old new leaves (s ∷ seats) (suc place) t all right = (leaves s.desk all.0, left_at changed c old new leaves seats place t all.1 right)

-- the sender's command was accepted or not, of the user at the place
pub own_at_place : (place : ℕ) (c : CommandTree) (seats : List Seat) (x t : Seat) (text : List ℕ) (accepted : Bool) → slice_get seats place ≡ Some x →
    IsOwnOf c (held_user x) (held_user t) text accepted → (new : List Seat) → new ≡ slice_set seats place t →
    IsOwnAt place c (held_users seats) (held_users new) text accepted
own_at_place place c seats x t text accepted at own new is = λ s found.
    let both : Some (held_user x) ≡ Some s = sym (held_at_place seats place x at) ∙ found in
    let same : held_user x ≡ s = cc in (
      held_user t,
      subst (λ (y : HeldUser). IsOwnOf c y (held_user t) text accepted) same own,
      ap held_users is ∙ held_set seats place t,
    )

pub right_at : (shared : Shared) (seats : List Seat) (place : ℕ) (s : Seat) → AllByRecursion (IsRightSeat shared) seats → slice_get seats place ≡ Some s →
    IsRightSeat shared s
right_at shared [] place s all e = absurd (cc)
right_at shared (x ∷ seats) zero s all e = let same : x ≡ s = cc in subst (IsRightSeat shared) same all.0
right_at shared (x ∷ seats) (suc place) s all e = right_at shared seats place s all.1 e

-- where nothing has changed, all are right still
pub all_right_still : (c : CommandTree) (shared : Shared) (seats : List Seat) (place : ℕ) → AreLeftAt place false c shared seats →
    AllByRecursion (IsRightSeat shared) seats
all_right_still c shared [] place left = tt
all_right_still c shared (s ∷ seats) zero left = left
all_right_still c shared (s ∷ seats) (suc place) left = (left.0, all_right_still c shared seats place left.1)

abbrev pub user_name : HeldUser → List ℕ
user_name s = s.user

same_first : {A : Type 0} (x y : A) (xs ys : List A) → x ∷ xs ≡ y ∷ ys → x ≡ y
same_first x y xs ys e = cc

same_rest : {A : Type 0} (x y : A) (xs ys : List A) → x ∷ xs ≡ y ∷ ys → xs ≡ ys
same_rest x y xs ys e = cc

no_first : {A : Type 0} (x : A) (xs : List A) → x ∷ xs ≡ [] → ⊥
no_first x xs e = absurd (cc)

never_both : (b : Bool) → b ≡ true → b ≡ false → ⊥
never_both b is not = let bad : true ≡ false = sym is ∙ not in absurd (cc)

-- a user of one list and of another, as the names of all are the same
name_is : (s : Seat) (new : List Seat) (x : HeldUser) (old : List HeldUser) → map user_name (held_users (s ∷ new)) ≡ map user_name (x ∷ old) → s.user ≡ x.user
name_is s new x old same = same_first s.user x.user (map user_name (held_users new)) (map user_name old) same

rest_is : (s : Seat) (new : List Seat) (x : HeldUser) (old : List HeldUser) → map user_name (held_users (s ∷ new)) ≡ map user_name (x ∷ old) →
    map user_name (held_users new) ≡ map user_name old
rest_is s new x old same = same_rest s.user x.user (map user_name (held_users new)) (map user_name old) same

others_follow : (sender : List ℕ) (c : CommandTree) (shared : Shared) (d : ℕ) (old : List HeldUser) (new : List Seat) →
    map user_name (held_users new) ≡ map user_name old → AllByRecursion (λ t. has_user sender t ≡ false) (map (seated d) old) →
    AllByRecursion (λ s. Awaits c shared s.desk) new → AreToFollow sender c shared new
others_follow sender c shared d old [] same others left = tt
others_follow sender c shared d [] (s ∷ new) same others left = absurd (no_first s.user (map user_name (held_users new)) same)
others_follow sender c shared d (x ∷ old) (s ∷ new) same others left =
    let name : s.user ≡ x.user = name_is s new x old same in
    let rest : map user_name (held_users new) ≡ map user_name old = rest_is s new x old same in
    let not : bytes_eq sender s.user ≡ false = ap (bytes_eq sender) name ∙ others.0 in (
      record { own = λ is. absurd (never_both (bytes_eq sender s.user) is not); other = λ _. left.0 },
      others_follow sender c shared d old new rest others.1 left.1,
    )

-- who isn't at the place isn't the sender
pub all_to_follow : (sender : List ℕ) (c : CommandTree) (shared : Shared) (d : ℕ) (old : List HeldUser) (new : List Seat) (place : ℕ) →
    map user_name (held_users new) ≡ map user_name old → IsAloneAt sender place (map (seated d) old) → AreLeftAt place true c shared new →
    AreToFollow sender c shared new
all_to_follow sender c shared d old [] place same single left = tt
all_to_follow sender c shared d [] (s ∷ new) place same single left = absurd single
all_to_follow sender c shared d (x ∷ old) (s ∷ new) zero same single left =
    let name : s.user ≡ x.user = name_is s new x old same in
    let rest : map user_name (held_users new) ≡ map user_name old = rest_is s new x old same in
    let its : bytes_eq sender s.user ≡ true = ap (bytes_eq sender) name ∙ single.0 in (
      record { own = λ _. left.0; other = λ is. absurd (never_both (bytes_eq sender s.user) its is) },
      others_follow sender c shared d old new rest single.1 left.1,
    )
all_to_follow sender c shared d (x ∷ old) (s ∷ new) (suc place) same single left =
    let name : s.user ≡ x.user = name_is s new x old same in
    let rest : map user_name (held_users new) ≡ map user_name old = rest_is s new x old same in
    let not : bytes_eq sender s.user ≡ false = ap (bytes_eq sender) name ∙ single.0 in (
      record { own = λ is. absurd (never_both (bytes_eq sender s.user) is not); other = λ _. left.0 },
      all_to_follow sender c shared d old new place rest single.1 left.1,
    )

own_name : (c : CommandTree) (r : Option Refusal) (s : HeldUser) → user_name (kept_own c r s) ≡ user_name s
own_name c None s = refl
own_name c (Some refusal) s = refl

pub same_names : (c : CommandTree) (r : Option Refusal) (seats : List HeldUser) (place : ℕ) (s : HeldUser) → slice_get seats place ≡ Some s →
    map user_name (slice_set seats place (kept_own c r s)) ≡ map user_name seats
same_names c r [] place s e = refl
same_names c r (x ∷ seats) zero s e =
    let same : s ≡ x = let back : x ≡ s = cc in sym back in
    ap (λ n. n ∷ map user_name seats) (own_name c r s ∙ ap user_name same)
same_names c r (x ∷ seats) (suc place) s e = ap (λ l. user_name x ∷ l) (same_names c r seats place s e)

-- the others are to follow what the user at a place has changed
pub all_others_follow : (d : ℕ) (seats : List HeldUser) (place : ℕ) (s : HeldUser) (c : CommandTree) → slice_get seats place ≡ Some s →
    IsHub (hub_by d seats) → (shared : Shared) (new : List Seat) → held_users new ≡ slice_set seats place (kept_own c (fault_of s.held c) s) →
    AreLeftAt place true c shared new → AreToFollow s.user c shared new
all_others_follow d seats place s c at hub shared new is left =
    let there = seated_at d seats place s at in
    let single : IsAloneAt s.user place (map (seated d) seats) = alone (map (seated d) seats) place (seated d s) there hub.apart in
    all_to_follow s.user c shared d seats new place (ap (map user_name) is ∙ same_names c (fault_of s.held c) seats place s at) single left

-- ---- One user after another follows

same_to_follow : (sender : List ℕ) (c : CommandTree) (old new : Shared) (seats : List Seat) → IsSameFor old new → AreToFollow sender c old seats →
    AreToFollow sender c new seats
same_to_follow sender c old new [] same all = tt
same_to_follow sender c old new (s ∷ seats) same all = (
  record {
    own = λ is. same_is_right old new s.desk same (all.0.own is);
    other = λ is. same_is_awaited c old new s.desk same (all.0.other is);
  },
  same_to_follow sender c old new seats same all.1,
)

pub none_followed : (sender : List ℕ) (c : CommandTree) (shared : Shared) (seats : List Seat) → AreToFollow sender c shared seats →
    HaveFollowed 0 sender c shared seats
none_followed sender c shared [] all = tt
none_followed sender c shared (s ∷ seats) all = all

pub next_follows : (sender : List ℕ) (c : CommandTree) (shared : Shared) (seats : List Seat) (place : ℕ) (d : Seat) → HaveFollowed place sender c shared seats →
    place < length seats → IsToFollow sender c shared (get_or seats place d)
next_follows sender c shared [] place d so_far inside = absurd (omega arith)
next_follows sender c shared (s ∷ seats) zero d so_far inside = so_far.0
next_follows sender c shared (s ∷ seats) (suc place) d so_far inside = next_follows sender c shared seats place d so_far.1 (omega arith)

pub one_followed : (sender : List ℕ) (c : CommandTree) (old new : Shared) (seats : List Seat) (place : ℕ) (t : Seat) → IsSameFor old new →
    IsRightSeat new t → HaveFollowed place sender c old seats → HaveFollowed (suc place) sender c new (slice_set seats place t)
one_followed sender c old new [] place t same right so_far = tt
one_followed sender c old new (s ∷ seats) zero t same right so_far = (
  right,
  none_followed sender c new seats (same_to_follow sender c old new seats same so_far.1),
)
one_followed sender c old new (s ∷ seats) (suc place) t same right so_far = (
  same_is_right old new s.desk same so_far.0,
  one_followed sender c old new seats place t same right so_far.1,
)

pub all_followed : (sender : List ℕ) (c : CommandTree) (shared : Shared) (seats : List Seat) (place : ℕ) → HaveFollowed place sender c shared seats →
    length seats ≤ place → AllByRecursion (IsRightSeat shared) seats
all_followed sender c shared [] place so_far end = tt
all_followed sender c shared (s ∷ seats) zero so_far end = absurd (omega arith)
all_followed sender c shared (s ∷ seats) (suc place) so_far end = (so_far.0, all_followed sender c shared seats place so_far.1 (omega arith))

-- ---- A newcomer

data_live : (w : World) (now : ℕ) (live : List Registration) (c : CommandTree) → is_data c ≡ true → live_after w now live c ≡ live
data_live w now live (Tree.Watch name span q) is = absurd (cc)
data_live w now live (Tree.Keep name span q) is = absurd (cc)
data_live w now live (Tree.Drop name) is = absurd (cc)
data_live w now live c is = refl

none_registered : (before journal : List Accepted) → registered_from before [] (data_entries journal) ≡ []
none_registered before [] = refl
none_registered before (e ∷ journal) = elim (cases_Bool (is_data e.1)) [
  | inl is ↦ rw is (
      ap (λ live. registered_from (before ++ e ∷ []) live (data_entries journal)) (data_live (world before) e.0 [] e.1 is)
      ∙ none_registered (before ++ e ∷ []) journal)
  | inr other ↦ rw other (none_registered before journal)
]

pub newcomer_is_right : (shared : Shared) (seats : List Seat) (k : Desk) → AreRightDesks shared seats → AreReached [] (data_journal (held_users seats)) →
    IsBare (data_journal (held_users seats)) k → IsRightOver shared k
newcomer_is_right shared [] k desks reached bare = desks.none refl k bare
newcomer_is_right shared (s ∷ seats) k desks reached bare =
    let j = s.desk.journal in
    copied_is_right shared (data_entries j) s.desk k desks.each.0 bare (data_world j) (data_clock j) (data_writes j) (none_registered [] j) reached

pub held_pushed : (seats : List Seat) (t : Seat) (final : List Seat) → final ≡ seats ++ t ∷ [] → held_users final ≡ held_users seats ++ held_user t ∷ []
held_pushed seats t final e = ap held_users e ∙ map-append held_user seats (t ∷ [])

-- the data commands of the first user are those of all
pub data_of_first : (seats : List Seat) (s : Seat) (journal : List Accepted) → slice_get seats 0 ≡ Some s → journal ≡ s.desk.journal →
    data_entries journal ≡ data_journal (held_users seats)
data_of_first [] s journal e j = absurd (cc)
data_of_first (x ∷ seats) s journal e j =
    let same : s ≡ x = let back : x ≡ s = cc in sym back in
    ap data_entries (j ∙ ap (λ (y : Seat). y.desk.journal) same)

pub first_reached : (d : ℕ) (seats : List Seat) (s : Seat) (journal : List Accepted) → slice_get seats 0 ≡ Some s → journal ≡ s.desk.journal →
    IsHub (hub_by d (held_users seats)) → AreReached [] journal
first_reached d [] s journal e j hub = absurd (cc)
first_reached d (x ∷ seats) s journal e j hub =
    let same : s ≡ x = let back : x ≡ s = cc in sym back in
    subst (AreReached []) (sym (j ∙ ap (λ (y : Seat). y.desk.journal) same)) hub.users.0.reached

pub desks_pushed : (shared : Shared) (seats : List Seat) (t : Seat) → AreRightDesks shared seats → IsRightSeat shared t →
    AreRightDesks shared (seats ++ t ∷ [])
desks_pushed shared seats t desks right = record {
  each = all_pushed (IsRightSeat shared) seats t desks.each right;
  none = λ e. absurd (some seats e);
}
  where
    some : (xs : List Seat) → xs ++ t ∷ [] ≡ [] → ⊥
    some [] e = absurd (cc)
    some (x ∷ xs) e = absurd (cc)

-- where there are seats
pub right_desks : (shared : Shared) (seats : List Seat) → AllByRecursion (IsRightSeat shared) seats → 0 < length seats → AreRightDesks shared seats
right_desks shared [] all some = absurd (omega arith)
right_desks shared (s ∷ seats) all some = record { each = all; none = λ e. absurd (cc) }
