-- A command of the user at a place is answered, and leaves a hub: by what the users keep and are told.
use Rattle.std.proofs.Common.{◌≡◌, ℕ, zero, suc, ◌+◌, ◌<◌, true, false, Bool, List, [], ◌∷◌, ◌++◌, length, map, get_or, None, Some, Option, refl, sym, ap, ◌∙◌, subst, arith}
use Rattle.std.proofs.lemmas.List.{length-map, length-set}
use Rattle.std.proofs.lemmas.List.Elements.{All-from_recursion}
use Rattle.std.proofs.lemmas.Option.{slice_get-get_or}
use Rattle.std.specs.Prelude.{◌&&◌, is_none, slice_get, slice_set}
use Rattle.std.specs.List.{All, AllByRecursion, flat_map}
use Rattle.command_text.specs.declared.refusal.Refusal.{Refusal}
use Rattle.command_text.specs.Tree.{CommandTree}
use Rattle.line_meaning.specs.Judging.{fault_of}
use Rattle.users.specs.Tagged.{tagged}
use Rattle.feeds_meaning.specs.Heard.{own_text}
use Rattle.feeds_meaning.specs.Hub.{Hub, Seated}
use Rattle.feeds_meaning.specs.Lines.{is_data}
use Rattle.hub.specs.Answering.{answer_by}
use Rattle.hub.specs.Told.{HeldUser as Kept}
use Rattle.hub.specs.Seats.{IsHub, IsUser, accepted_in}
use Rattle.hub.specs.Told.{AreTold, HasRoomAt, HasSentAt, IsAnsweredAt, IsAnsweredBy, IsOwnAt, MayBeTold, change_by, kept_own, kept_told, seated, seated_by, told_to_seat}
use Rattle.hub.proofs.HubLemmas.{HasRoomFor, hub_goes_on}
use Rattle.hub.proofs.LineLemmas.{sent_at}
use Rattle.hub.proofs.PlaceLemmas.{IsAloneAt, alone, at_all}
use Rattle.hub.proofs.ToldLemmas.{data_kept, data_told, plain_kept, plain_told}
use Rattle.hub.proofs.UserLemmas.{IsShort, ReachesMore, refused_alike}
use Rattle.exact.proofs.Truths.{both_true}
use Rattle.exact.proofs.Lists.{bytes_eq_refl}

-- users as a hub
abbrev pub hub_by : ℕ → List Kept → Hub
hub_by d seats = record { seats = map (seated d) seats; accepted = accepted_in (map (seated d) seats) }

pub is_at : {A : Type 0} (seats : List A) (place : ℕ) (s : A) → place < length seats → s ≡ get_or seats place s → slice_get seats place ≡ Some s
is_at seats place s inside e = slice_get-get_or seats place s inside ∙ ap Some (sym e)

pub seated_at : (d : ℕ) (seats : List Kept) (place : ℕ) (s : Kept) → slice_get seats place ≡ Some s → slice_get (map (seated d) seats) place ≡ Some (seated d s)
seated_at d [] place s e = absurd (cc)
seated_at d (x ∷ seats) zero s e = let same : x ≡ s = cc in ap (λ (y : Kept). Some (seated d y)) same
seated_at d (x ∷ seats) (suc place) s e = seated_at d seats place s e

pub one_there : (o : Option Seated) (s t : Seated) → o ≡ Some s → o ≡ Some t → s ≡ t
one_there o s t a b = let same : Some s ≡ Some t = sym a ∙ b in cc

-- how many data commands were accepted
pub lines_of_all : (d : ℕ) (seats : List Kept) (place : ℕ) (s : Kept) → slice_get seats place ≡ Some s → IsHub (hub_by d seats) →
    d ≡ length (hub_by d seats).accepted
lines_of_all d [] place s e hub = absurd (cc)
lines_of_all d (x ∷ seats) place s e hub = hub.users.0.data_lines

-- ---- By the command, its refusal and what is kept and told

pub record IsCarried (place : ℕ) (c : CommandTree) (old new : Hub) (before after : List ℕ) : Type 0 where
  pub answered : IsAnsweredAt place c old new before after
  pub hub : IsHub new

lines_some : (n : ℕ) (final : List Kept) → 0 < length final → IsHub (hub_by n final) → n ≡ length (hub_by n final).accepted
lines_some n [] some hub = absurd (omega arith)
lines_some n (x ∷ final) some hub = hub.users.0.data_lines

-- users keep it
pub record AreKept (place : ℕ) (c : CommandTree) (d n : ℕ) (seats final : List Kept) (before after : List ℕ) : Type 0 where
  pub carried : IsCarried place c (hub_by d seats) (hub_by n final) before after
  pub data_lines : n ≡ length (hub_by n final).accepted
  pub some : 0 < length final

module _ (d : ℕ) (seats : List Kept) (place : ℕ) (s : Kept) (c : CommandTree) (reaches : ReachesMore) (hub : IsHub (hub_by d seats)) (c_short : IsShort c)
    (room : HasRoomAt place c (hub_by d seats)) (at : slice_get seats place ≡ Some s) where
  there : slice_get (map (seated d) seats) place ≡ Some (seated d s)
  there = seated_at d seats place s at

  single : IsAloneAt s.user place (map (seated d) seats)
  single = alone (map (seated d) seats) place (seated d s) there hub.apart

  pub sender : IsUser (hub_by d seats).accepted (seated d s)
  sender = at_all (IsUser (hub_by d seats).accepted) (map (seated d) seats) place (seated d s) hub.users there

  room_for : HasRoomFor (hub_by d seats).accepted (seated d s) c
  room_for = record { of_data = room.of_data; of_queries = λ is. room.of_queries is (seated d s) there }

  carried : (n : ℕ) (final : List Kept) (r : Option Refusal) (before after : List ℕ) → fault_of s.held c ≡ r →
      map (seated n) final ≡ map (seated_by s.user c r) (map (seated d) seats) →
      after ≡ before ++ flat_map (told_to_seat s.user c r) (map (seated d) seats) → IsCarried place c (hub_by d seats) (hub_by n final) before after
  carried n final r before after fault kept said =
      let goes = hub_goes_on (hub_by d seats) c (seated d s) place r (map (seated n) final) reaches hub c_short room_for single there sender fault kept in
      let by : IsAnsweredBy s.user c r (hub_by d seats) (hub_by n final) before after =
      record { seats = kept; accepted = goes.accepted; said = said } in
      let judged : IsAnsweredBy s.user c (fault_of s.held c) (hub_by d seats) (hub_by n final) before after =
      subst (λ (o : Option Refusal). IsAnsweredBy s.user c o (hub_by d seats) (hub_by n final) before after) (sym fault) by in
      record {
        answered = λ x found.
            subst (λ (y : Seated). IsAnsweredBy y.user c (fault_of y.seat.held c) (hub_by d seats) (hub_by n final) before after)
            (one_there (slice_get (map (seated d) seats) place) (seated d s) x there found) judged;
        hub = goes.hub;
      }

  -- a data command that is accepted
  pub data_carried : (own before after : List ℕ) (final : List Kept) → is_data c ≡ true → fault_of s.held c ≡ None → own ≡ own_text s.held c →
      AreTold s.user own c (slice_set seats place (kept_own c None s)) final before after →
      IsCarried place c (hub_by d seats) (hub_by (d + 1) final) before after
  data_carried own before after final is fault text told =
      carried (d + 1) final None before after fault
      (ap (map (seated (d + 1))) told.kept ∙ data_kept s.user c d seats place s is single at)
      (told.said ∙ ap (λ l. before ++ l) (data_told s.user c d own seats place s is single at text))

  -- what is no data command or is refused
  pub plain_carried : (r : Option Refusal) (before after : List ℕ) (final : List Kept) → change_by c r ≡ None → fault_of s.held c ≡ r →
      final ≡ slice_set seats place (kept_own c r s) → after ≡ before ++ tagged s.user (answer_by s.held c r) →
      IsCarried place c (hub_by d seats) (hub_by d final) before after
  plain_carried r before after final nothing fault kept said =
      carried d final r before after fault
      (ap (map (seated d)) kept ∙ plain_kept s.user c d r seats place s nothing single at)
      (said ∙ ap (λ l. before ++ l) (sym (plain_told s.user c d r seats place s nothing single at)))

  -- whoever isn't the sender takes a data command that is accepted
  each_told : (x : Kept) → is_data c ≡ true → fault_of s.held c ≡ None → IsUser (hub_by d seats).accepted (seated d x) → MayBeTold s.user c x
  each_told x is fault user = record {
    accepted = λ other. refused_alike (hub_by d seats).accepted (seated d s) (seated d x) c sender user is c_short (room.of_data is) fault;
    short = user.short;
  }

  pub all_may_be_told : is_data c ≡ true → fault_of s.held c ≡ None → All (MayBeTold s.user c) (slice_set seats place (kept_own c None s))
  all_may_be_told is fault =
      let own : MayBeTold s.user c (kept_own c None s) = record {
        accepted = λ other. let bad : true ≡ false = sym (bytes_eq_refl s.user) ∙ other in absurd (cc);
        short = (sender).short;
      } in
      All-from_recursion (MayBeTold s.user c) (slice_set seats place (kept_own c None s)) (set_all seats place own (all_told seats hub.users))
    where
      all_told : (xs : List Kept) → AllByRecursion (IsUser (hub_by d seats).accepted) (map (seated d) xs) → AllByRecursion (MayBeTold s.user c) xs
      all_told [] users = tt
      all_told (x ∷ xs) users = (each_told x is fault users.0, all_told xs users.1)

      set_all : (xs : List Kept) (n : ℕ) → MayBeTold s.user c (kept_own c None s) → AllByRecursion (MayBeTold s.user c) xs →
          AllByRecursion (MayBeTold s.user c) (slice_set xs n (kept_own c None s))
      set_all [] n own all = tt
      set_all (x ∷ xs) zero own all = (own, all.1)
      set_all (x ∷ xs) (suc n) own all = (all.0, set_all xs n own all.1)

some_kept : (seats : List Kept) (place : ℕ) (s : Kept) → slice_get seats place ≡ Some s → 0 < length seats
some_kept [] place s e = absurd (cc)
some_kept (x ∷ seats) place s e = omega arith

-- ---- By what the sender's seat does

accepted_is : (o : Option Refusal) (b : Bool) → b ≡ is_none o → b ≡ true → o ≡ None
accepted_is None b e h = refl
accepted_is (Some r) b e h = let bad : true ≡ false = sym h ∙ e in absurd (cc)

-- what is refused, or no data command, changes nothing for others
changes_nothing : (o : Option Refusal) (c : CommandTree) (b : Bool) → b ≡ is_none o → (b && is_data c) ≡ false → change_by c o ≡ None
changes_nothing None c b e h =
    let plain : is_data c ≡ false = sym (ap (λ x. x && is_data c) e) ∙ h in
    rw plain refl
changes_nothing (Some r) c b e h = refl

record OwnAt (seats : List Kept) (place : ℕ) (s : Kept) (c : CommandTree) (new : List Kept) (text : List ℕ) (accepted : Bool) : Type 0 where
  told : accepted ≡ is_none (fault_of s.held c)
  new_is : new ≡ slice_set seats place (kept_own c (fault_of s.held c) s)
  text_is : text ≡ answer_by s.held c (fault_of s.held c)

own_at : (old seats new : List Kept) (place : ℕ) (s : Kept) (c : CommandTree) (text : List ℕ) (accepted : Bool) → old ≡ seats →
    IsOwnAt place c old new text accepted → slice_get seats place ≡ Some s → OwnAt seats place s c new text accepted
own_at old seats new place s c text accepted same own at =
    let here = own s (ap (λ (l : List Kept). slice_get l place) same ∙ at) in
    record {
      told = here.1.told;
      new_is = here.2 ∙ (λ i. slice_set (same i) place (here.1.kept_is i));
      text_is = here.1.text_is;
    }

module _ (d : ℕ) (seats : List Kept) (place : ℕ) (s : Kept) (c : CommandTree) (reaches : ReachesMore) (hub : IsHub (hub_by d seats)) (c_short : IsShort c)
    (room : HasRoomAt place c (hub_by d seats)) (at : slice_get seats place ≡ Some s) (old new : List Kept) (same : old ≡ seats) (text : List ℕ)
    (accepted : Bool) (own : IsOwnAt place c old new text accepted) where
  mine : OwnAt seats place s c new text accepted
  mine = own_at old seats new place s c text accepted same own at

  pub own_length : length new ≡ length seats
  own_length = ap length (mine).new_is ∙ length-set seats place (kept_own c (fault_of s.held c) s)

  pub own_slot : new ≡ slice_set seats place (kept_own c (fault_of s.held c) s)
  own_slot = (mine).new_is

  taken_new : fault_of s.held c ≡ None → new ≡ slice_set seats place (kept_own c None s)
  taken_new fault = (mine).new_is ∙ ap (λ o. slice_set seats place (kept_own c o s)) fault

  -- what the others are told of it
  pub others_may_be_told : (told : List Kept) → told ≡ new → (accepted && is_data c) ≡ true → All (MayBeTold s.user c) told
  others_may_be_told told e shared =
      let both = both_true accepted (is_data c) shared in
      let fault = accepted_is (fault_of s.held c) accepted (mine).told both.0 in
      subst (All (MayBeTold s.user c)) (sym (e ∙ taken_new fault)) (all_may_be_told d seats place s c reaches hub c_short room at both.1 fault)

  -- the sender has it as the last entry
  pub sender_has_sent : (told : List Kept) → told ≡ new → (accepted && is_data c) ≡ true → HasSentAt place s.user c told
  sender_has_sent told e shared =
      let both = both_true accepted (is_data c) shared in
      let fault = accepted_is (fault_of s.held c) accepted (mine).told both.0 in
      subst (λ (l : List Kept). HasSentAt place s.user c l) (sym (e ∙ taken_new fault)) (sent_at seats place s c both.1)

  pub shared_kept : (told final : List Kept) (n : ℕ) (before after : List ℕ) → told ≡ new → (accepted && is_data c) ≡ true → n ≡ d + 1 →
      AreTold s.user text c told final before after → AreKept place c d n seats final before after
  shared_kept told final n before after e shared more all =
      let both = both_true accepted (is_data c) shared in
      let fault = accepted_is (fault_of s.held c) accepted (mine).told both.0 in
      let words : text ≡ own_text s.held c = (mine).text_is ∙ ap (answer_by s.held c) fault in
      let from : AreTold s.user text c (slice_set seats place (kept_own c None s)) final before after =
      subst (λ l. AreTold s.user text c l final before after) (e ∙ taken_new fault) all in
      let one = data_carried d seats place s c reaches hub c_short room at text before after final both.1 fault words from in
      let carried : IsCarried place c (hub_by d seats) (hub_by n final) before after =
      subst (λ m. IsCarried place c (hub_by d seats) (hub_by m final) before after) (sym more) one in
      let long : length final ≡ length seats =
      ap length all.kept ∙ length-map told (kept_told s.user c) ∙ ap length e ∙ own_length in
      let some = some_kept seats place s at in
      record { carried = carried; data_lines = lines_some n final (omega arith) carried.hub; some = omega arith }

  pub plain_done : (final : List Kept) (before after : List ℕ) → final ≡ new → (accepted && is_data c) ≡ false → after ≡ before ++ tagged s.user text →
      AreKept place c d d seats final before after
  plain_done final before after e shared said =
      let r : Option Refusal = fault_of s.held c in
      let nothing = changes_nothing r c accepted (mine).told shared in
      let carried = plain_carried d seats place s c reaches hub c_short room at r before after final nothing refl (e ∙ (mine).new_is)
      (said ∙ ap (λ t. before ++ tagged s.user t) (mine).text_is) in
      let long : length final ≡ length seats = ap length e ∙ own_length in
      let some = some_kept seats place s at in
      record { carried = carried; data_lines = lines_some d final (omega arith) carried.hub; some = omega arith }
