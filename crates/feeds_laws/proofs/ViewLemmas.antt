-- The data commands of others in a user's view are such that nothing refuses them: all users share the objects, the regions
-- and the clock.
use Rattle.std.proofs.Common.{◌≡◌, ◌∙◌, ℕ, ◌+◌, Bool, true, false, ◌&&◌, List, [], ◌∷◌, ◌++◌, Option, Some, None, refl, ap, sym, subst, append-nil, arith, inl, inr}
use Rattle.std.proofs.lemmas.Bool.{cases_Bool, false≢true}
use Rattle.std.proofs.lemmas.Slice.Eq.{bytes_eq-Decides}
use Rattle.std.specs.Prelude.{if◌then◌else◌, is_none, option_and_then, option_map}
use Rattle.std.specs.Option.{option_map_or}
use Rattle.std.specs.Str.{bytes_eq}
use Rattle.exact.specs.First.{or_else}
use Rattle.history.specs.World.{World, world_of}
use Rattle.command_text.specs.declared.refusal.Refusal.{Refusal}
use Rattle.command_text.specs.Journal.{Accepted, clock, is_kept, spelled, ticks_of}
use Rattle.command_text.specs.Shape.{IsPrintable}
use Rattle.command_text.specs.TextLaws.{PrintsWhatIsRead}
use Rattle.command_text.specs.Tree
use Rattle.command_text.specs.Tree.{CommandTree}
use Rattle.line_meaning.specs.Fault.{fault_among}
use Rattle.line_meaning.specs.Journal.{regions, regions_of, world, writes, writes_of}
use Rattle.line_meaning.specs.Judging.{Held, held, held_after}
use Rattle.line_meaning.specs.QueryFault.{command_fault}
use Rattle.line_meaning.specs.Registry.{known}
use Rattle.line_meaning.proofs.JournalLemmas.{clock_more, regions_more, writes_more}
use Rattle.users.specs.Sender.{Sent, sent_in}
use Rattle.feeds_meaning.specs.Heard.{Item, Own, Other, Seat, empty_seat, own_by, own_refusal, seat_after, item_outcome}
use Rattle.feeds_meaning.specs.HeardLaw.{is_of_letters}
use Rattle.feeds_meaning.specs.Hub.{Event, Hub, added, data_command_of, empty_hub, event_by, event_in, has_room, hub_step, hub_step_by, item_of, newcomer, seat_of}
use Rattle.feeds_meaning.specs.Lines.{is_data}
use Rattle.feeds_meaning.specs.View.{item_in, user_view}
use Rattle.feeds_meaning.proofs.HeardLemmas.{AreSeats, event_of_letters, follows, items, newcomer_more}
use Rattle.feeds_meaning.proofs.SenderLemmas.{sender_is_of_letters}
use Rattle.feeds_laws.proofs.FeedLemmas.{AreTaken, IsTaken, accepted}
use Rattle.feeds_laws.proofs.OwnLemmas.{kept_fault}

-- ---- What users share

-- two journals tell the same objects, regions and clock
pub record SharesData (j k : List Accepted) : Type 0 where
  pub writes : writes j ≡ writes k
  pub regions : regions j ≡ regions k
  pub clock : clock j ≡ clock k

same_data : (j : List Accepted) → SharesData j j
same_data j = record { writes = refl; regions = refl; clock = refl }

data_through : (i j k : List Accepted) → SharesData i j → SharesData j k → SharesData i k
data_through i j k first later = record { writes = first.writes ∙ later.writes; regions = first.regions ∙ later.regions; clock = first.clock ∙ later.clock }

data_back : (j k : List Accepted) → SharesData j k → SharesData k j
data_back j k same = record { writes = sym same.writes; regions = sym same.regions; clock = sym same.clock }

-- a command that both keep
both_keep : (j k : List Accepted) (c : CommandTree) (kept : Bool) → SharesData j k →
    SharesData (j ++ (if kept then (clock j, c) ∷ [] else [])) (k ++ (if kept then (clock k, c) ∷ [] else []))
both_keep j k c false same = record {
  writes = ap writes (append-nil j) ∙ same.writes ∙ sym (ap writes (append-nil k));
  regions = ap regions (append-nil j) ∙ same.regions ∙ sym (ap regions (append-nil k));
  clock = ap clock (append-nil j) ∙ same.clock ∙ sym (ap clock (append-nil k));
}
both_keep j k c true same = record {
  writes = writes_more j (clock j) c ∙ ap (λ ws. ws ++ writes_of (clock j) c) same.writes ∙ ap (λ (n : ℕ). writes k ++ writes_of n c) same.clock ∙ sym (writes_more k (clock k) c);
  regions = regions_more j (clock j) c ∙ ap (λ rs. rs ++ regions_of c) same.regions ∙ sym (regions_more k (clock k) c);
  clock = clock_more j (clock j) c ∙ ap (λ (n : ℕ). n + ticks_of c) same.clock ∙ sym (clock_more k (clock k) c);
}

-- a command on queries, or one that isn't kept
kept_apart : (j : List Accepted) (c : CommandTree) → writes_of (clock j) c ≡ [] → regions_of c ≡ [] → ticks_of c ≡ 0 → SharesData (j ++ (clock j, c) ∷ []) j
kept_apart j c no_writes no_regions no_ticks = record {
  writes = writes_more j (clock j) c ∙ ap (λ ws. writes j ++ ws) no_writes ∙ append-nil (writes j);
  regions = regions_more j (clock j) c ∙ ap (λ rs. regions j ++ rs) no_regions ∙ append-nil (regions j);
  clock = clock_more j (clock j) c ∙ ap (λ (n : ℕ). clock j + n) no_ticks ∙ none (clock j);
}
  where
    none : (n : ℕ) → n + 0 ≡ n
    none n = omega arith

not_kept : (j : List Accepted) → SharesData (j ++ []) j
not_kept j = subst (λ (k : List Accepted). SharesData k j) (sym (append-nil j)) (same_data j)

no_data : (h : Held) (c : CommandTree) → is_data c ≡ false → SharesData (held_after h c).journal h.journal
no_data h (Tree.Class class capacity point attributes) other = absurd (false≢true (sym other))
no_data h (Tree.Region region points) other = absurd (false≢true (sym other))
no_data h (Tree.Insert class object place sets) other = absurd (false≢true (sym other))
no_data h (Tree.Update object place sets) other = absurd (false≢true (sym other))
no_data h (Tree.Remove object) other = absurd (false≢true (sym other))
no_data h (Tree.Tick ticks) other = absurd (false≢true (sym other))
no_data h (Tree.Watch query span q) other = kept_apart h.journal (Tree.Watch query span q) refl refl refl
no_data h (Tree.Keep query span q) other = kept_apart h.journal (Tree.Keep query span q) refl refl refl
no_data h (Tree.Drop query) other = kept_apart h.journal (Tree.Drop query) refl refl refl
no_data h c other = not_kept h.journal

-- ---- A data command is refused alike

by_world : (w v : World) (n m : ℕ) (c : CommandTree) → w ≡ v → n ≡ m → or_else (fault_among w n c) None ≡ None → or_else (fault_among v m c) None ≡ None
by_world w v n m c worlds clocks none =
    sym (ap (λ (w : World). or_else (fault_among w m c) None) worlds) ∙ sym (ap (λ (n : ℕ). or_else (fault_among w n c) None) clocks) ∙ none

fault_alike : (j k : List Accepted) → SharesData j k → (c : CommandTree) → is_data c ≡ true → command_fault (known j) c ≡ None → command_fault (known k) c ≡ None
fault_alike j k same c kind none = by c kind none
  where
    worlds : world j ≡ world k
    worlds = λ i. world_of (same.writes i) (same.regions i)

    by : (c : CommandTree) → is_data c ≡ true → command_fault (known j) c ≡ None → command_fault (known k) c ≡ None
    by (Tree.Class class capacity point attributes) kind none = by_world (world j) (world k) (clock j) (clock k) (Tree.Class class capacity point attributes) worlds same.clock none
    by (Tree.Region region points) kind none = by_world (world j) (world k) (clock j) (clock k) (Tree.Region region points) worlds same.clock none
    by (Tree.Insert class object place sets) kind none = by_world (world j) (world k) (clock j) (clock k) (Tree.Insert class object place sets) worlds same.clock none
    by (Tree.Update object place sets) kind none = by_world (world j) (world k) (clock j) (clock k) (Tree.Update object place sets) worlds same.clock none
    by (Tree.Remove object) kind none = by_world (world j) (world k) (clock j) (clock k) (Tree.Remove object) worlds same.clock none
    by (Tree.Tick ticks) kind none = by_world (world j) (world k) (clock j) (clock k) (Tree.Tick ticks) worlds same.clock none
    by c kind none = absurd (false≢true kind)

data_is_kept : (c : CommandTree) → is_data c ≡ true → is_kept c ≡ true
data_is_kept (Tree.Class class capacity point attributes) kind = refl
data_is_kept (Tree.Region region points) kind = refl
data_is_kept (Tree.Insert class object place sets) kind = refl
data_is_kept (Tree.Update object place sets) kind = refl
data_is_kept (Tree.Remove object) kind = refl
data_is_kept (Tree.Tick ticks) kind = refl
data_is_kept c kind = absurd (false≢true kind)

-- ---- A line

-- a data command that is changed is the sender's, and accepted
record IsChange (s : Seat) (line : List ℕ) (c : CommandTree) : Type 0 where
  is : c ≡ spelled line
  none : own_refusal s line ≡ None
  kind : is_data (spelled line) ≡ true

change_is : (s : Seat) (line : List ℕ) (c : CommandTree) → data_command_of s line ≡ Some c → IsChange s line c
change_is s line c change = by (own_refusal s line) (is_data (spelled line)) refl refl change
  where
    by : (o : Option Refusal) (kind : Bool) → own_refusal s line ≡ o → is_data (spelled line) ≡ kind → (if is_none o && kind then Some (spelled line) else None) ≡ Some c → IsChange s line c
    by None true none kind made = let same : spelled line ≡ c = cc in record { is = sym same; none = none; kind = kind }
    by None false none kind made = absurd (cc)
    by (Some r) kind refused kind_is made = absurd (cc)

-- what an event leaves of the sender's data, and of another's
own_data : (s : Seat) (n : List Accepted) (line : List ℕ) → SharesData s.held.journal n → (o : Option Refusal) → own_refusal s line ≡ o → (kind : Bool) → is_data (spelled line) ≡ kind →
    SharesData (own_by s (spelled line) o).0.held.journal (option_map_or (λ c. (held_after (held n) c).journal) (if is_none o && kind then Some (spelled line) else None) n)
own_data s n line same (Some r) refused kind kind_is = same
own_data s n line same None none true kind_is = both_keep s.held.journal n (spelled line) (is_kept (spelled line)) same
own_data s n line same None none false kind_is = data_through (held_after s.held (spelled line)).journal s.held.journal n (no_data s.held (spelled line) kind_is) same

-- ---- All lines

-- each user's journal shares its data with a newcomer's
abbrev AreShared : Hub → Type 0
AreShared h = (u : List ℕ) → is_of_letters u ≡ true → SharesData (seat_of h u).held.journal (newcomer h.accepted).held.journal

joined : (s : Seat) (o : Option Item) (later : List Item) → (((item : Item) → o ≡ Some item → IsTaken s item)) → AreTaken (seat_after s (items o)) later → AreTaken s (items o ++ later)
joined s None later its all = all
joined s (Some item) later its all = (its item refl, all)

module _ (prints : PrintsWhatIsRead) where
  module _ (h : Hub) (shared : AreShared h) (e : Event) (letters : is_of_letters e.sent.user ≡ true) (change : e.change ≡ data_command_of (seat_of h e.sent.user) e.sent.line) where
    -- a data command of another is taken
    other_taken : (u : List ℕ) → is_of_letters u ≡ true → (c : CommandTree) → e.change ≡ Some c → IsTaken (seat_of h u) (Other c)
    other_taken u hu c made =
        let x = change_is (seat_of h e.sent.user) e.sent.line c (sym change ∙ made) in
        let its = accepted prints (seat_of h e.sent.user) e.sent.line x.none in
        let kind : is_data c ≡ true = ap is_data x.is ∙ x.kind in
        let mine = kept_fault (seat_of h e.sent.user).held (spelled e.sent.line) (data_is_kept (spelled e.sent.line) x.kind) its.fault in
        let s = (seat_of h e.sent.user).held.journal in
        let n = (newcomer h.accepted).held.journal in
        let v = (seat_of h u).held.journal in (
          kind,
          subst IsPrintable (sym x.is) its.printable,
          fault_alike s v (data_through s n v (shared e.sent.user letters) (data_back v n (shared u hu))) c kind (ap (command_fault (known s)) x.is ∙ mine),
        )

    item_taken : (u : List ℕ) → is_of_letters u ≡ true → (item : Item) → item_of e u ≡ Some item → IsTaken (seat_of h u) item
    item_taken u hu item found = by (bytes_eq u e.sent.user) e.change refl found
      where
        by : (own : Bool) (o : Option CommandTree) → e.change ≡ o → (if own then Some (Own e.sent.line) else option_map Other o) ≡ Some item → IsTaken (seat_of h u) item
        by true o o_is made = let same : Own e.sent.line ≡ item = cc in subst (IsTaken (seat_of h u)) same tt
        by false None o_is made = absurd (cc)
        by false (Some c) o_is made = let same : Other c ≡ item = cc in subst (IsTaken (seat_of h u)) same (other_taken u hu c o_is)

    -- and the data stays shared
    seat_shared : (u : List ℕ) → is_of_letters u ≡ true → SharesData (seat_after (seat_of h u) (items (item_of e u))).held.journal (newcomer (h.accepted ++ added e.change)).held.journal
    seat_shared u hu =
        subst (λ (s : Seat). SharesData (seat_after (seat_of h u) (items (item_of e u))).held.journal s.held.journal) (sym (newcomer_more h.accepted e.change))
        (elim (cases_Bool (bytes_eq u e.sent.user)) [
          | inl same ↦
              let is : u ≡ e.sent.user = (bytes_eq-Decides u e.sent.user).0 same in
              let s = seat_of h u in
              let changed : e.change ≡ data_command_of s e.sent.line = change ∙ ap (λ v. data_command_of (seat_of h v) e.sent.line) (sym is) in
              let own = own_data s (newcomer h.accepted).held.journal e.sent.line (shared u hu) (own_refusal s e.sent.line) refl (is_data (spelled e.sent.line)) refl in
              rw same (subst (λ (o : Option CommandTree). SharesData (item_outcome s (Own e.sent.line)).0.held.journal (seat_after (newcomer h.accepted) (items (option_map Other o))).held.journal) (sym changed)
              (newcomer_own s (data_command_of s e.sent.line) own))
          | inr other ↦ rw other (both_other (seat_of h u) e.change (shared u hu))
        ])
      where
        newcomer_own : (s : Seat) (o : Option CommandTree) → SharesData (item_outcome s (Own e.sent.line)).0.held.journal (option_map_or (λ c. (held_after (newcomer h.accepted).held c).journal) o (newcomer h.accepted).held.journal) →
            SharesData (item_outcome s (Own e.sent.line)).0.held.journal (seat_after (newcomer h.accepted) (items (option_map Other o))).held.journal
        newcomer_own s None same = same
        newcomer_own s (Some c) same = same

        both_other : (s : Seat) (o : Option CommandTree) → SharesData s.held.journal (newcomer h.accepted).held.journal →
            SharesData (seat_after s (items (option_map Other o))).held.journal (seat_after (newcomer h.accepted) (items (option_map Other o))).held.journal
        both_other s None same = same
        both_other s (Some c) same = both_keep s.held.journal (newcomer h.accepted).held.journal c (is_kept c) same

  change_made : (h : Hub) (sender : Option Sent) (e : Event) → event_by h sender ≡ Some e → e.change ≡ data_command_of (seat_of h e.sent.user) e.sent.line
  change_made h None e is = absurd (cc)
  change_made h (Some s) e is = by (has_room h s.user) is
    where
      by : (b : Bool) → (if b then Some (record { sent = s; change = data_command_of (seat_of h s.user) s.line }) else None) ≡ Some e → e.change ≡ data_command_of (seat_of h e.sent.user) e.sent.line
      by false made = absurd (cc)
      by true made =
          let same : record { sent = s; change = data_command_of (seat_of h s.user) s.line } ≡ e = cc in
          subst (λ (e : Event). e.change ≡ data_command_of (seat_of h e.sent.user) e.sent.line) same refl

  record Steps (h : Hub) (sender : Option Sent) (o : Option Event) : Type 0 where
    taken : (u : List ℕ) → is_of_letters u ≡ true → (item : Item) → option_and_then (λ e. item_of e u) o ≡ Some item → IsTaken (seat_of h u) item
    shared : (u : List ℕ) → is_of_letters u ≡ true → SharesData (seat_after (seat_of h u) (items (option_and_then (λ e. item_of e u) o))).held.journal (newcomer (hub_step_by h sender o).0.accepted).held.journal

  steps : (h : Hub) → AreShared h → (sender : Option Sent) (o : Option Event) → event_by h sender ≡ o → ((s : Sent) → sender ≡ Some s → is_of_letters s.user ≡ true) → Steps h sender o
  steps h shared sender None is letters = record { taken = λ u hu item found. absurd (cc found); shared = shared }
  steps h shared sender (Some e) is letters =
      let of_letters = event_of_letters h sender e letters is in
      let change = change_made h sender e is in
      record { taken = item_taken h shared e of_letters change; shared = seat_shared h shared e of_letters change }

  pub view_taken : (lines : List (List ℕ)) (h : Hub) → AreShared h → AreSeats h.seats → (u : List ℕ) → is_of_letters u ≡ true → AreTaken (seat_of h u) (user_view h u lines)
  unfolding hub_step
  view_taken [] h shared seats u hu = tt
  view_taken (line ∷ lines) h shared seats u hu =
      let sender = sent_in line in
      let o = event_in h line in
      let letters = sender_is_of_letters line in
      let x = steps h shared sender o refl letters in
      let next : Hub = (hub_step_by h sender o).0 in
      let f : (v : List ℕ) (hv : is_of_letters v ≡ true) → seat_of next v ≡ seat_after (seat_of h v) (items (option_and_then (λ e. item_of e v) o)) =
      λ v hv. (follows h v sender o hv seats (λ e is. event_of_letters h sender e letters is)).seat in
      let next_shared : AreShared next = λ v hv. subst (λ (s : Seat). SharesData s.held.journal (newcomer next.accepted).held.journal) (sym (f v hv)) (x.shared v hv) in
      let next_seats = (follows h u sender o hu seats (λ e is. event_of_letters h sender e letters is)).seats in
      joined (seat_of h u) (item_in h u line) (user_view next u lines) (x.taken u hu)
      (subst (λ (s : Seat). AreTaken s (user_view next u lines)) (f u hu) (view_taken lines next next_shared next_seats u hu))

  pub first_view_taken : (u : List ℕ) (lines : List (List ℕ)) → is_of_letters u ≡ true → AreTaken empty_seat (user_view empty_hub u lines)
  first_view_taken u lines hu = view_taken lines empty_hub (λ v hv. same_data []) tt u hu
