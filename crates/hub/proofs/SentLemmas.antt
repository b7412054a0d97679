-- A line of the user at a place is refused before its command is carried out, or judged as its command is.
use Rattle.std.proofs.Common.{◌≡◌, ℕ, ◌<◌, ◌≤◌, true, false, Bool, List, [], ◌∷◌, ◌++◌, length, map, None, Some, Option, refl, sym, ap, ◌∙◌, subst, append-nil}
use Rattle.std.specs.Prelude.{nat_le, slice_get, ◌&&◌, ◌||◌}
use Rattle.exact.specs.First.{first_that_holds, or_else}
use Rattle.command_text.specs.declared.reading.TheConstants.{LINE_LIMIT}
use Rattle.command_text.specs.declared.refusal.Refusal.{Refusal}
use Rattle.command_text.specs.declared.refusal.Refusal.TheVariants.{BadSyntax, JournalFull}
use Rattle.command_text.specs.Journal.{spelled}
use Rattle.command_text.specs.Line.{first_refusal}
use Rattle.command_text.specs.Refusals.{refusal_line}
use Rattle.command_text.specs.Tree.{CommandTree}
use Rattle.line_meaning.specs.Judging.{fault_of}
use Rattle.line_meaning.specs.Reply.{line_feed}
use Rattle.users.specs.declared.sender.TheConstants.{USER_LIMIT}
use Rattle.users.specs.Tagged.{tagged}
use Rattle.feeds_meaning.specs.declared.limits.TheConstants.{DATA_LINES_LIMIT, QUERY_LINES_LIMIT}
use Rattle.feeds_meaning.specs.Heard.{Seat, command_refusal, limit_refusal, own_refusal}
use Rattle.feeds_meaning.specs.Hub.{Hub, Seated, has_user}
use Rattle.feeds_meaning.specs.Lines.{is_barred, is_data_line, is_query_line}
use Rattle.hub.specs.Told.{HeldUser as Kept}
use Rattle.hub.specs.Judging.{CanBeCounted, IsTaken, is_one_too_many, refusal_by_line}
use Rattle.hub.specs.Seats.{IsHub, IsUser}
use Rattle.hub.specs.Told.{HasRoomAt, IsAnsweredAt, IsAnsweredBy, IsSentAt, seated, seated_by}
use Rattle.hub.proofs.CommandLemmas.{hub_by, lines_of_all, one_there, seated_at}
use Rattle.hub.proofs.JudgingLemmas.{read_is}
use Rattle.hub.proofs.PlaceLemmas.{alone, at_all}
use Rattle.hub.proofs.ToldLemmas.{plain_told}

-- ---- The refusal

two_limits : (a b : Bool) → first_that_holds ((JournalFull, a) ∷ (JournalFull, b) ∷ []) ≡ first_that_holds ((JournalFull, a || b) ∷ [])
two_limits true b = refl
two_limits false true = refl
two_limits false false = refl

limit_is : (s : Seat) (line : List ℕ) → limit_refusal s line ≡ first_that_holds ((JournalFull, is_one_too_many s.data_lines s.query_lines line) ∷ [])
limit_is s line = two_limits (is_data_line line && nat_le DATA_LINES_LIMIT s.data_lines) (is_query_line line && nat_le QUERY_LINES_LIMIT s.query_lines)

-- the refusals of a line, and then what is held
pub all_refusals : (s : Seat) (line : List ℕ) →
    own_refusal s line ≡ or_else (refusal_by_line s.data_lines s.query_lines line) (fault_of s.held (spelled line))
unfolding own_refusal
all_refusals s line =
    ap (λ o. or_else o (or_else (first_refusal LINE_LIMIT line) (command_refusal s.held (spelled line)))) (limit_is s line)
    ∙ split (first_that_holds ((JournalFull, is_one_too_many s.data_lines s.query_lines line) ∷ [])) (first_refusal LINE_LIMIT line)
    (first_that_holds ((BadSyntax, is_barred (spelled line)) ∷ [])) (fault_of s.held (spelled line))
  where
    split : (a b c d : Option Refusal) → or_else a (or_else b (or_else c d)) ≡ or_else (or_else a (or_else b c)) d
    split None None None d = refl
    split None None (Some r) d = refl
    split None (Some r) c d = refl
    split (Some r) b c d = refl

pub taken_refusal : (s : Seat) (line : List ℕ) (c : CommandTree) → IsTaken s.data_lines s.query_lines line c → own_refusal s line ≡ fault_of s.held c
taken_refusal s line c taken =
    let same : spelled line ≡ c = read_is LINE_LIMIT line c taken.read in
    let free : is_barred (spelled line) ≡ false = ap is_barred same ∙ taken.allowed in
    let none : refusal_by_line s.data_lines s.query_lines line ≡ None = rw (taken.within, taken.read.taken, free) refl in
    all_refusals s line ∙ ap (λ o. or_else o (fault_of s.held (spelled line))) none ∙ ap (fault_of s.held) same

pub early_refusal : (s : Seat) (line : List ℕ) (r : Refusal) → refusal_by_line s.data_lines s.query_lines line ≡ Some r → own_refusal s line ≡ Some r
early_refusal s line r e = all_refusals s line ∙ ap (λ o. or_else o (fault_of s.held (spelled line))) e

-- ---- The line

module _ (d : ℕ) (seats : List Kept) (place : ℕ) (s : Kept) (hub : IsHub (hub_by d seats)) (at : slice_get seats place ≡ Some s) where
  pub room_at : (c : CommandTree) → CanBeCounted d s.query_lines c → HasRoomAt place c (hub_by d seats)
  room_at c room = record {
    of_data = λ is. subst (λ n. n < DATA_LINES_LIMIT) (lines_of_all d seats place s at hub) (room.of_data is);
    of_queries = λ is x found.
        subst (λ (y : Seated). y.seat.query_lines < QUERY_LINES_LIMIT)
        (one_there (slice_get (map (seated d) seats) place) (seated d s) x (seated_at d seats place s at) found) (room.of_queries is);
  }

  pub sent_of_command : (line : List ℕ) (c : CommandTree) (new : Hub) (before after : List ℕ) → IsTaken d s.query_lines line c →
      IsAnsweredAt place c (hub_by d seats) new before after → IsSentAt place line (hub_by d seats) new before after
  sent_of_command line c new before after taken answered = λ x found.
      let same : seated d s ≡ x = one_there (slice_get (map (seated d) seats) place) (seated d s) x (seated_at d seats place s at) found in
      let here : own_refusal s_seat line ≡ fault_of s.held c = taken_refusal s_seat line c taken in
      let judged : own_refusal x.seat line ≡ fault_of x.seat.held c =
      subst (λ (y : Seated). own_refusal y.seat line ≡ fault_of y.seat.held c) same here in
      let is : spelled line ≡ c = read_is LINE_LIMIT line c taken.read in
      subst (λ (e : CommandTree). IsAnsweredBy x.user e (own_refusal x.seat line) (hub_by d seats) new before after) (sym is)
      (subst (λ (o : Option Refusal). IsAnsweredBy x.user c o (hub_by d seats) new before after) (sym judged) (answered x found))
    where
      s_seat : Seat
      s_seat = (seated d s).seat

  -- a refused line changes nothing
  stays : (user : List ℕ) (c : CommandTree) (r : Refusal) (xs : List Kept) → map (seated d) xs ≡ map (seated_by user c (Some r)) (map (seated d) xs)
  stays user c r [] = refl
  stays user c r (x ∷ xs) =
      let later = stays user c r xs in
      let here : seated d x ≡ seated_by user c (Some r) (seated d x) = by_user (has_user user (seated d x)) refl in
      λ i. here i ∷ later i
    where
      by_user : (b : Bool) → has_user user (seated d x) ≡ b → seated d x ≡ seated_by user c (Some r) (seated d x)
      by_user true e = rw e refl
      by_user false e = rw e refl

  pub sent_refused : (line : List ℕ) (r : Refusal) (before after : List ℕ) → refusal_by_line d s.query_lines line ≡ Some r →
      after ≡ before ++ tagged s.user (refusal_line r ++ line_feed) → IsSentAt place line (hub_by d seats) (hub_by d seats) before after
  sent_refused line r before after refused said = λ x found.
      let same : seated d s ≡ x = one_there (slice_get (map (seated d) seats) place) (seated d s) x (seated_at d seats place s at) found in
      let here : own_refusal (seated d s).seat line ≡ Some r = early_refusal (seated d s).seat line r refused in
      let apart = alone (map (seated d) seats) place (seated d s) (seated_at d seats place s at) hub.apart in
      let by : IsAnsweredBy s.user (spelled line) (Some r) (hub_by d seats) (hub_by d seats) before after = record {
        seats = stays s.user (spelled line) r seats;
        accepted = sym (append-nil (hub_by d seats).accepted);
        said = said ∙ ap (λ l. before ++ l) (sym (plain_told s.user (spelled line) d (Some r) seats place s refl apart at));
      } in
      let judged : IsAnsweredBy s.user (spelled line) (own_refusal (seated d s).seat line) (hub_by d seats) (hub_by d seats) before after =
      subst (λ (o : Option Refusal). IsAnsweredBy s.user (spelled line) o (hub_by d seats) (hub_by d seats) before after) (sym here) by in
      subst (λ (y : Seated). IsAnsweredBy y.user (spelled line) (own_refusal y.seat line) (hub_by d seats) (hub_by d seats) before after) same judged

-- the same parts are the same hub
pub same_hub : (d n : ℕ) (seats other : List Kept) → n ≡ d → other ≡ seats → hub_by d seats ≡ hub_by n other
same_hub d n seats other lines same = λ i. hub_by (sym lines i) (sym same i)

module _ (d n : ℕ) (seats other : List Kept) (lines : n ≡ d) (same : other ≡ seats) where
  pub sent_and_same : (place : ℕ) (line before after : List ℕ) → IsSentAt place line (hub_by d seats) (hub_by d seats) before after →
      IsSentAt place line (hub_by d seats) (hub_by n other) before after
  sent_and_same place line before after sent =
      subst (λ h. IsSentAt place line (hub_by d seats) h before after) (same_hub d n seats other lines same) sent

  pub hub_is_same : IsHub (hub_by d seats) → IsHub (hub_by n other)
  hub_is_same hub = subst IsHub (same_hub d n seats other lines same) hub

  pub lines_are_same : d ≡ length (hub_by d seats).accepted → n ≡ length (hub_by n other).accepted
  lines_are_same is = lines ∙ is ∙ ap (λ (h : Hub). length h.accepted) (same_hub d n seats other lines same)

-- of whom is at the place
pub refused_at : (seats : List Kept) (place : ℕ) (s x : Kept) (r : Refusal) (before after bytes text : List ℕ) → slice_get seats place ≡ Some s →
    slice_get seats place ≡ Some x → after ≡ before ++ tagged bytes text → bytes ≡ s.user → text ≡ refusal_line r ++ line_feed →
    after ≡ before ++ tagged x.user (refusal_line r ++ line_feed)
refused_at seats place s x r before after bytes text at found said named words =
    let both : Some s ≡ Some x = sym at ∙ found in
    let same : s ≡ x = cc in
    let who : bytes ≡ x.user = named ∙ ap (λ (y : Kept). y.user) same in
    said ∙ (λ i. before ++ tagged (who i) (words i))

pub user_is_short : (d : ℕ) (seats : List Kept) (place : ℕ) (s : Kept) (bytes : List ℕ) → IsHub (hub_by d seats) → slice_get seats place ≡ Some s →
    bytes ≡ s.user → length bytes ≤ USER_LIMIT
user_is_short d seats place s bytes hub at named =
    let user = at_all (IsUser (hub_by d seats).accepted) (map (seated d) seats) place (seated d s) hub.users (seated_at d seats place s at) in
    subst (λ u. length u ≤ USER_LIMIT) (sym named) user.short
