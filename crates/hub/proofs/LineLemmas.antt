-- The canonical line by which others take a data command: the last of the sender's journal.
use Rattle.std.proofs.Common.{◌≡◌, ℕ, zero, suc, ◌+◌, ◌-◌, ◌<◌, ◌≤◌, true, false, List, [], ◌∷◌, ◌++◌, length, None, Some, Option, refl, sym, ap, ◌∙◌, subst, length-append, arith}
use Rattle.std.proofs.lemmas.List.Elements.{All-from_recursion}
use Rattle.std.proofs.lemmas.Option.{slice_get-get_or}
use Rattle.std.specs.Prelude.{get_or, option_map, slice_get, slice_set}
use Rattle.std.specs.List.{All, AllByRecursion}
use Rattle.std.specs.Str.{bytes_eq}
use Rattle.command_text.specs.Journal.{Accepted, clock}
use Rattle.command_text.specs.Text.{text_of}
use Rattle.command_text.specs.Tree.{CommandTree}
use Rattle.line_meaning.specs.Judging.{all_after, held_after}
use Rattle.feeds_meaning.specs.Lines.{is_data}
use Rattle.hub.specs.Told.{HeldUser as Kept}
use Rattle.hub.specs.Told.{HasLastLineAt, HasLineFor, HasSentAt, IsSender, kept_own}
use Rattle.hub.proofs.KindLemmas.{of_data}
use Rattle.exact.proofs.Lists.{bytes_eq_refl}

-- ---- The sender's last entry

after_all : (journal : List Accepted) (e : Accepted) → slice_get (journal ++ e ∷ []) (length journal) ≡ Some e
after_all [] e = refl
after_all (x ∷ journal) e = after_all journal e

last_is : (journal : List Accepted) (e : Accepted) → slice_get (journal ++ e ∷ []) (length (journal ++ e ∷ []) - 1) ≡ Some e
last_is journal e =
    let long : length (journal ++ e ∷ []) ≡ length journal + 1 = length-append journal (e ∷ []) in
    let at : length (journal ++ e ∷ []) - 1 ≡ length journal = omega (arith, long) in
    ap (slice_get (journal ++ e ∷ [])) at ∙ after_all journal e

last_command : (journal more : List Accepted) (e : Accepted) → more ≡ journal ++ e ∷ [] →
    option_map (λ (x : Accepted). x.1) (slice_get more (length more - 1)) ≡ Some e.1
last_command journal more e is =
    ap (λ (js : List Accepted). option_map (λ (x : Accepted). x.1) (slice_get js (length js - 1))) is
    ∙ ap (option_map (λ (x : Accepted). x.1)) (last_is journal e)

sender_is : (s : Kept) (c : CommandTree) → is_data c ≡ true → IsSender s.user c (kept_own c None s)
sender_is s c is =
    let d = of_data c is in
    let entered : (held_after s.held c).journal ≡ s.held.journal ++ (clock s.held.journal, c) ∷ [] = rw d.kept refl in
    record {
      user = refl;
      last = last_command s.held.journal (all_after s.held c).journal (clock s.held.journal, c) (ap (λ h. h.journal) (d.same s.held) ∙ entered);
    }

set_there : (seats : List Kept) (place : ℕ) (k t : Kept) → slice_get (slice_set seats place k) place ≡ Some t → k ≡ t
set_there [] place k t e = absurd (cc)
set_there (x ∷ seats) zero k t e = cc
set_there (x ∷ seats) (suc place) k t e = set_there seats place k t e

pub sent_at : (seats : List Kept) (place : ℕ) (s : Kept) (c : CommandTree) → is_data c ≡ true → HasSentAt place s.user c (slice_set seats place (kept_own c None s))
sent_at seats place s c is = λ t e.
    subst (IsSender s.user c) (set_there seats place (kept_own c None s) t e) (sender_is s c is)

-- ---- The line of it

entry_line : (o : Option Accepted) (c : CommandTree) (line : List ℕ) → option_map (λ (e : Accepted). e.1) o ≡ Some c →
    ((e : Accepted) → o ≡ Some e → line ≡ text_of e.1) → line ≡ text_of c
entry_line None c line e is = absurd (cc)
entry_line (Some x) c line e is =
    let same : x.1 ≡ c = cc in
    is x refl ∙ ap text_of same

some_entry : (journal : List Accepted) (c : CommandTree) → option_map (λ (e : Accepted). e.1) (slice_get journal (length journal - 1)) ≡ Some c →
    0 < length journal
some_entry [] c e = absurd (cc)
some_entry (x ∷ journal) c e = omega arith

pub sender_has_entry : (seats : List Kept) (place : ℕ) (sender : List ℕ) (c : CommandTree) → HasSentAt place sender c seats →
    (s : Kept) → slice_get seats place ≡ Some s → 0 < length s.held.journal
sender_has_entry seats place sender c sent s at = some_entry s.held.journal c (sent s at).last

-- a single user is the sender
alone_sent : (x : Kept) (place : ℕ) (sender : List ℕ) (c : CommandTree) (line : List ℕ) → place < 1 → HasSentAt place sender c (x ∷ []) →
    HasLineFor sender c line x
alone_sent x zero sender c line inside sent = λ other.
    let bad : true ≡ false = sym (bytes_eq_refl sender) ∙ ap (bytes_eq sender) (sym (sent x refl).user) ∙ other in
    absurd (cc)
alone_sent x (suc place) sender c line inside sent = absurd (omega arith)

line_at : (seats : List Kept) (place : ℕ) (sender : List ℕ) (c : CommandTree) (line : List ℕ) (d : Kept) → place < length seats →
    HasSentAt place sender c seats → HasLastLineAt place seats line → line ≡ text_of c
line_at seats place sender c line d inside sent is =
    let s : Kept = get_or seats place d in
    let at : slice_get seats place ≡ Some s = slice_get-get_or seats place d inside in
    entry_line (slice_get s.held.journal (length s.held.journal - 1)) c line (sent s at).last (is s at)

all_have : (sender : List ℕ) (c : CommandTree) (line : List ℕ) → line ≡ text_of c → (seats : List Kept) → AllByRecursion (HasLineFor sender c line) seats
all_have sender c line is [] = tt
all_have sender c line is (x ∷ seats) = (λ other. is, all_have sender c line is seats)

pub lines_for_all : (seats : List Kept) (place : ℕ) (sender : List ℕ) (c : CommandTree) (line : List ℕ) → place < length seats →
    HasSentAt place sender c seats → (1 < length seats → HasLastLineAt place seats line) → All (HasLineFor sender c line) seats
lines_for_all [] place sender c line inside sent is = absurd (omega arith)
lines_for_all (x ∷ []) place sender c line inside sent is =
    All-from_recursion (HasLineFor sender c line) (x ∷ []) (alone_sent x place sender c line inside sent, tt)
lines_for_all (x ∷ y ∷ seats) place sender c line inside sent is =
    All-from_recursion (HasLineFor sender c line) (x ∷ y ∷ seats)
    (all_have sender c line (line_at (x ∷ y ∷ seats) place sender c line x inside sent (is (omega arith))) (x ∷ y ∷ seats))
