-- The data commands of a journal, copied one after another.
use Rattle.std.proofs.Common.{◌≡◌, ℕ, zero, suc, ◌+◌, ◌<◌, ◌≤◌, true, false, List, [], ◌∷◌, ◌++◌, length, take, None, Some, Option, refl, sym, ap, ◌∙◌, subst, append-nil, append_assoc, inl, inr, add-one, length-take-le, arith}
use Rattle.std.proofs.lemmas.Bool.{cases_Bool}
use Rattle.std.proofs.lemmas.Bool.Decides.{nat_tests}
use Rattle.std.proofs.lemmas.Option.{slice_get_within}
use Rattle.std.specs.Prelude.{if◌then◌else◌, option_map, slice_get}
use Rattle.command_text.specs.declared.journal.TheConstants.{MOST_BYTES, MOST_ENTRIES}
use Rattle.command_text.specs.Journal.{Accepted, bytes_of, clock, is_kept, line_told, spelled}
use Rattle.command_text.specs.Line.{IsRead}
use Rattle.command_text.specs.Text.{text_of}
use Rattle.command_text.specs.TextLaws.{ReadsWhatIsPrinted}
use Rattle.command_text.specs.Tree.{CommandTree}
use Rattle.line_meaning.specs.Fault.{fault_among, journal_refusal, passes_limits}
use Rattle.line_meaning.specs.Journal.{world}
use Rattle.exact.specs.First.{or_else}
use Rattle.line_meaning.specs.Judging.{fault_of, held}
use Rattle.line_meaning.specs.Reached.{AreReached, IsNextEntry}
use Rattle.session_file.specs.declared.kept.TheConstants.{SESSION_LINE_LIMIT}
use Rattle.feeds_meaning.specs.Lines.{is_data}
use Rattle.hub.specs.Answering.{IsEntryLine}
use Rattle.hub.specs.Seats.{data_entries}
use Rattle.hub.proofs.DataLemmas.{data_fault, data_more, or_none, replayed_is_taken, room_is}
use Rattle.hub.proofs.KindLemmas.{of_data}
use Rattle.hub.proofs.JudgingLemmas.{read_is}

-- the entry of a place is one after those before it, which end the front of that length
record StandsAt (before later : List Accepted) (place : ℕ) (e : Accepted) : Type 0 where
  next : IsNextEntry (before ++ take place later) e
  front : take (suc place) later ≡ take place later ++ e ∷ []

entry_at : (before later : List Accepted) (place : ℕ) (e : Accepted) → AreReached before later → slice_get later place ≡ Some e →
    StandsAt before later place e
entry_at before [] place e reached found = absurd (cc)
entry_at before (x ∷ later) zero e reached found =
    let same : x ≡ e = cc in
    record {
      next = subst (λ j. IsNextEntry j e) (sym (append-nil before)) (subst (IsNextEntry before) same reached.0);
      front = ap (λ y. y ∷ []) same;
    }
entry_at before (x ∷ later) (suc place) e reached found =
    let later_is = entry_at (before ++ x ∷ []) later place e reached.1 found in
    record {
      next = subst (λ j. IsNextEntry j e) (append_assoc before (x ∷ []) (take place later)) later_is.next;
      front = ap (λ es. x ∷ es) later_is.front;
    }

-- of so many entries the data commands were copied
pub record IsCopied (journal : List Accepted) (place : ℕ) (copy : List Accepted) : Type 0 where
  pub within : place ≤ length journal
  pub copy_is : copy ≡ data_entries (take place journal)

pub copied_none : (journal copy : List Accepted) → copy ≡ [] → IsCopied journal 0 copy
copied_none journal copy e = record { within = omega arith; copy_is = e }

module _ (journal : List Accepted) (reached : AreReached [] journal) (place : ℕ) (e : Accepted) (found : slice_get journal place ≡ Some e) where
  -- its canonical line is read again as its command
  pub entry_is : ReadsWhatIsPrinted → spelled (text_of e.1) ≡ e.1
  entry_is reads =
      let next = (entry_at [] journal place e reached found).next in
      read_is SESSION_LINE_LIMIT (text_of e.1) e.1 (reads SESSION_LINE_LIMIT e.1 next.printable next.short)

  pub entry_line : ReadsWhatIsPrinted → IsEntryLine (text_of e.1)
  entry_line reads =
      let next = (entry_at [] journal place e reached found).next in
      let is : spelled (text_of e.1) ≡ e.1 = entry_is reads in
      record {
        read = subst (IsRead SESSION_LINE_LIMIT (text_of e.1)) (sym is) (reads SESSION_LINE_LIMIT e.1 next.printable next.short);
        canonical = ap text_of is;
      }

  -- the data commands before it don't refuse it
  pub entry_taken : (copy : List Accepted) → IsCopied journal place copy → is_data e.1 ≡ true → fault_of (held copy) e.1 ≡ None
  entry_taken copy so_far is =
      ap (λ j. fault_of (held j) e.1) so_far.copy_is
      ∙ replayed_is_taken (take place journal) e (entry_at [] journal place e reached found).next is

  pub copied_more : (copy more : List Accepted) → IsCopied journal place copy →
      more ≡ (if is_data e.1 then copy ++ e ∷ [] else copy) → IsCopied journal (place + 1) more
  copied_more copy more so_far said =
      let at = entry_at [] journal place e reached found in
      let front : data_entries (take place journal ++ e ∷ []) ≡ data_entries (take (place + 1) journal) =
      ap data_entries (sym at.front ∙ ap (λ n. take n journal) (sym (add-one place))) in
      elim (cases_Bool (is_data e.1)) [
        | inl is ↦
            let goes : more ≡ copy ++ e ∷ [] = rw is at said in
            let longer : data_entries (take place journal ++ e ∷ []) ≡ data_entries (take place journal) ++ e ∷ [] =
            data_more (take place journal) e ∙ rw is refl in
            record {
              within = let inside = slice_get_within journal place e found in omega arith;
              copy_is = goes ∙ ap (λ j. j ++ e ∷ []) so_far.copy_is ∙ sym longer ∙ front;
            }
        | inr other ↦
            let stays : more ≡ copy = rw other at said in
            let none : data_entries (take place journal ++ e ∷ []) ≡ data_entries (take place journal) =
            data_more (take place journal) e ∙ rw other (append-nil (data_entries (take place journal))) in
            record {
              within = let inside = slice_get_within journal place e found in omega arith;
              copy_is = stays ∙ so_far.copy_is ∙ sym none ∙ front;
            }
      ]

-- ---- By the line of a place

record IsEntryAt (journal : List Accepted) (place tick : ℕ) (line : List ℕ) : Type 0 where
  e : Accepted
  found : slice_get journal place ≡ Some e
  tick_is : tick ≡ e.0
  line_is : line ≡ text_of e.1

told_entry : (journal : List Accepted) (place tick : ℕ) (line : List ℕ) (o : Option Accepted) → slice_get journal place ≡ o →
    Some (tick, line) ≡ option_map line_told o → IsEntryAt journal place tick line
told_entry journal place tick line None at told = absurd (cc)
told_entry journal place tick line (Some x) at told =
    let pair : (tick, line) ≡ line_told x = cc in
    record { e = x; found = at; tick_is = ap (λ (p : ℕ × List ℕ). p.0) pair; line_is = ap (λ (p : ℕ × List ℕ). p.1) pair }

module _ (journal : List Accepted) (reached : AreReached [] journal) (place tick : ℕ) (line : List ℕ)
    (told : Some (tick, line) ≡ option_map line_told (slice_get journal place)) where
  entry_there : IsEntryAt journal place tick line
  entry_there = told_entry journal place tick line (slice_get journal place) refl told

  pub line_fits : ReadsWhatIsPrinted → IsEntryLine line
  line_fits reads =
      let at = entry_there in
      subst IsEntryLine (sym at.line_is) (entry_line journal reached place at.e at.found reads)

  line_spelled : ReadsWhatIsPrinted → spelled line ≡ (entry_there).e.1
  line_spelled reads =
      let at = entry_there in
      ap spelled at.line_is ∙ entry_is journal reached place at.e at.found reads

  pub line_taken : ReadsWhatIsPrinted → (copy : List Accepted) → IsCopied journal place copy → is_data (spelled line) ≡ true →
      fault_of (held copy) (spelled line) ≡ None
  line_taken reads copy so_far is =
      let at = entry_there in
      let same = line_spelled reads in
      ap (fault_of (held copy)) same ∙ entry_taken journal reached place at.e at.found copy so_far (sym (ap is_data same) ∙ is)

  pub line_more : ReadsWhatIsPrinted → (copy more : List Accepted) → IsCopied journal place copy →
      more ≡ (if is_data (spelled line) then copy ++ (tick, spelled line) ∷ [] else copy) → IsCopied journal (place + 1) more
  line_more reads copy more so_far said =
      let at = entry_there in
      let same = line_spelled reads in
      let entry : (tick, spelled line) ≡ at.e = λ i. (at.tick_is i, same i) in
      copied_more journal reached place at.e at.found copy more so_far
      (said ∙ ap (λ (x : Accepted). if is_data x.1 then copy ++ x ∷ [] else copy) entry)

  pub inside : place < length journal
  inside = slice_get_within journal place (entry_there).e (entry_there).found

  -- a journal has room for its entries
  pub few_places : place < MOST_ENTRIES
  few_places =
      let at = entry_there in
      let next = (entry_at [] journal place at.e reached at.found).next in
      let room = room_is (is_kept at.e.1) (passes_limits (length (take place journal)) (bytes_of (take place journal)) (length (text_of at.e.1))) next.room next.kept in
      let long : length (take place journal) ≡ place = length-take-le place journal (let within = inside in omega arith) in
      fits (length (take place journal)) place (bytes_of (take place journal)) (length (text_of at.e.1)) long room
    where
      fits : (n place bytes line : ℕ) → n ≡ place → passes_limits n bytes line ≡ false → place < MOST_ENTRIES
      fits n place bytes line e h = grind (arith, nat_tests)

no_entry : (o : Option Accepted) → None ≡ option_map line_told o → o ≡ None
no_entry None e = refl
no_entry (Some x) e = absurd (cc)

ends_at : (journal : List Accepted) (place : ℕ) → slice_get journal place ≡ None → place ≤ length journal → take place journal ≡ journal
ends_at [] zero e within = refl
ends_at [] (suc place) e within = absurd (omega arith)
ends_at (x ∷ journal) zero e within = absurd (cc)
ends_at (x ∷ journal) (suc place) e within = ap (λ l. x ∷ l) (ends_at journal place e (omega arith))

pub copied_all : (journal : List Accepted) (place : ℕ) (copy : List Accepted) → IsCopied journal place copy →
    None ≡ option_map line_told (slice_get journal place) → copy ≡ data_entries journal
copied_all journal place copy so_far none =
    so_far.copy_is ∙ ap data_entries (ends_at journal place (no_entry (slice_get journal place) none) so_far.within)

-- ---- The room for an entry

room_for : (j : List Accepted) (c : CommandTree) → is_data c ≡ true → fault_of (held j) c ≡ None →
    passes_limits (length j) (bytes_of j) (length (text_of c)) ≡ false
room_for j c is none =
    let parts = or_none (or_else (fault_among (world j) (clock j) c) None) (journal_refusal (length j) (bytes_of j) c)
    (sym (data_fault (held j) c is) ∙ none) in
    room_is (is_kept c) (passes_limits (length j) (bytes_of j) (length (text_of c))) parts.1 (of_data c is).kept

module _ (j : List Accepted) (line : List ℕ) (fits_line : IsEntryLine line) (is : is_data (spelled line) ≡ true)
    (none : fault_of (held j) (spelled line) ≡ None) where
  line_room : passes_limits (length j) (bytes_of j) (length line) ≡ false
  line_room = ap (λ (l : List ℕ). passes_limits (length j) (bytes_of j) (length l)) (sym fits_line.canonical) ∙ room_for j (spelled line) is none

  pub few_entries : length j < MOST_ENTRIES
  few_entries = few (length j) (bytes_of j) (length line) line_room
    where
      few : (n bytes size : ℕ) → passes_limits n bytes size ≡ false → n < MOST_ENTRIES
      few n bytes size h = grind (arith, nat_tests)

  pub few_bytes_left : bytes_of j + length line + 1 ≤ MOST_BYTES
  few_bytes_left = few (length j) (bytes_of j) (length line) line_room
    where
      few : (n bytes size : ℕ) → passes_limits n bytes size ≡ false → bytes + size + 1 ≤ MOST_BYTES
      few n bytes size h = grind (arith, nat_tests)

-- the entry of a line that was read as a data command
module _ (j : List Accepted) (line : List ℕ) (c : CommandTree) (fits_line : IsEntryLine line) (read : IsRead SESSION_LINE_LIMIT line c) (is : is_data c ≡ true)
    (accepted : is_data (spelled line) ≡ true → fault_of (held j) (spelled line) ≡ None) where
  its_data : is_data (spelled line) ≡ true
  its_data = ap is_data (read_is SESSION_LINE_LIMIT line c read) ∙ is

  pub push_few : length j < MOST_ENTRIES
  push_few = few_entries j line fits_line its_data (accepted its_data)

  pub push_short : bytes_of j + length line + 1 ≤ MOST_BYTES
  push_short = few_bytes_left j line fits_line its_data (accepted its_data)
