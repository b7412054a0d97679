-- The data commands of a journal tell its world and its clock, and are refused alike in each journal that has them.
use Rattle.std.proofs.Common.{◌≡◌, ℕ, ◌+◌, ◌*◌, ◌≤◌, true, false, Bool, List, [], ◌∷◌, ◌++◌, length, None, Some, Option, refl, sym, ap, ◌∙◌, inl, inr, arith}
use Rattle.std.proofs.lemmas.Bool.{cases_Bool}
use Rattle.std.proofs.lemmas.Bool.Decides.{nat_tests}
use Rattle.std.proofs.lemmas.List.Sums.{sum_by-cons}
use Rattle.std.specs.Prelude.{◌&&◌, if◌then◌else◌}
use Rattle.history.specs.World.{world_of}
use Rattle.exact.specs.First.{first_that_holds, or_else}
use Rattle.command_text.specs.declared.refusal.Refusal.TheVariants.{JournalFull}
use Rattle.command_text.specs.Journal.{Accepted, bytes_of, clock, is_kept, line_bytes, ticks_of}
use Rattle.command_text.specs.Text.{text_of}
use Rattle.command_text.specs.Tree.{CommandTree}
use Rattle.line_meaning.specs.Fault.{fault_among, journal_refusal, passes_limits}
use Rattle.line_meaning.specs.Journal.{regions, regions_of, world, writes, writes_of}
use Rattle.line_meaning.specs.Judging.{Held, fault_of, held, held_after}
use Rattle.line_meaning.specs.Reached.{AreReached, IsNextEntry}
use Rattle.line_meaning.specs.Registry.{known}
use Rattle.session_file.specs.declared.kept.TheConstants.{SESSION_LINE_LIMIT}
use Rattle.feeds_meaning.specs.Lines.{is_data}
use Rattle.hub.specs.Seats.{data_entries}
use Rattle.hub.proofs.KindLemmas.{no_regions, no_ticks, no_writes, of_data}

-- ---- What a journal tells

pub data_writes : (journal : List Accepted) → writes (data_entries journal) ≡ writes journal
data_writes [] = refl
data_writes (e ∷ journal) = elim (cases_Bool (is_data e.1)) [
  | inl is ↦ rw is (ap (λ ws. writes_of e.0 e.1 ++ ws) (data_writes journal))
  | inr other ↦ rw (other, no_writes e.0 e.1 other) (data_writes journal)
]

data_regions : (journal : List Accepted) → regions (data_entries journal) ≡ regions journal
data_regions [] = refl
data_regions (e ∷ journal) = elim (cases_Bool (is_data e.1)) [
  | inl is ↦ rw is (ap (λ rs. regions_of e.1 ++ rs) (data_regions journal))
  | inr other ↦ rw (other, no_regions e.1 other) (data_regions journal)
]

clock_first : (e : Accepted) (journal : List Accepted) → clock (e ∷ journal) ≡ ticks_of e.1 + clock journal
clock_first e journal = sum_by-cons (λ (x : Accepted). ticks_of x.1) e journal

pub data_clock : (journal : List Accepted) → clock (data_entries journal) ≡ clock journal
data_clock [] = refl
data_clock (e ∷ journal) = elim (cases_Bool (is_data e.1)) [
  | inl is ↦ rw is (clock_first e (data_entries journal) ∙ ap (λ n. ticks_of e.1 + n) (data_clock journal) ∙ sym (clock_first e journal))
  | inr other ↦
      let first = clock_first e journal in
      let later = data_clock journal in
      let none = no_ticks e.1 other in
      let same : clock (data_entries journal) ≡ clock (e ∷ journal) = omega arith in
      rw other same
]

pub data_world : (journal : List Accepted) → world (data_entries journal) ≡ world journal
data_world journal = λ i. world_of (data_writes journal i) (data_regions journal i)

-- ---- Limits of a journal

data_length : (journal : List Accepted) → length (data_entries journal) ≤ length journal
data_length [] = omega arith
data_length (e ∷ journal) = elim (cases_Bool (is_data e.1)) [
  | inl is ↦ rw is (let later = data_length journal in omega arith)
  | inr other ↦ rw other (let later = data_length journal in omega arith)
]

bytes_first : (e : Accepted) (journal : List Accepted) → bytes_of (e ∷ journal) ≡ line_bytes e + bytes_of journal
bytes_first e journal = sum_by-cons line_bytes e journal

data_bytes : (journal : List Accepted) → bytes_of (data_entries journal) ≤ bytes_of journal
data_bytes [] = omega arith
data_bytes (e ∷ journal) = elim (cases_Bool (is_data e.1)) [
  | inl is ↦
      let first = bytes_first e (data_entries journal) in
      let all = bytes_first e journal in
      let later = data_bytes journal in
      let few : bytes_of (e ∷ data_entries journal) ≤ bytes_of (e ∷ journal) = omega arith in
      rw is few
  | inr other ↦
      let all = bytes_first e journal in
      let later = data_bytes journal in
      let few : bytes_of (data_entries journal) ≤ bytes_of (e ∷ journal) = omega arith in
      rw other few
]

-- a line of each entry, with its line feed, is short
bytes_from : (before later : List Accepted) → AreReached before later → bytes_of later ≤ (SESSION_LINE_LIMIT + 1) * length later
bytes_from before [] reached = omega arith
bytes_from before (e ∷ later) reached =
    let first = bytes_first e later in
    let rest = bytes_from (before ++ e ∷ []) later reached.1 in
    let short = reached.0.short in
    omega arith

pub few_bytes : (journal : List Accepted) → AreReached [] journal → bytes_of journal ≤ (SESSION_LINE_LIMIT + 1) * length journal
few_bytes journal reached = bytes_from [] journal reached

-- ---- Refusals

-- of data commands, by the limits and by what is told
pub data_fault : (h : Held) (c : CommandTree) → is_data c ≡ true →
    fault_of h c
    ≡ or_else (or_else (fault_among (world h.journal) (clock h.journal) c) None) (journal_refusal (length h.journal) (bytes_of h.journal) c)
data_fault h c is =
    let d = of_data c is in
    rw (d.keeping, d.alone (known h.journal)) refl

pub or_none : {A : Type 0} (o p : Option A) → or_else o p ≡ None → (o ≡ None) × (p ≡ None)
or_none None p e = (refl, e)
or_none (Some x) p e = absurd (cc)

-- room for one more entry beside more entries is room beside fewer
fewer_pass : (n m b d line : ℕ) → n ≤ m → b ≤ d → passes_limits m d line ≡ false → passes_limits n b line ≡ false
fewer_pass n m b d line few less h = grind (arith, nat_tests)

pub room_is : (kept passes : Bool) → first_that_holds ((JournalFull, kept && passes) ∷ []) ≡ None → kept ≡ true → passes ≡ false
room_is true true e k = absurd (cc)
room_is true false e k = refl
room_is false passes e k = absurd (cc)

-- what a journal took is taken by its data commands alone
pub replayed_is_taken : (before : List Accepted) (e : Accepted) → IsNextEntry before e → is_data e.1 ≡ true →
    fault_of (held (data_entries before)) e.1 ≡ None
replayed_is_taken before e next h =
    let d = of_data e.1 h in
    let told : fault_among (world before) (clock before) e.1 ≡ None = (or_none (fault_among (world before) (clock before) e.1) _ next.accepted).0 in
    let same : fault_among (world (data_entries before)) (clock (data_entries before)) e.1 ≡ None =
    (λ i. fault_among (data_world before i) (data_clock before i) e.1) ∙ told in
    let passes : passes_limits (length before) (bytes_of before) (length (text_of e.1)) ≡ false =
    room_is (is_kept e.1) (passes_limits (length before) (bytes_of before) (length (text_of e.1))) next.room d.kept in
    let fewer : passes_limits (length (data_entries before)) (bytes_of (data_entries before)) (length (text_of e.1)) ≡ false =
    fewer_pass (length (data_entries before)) (length before) (bytes_of (data_entries before)) (bytes_of before) (length (text_of e.1))
    (data_length before) (data_bytes before) passes in
    data_fault (held (data_entries before)) e.1 h ∙ rw (same, d.kept, fewer) refl

-- ---- What is held after it

pub data_more : (before : List Accepted) (e : Accepted) → data_entries (before ++ e ∷ []) ≡ data_entries before ++ (if is_data e.1 then e ∷ [] else [])
data_more [] e = refl
data_more (x ∷ before) e = elim (cases_Bool (is_data x.1)) [
  | inl is ↦ rw is (ap (λ es. x ∷ es) (data_more before e))
  | inr other ↦ rw other (data_more before e)
]

pub replayed_holds : (before : List Accepted) (e : Accepted) → IsNextEntry before e → is_data e.1 ≡ true →
    held_after (held (data_entries before)) e.1 ≡ held (data_entries (before ++ e ∷ []))
replayed_holds before e next h =
    let d = of_data e.1 h in
    let tick : clock (data_entries before) ≡ e.0 = data_clock before ∙ sym next.tick in
    rw d.kept (ap held (ap (λ t. data_entries before ++ (t, e.1) ∷ []) tick ∙ sym (data_more before e ∙ rw h refl)))
