-- For this crate and for the crates above: the text of a journal that steps lead to is loaded as this journal.
use Rattle.std.proofs.Common.{◌≡◌, ℕ, ◌+◌, ◌≤◌, Bool, true, false, Option, None, Some, List, [], ◌∷◌, ◌++◌, length, refl, sym, ap, subst, ◌∙◌, append-nil, length-append, arith, if◌then◌else◌}
use Rattle.std.specs.Prelude.{◌<◌, IsSome, is_none, option_map, nat_le, nat_lt, map, take}
use Rattle.std.specs.List.{AllByRecursion}
use Rattle.std.specs.Str.Lines.{lines}
use Rattle.std.proofs.lemmas.Bool.{false≢true, or_parts}
use Rattle.std.proofs.lemmas.Bool.Decides.{nat_tests}
use Rattle.std.proofs.lemmas.List.{append_assoc}
use Rattle.std.proofs.lemmas.Slice.Eq.{bytes_eq-Decides}
use Rattle.exact.specs.First.{first_that_holds, or_else}
use Rattle.exact.proofs.Truths.{second_false}
use Rattle.tick_set.specs.declared.spans.TheConstants.{LAST_TICK}
use Rattle.command_text.specs.declared.journal.TheConstants.{MOST_ENTRIES}
use Rattle.command_text.specs.declared.refusal.Refusal.{Refusal}
use Rattle.command_text.specs.declared.refusal.Refusal.TheVariants as refusals
use Rattle.command_text.specs.Journal.{Accepted, bytes_of, clock, is_kept, spelled, ticks_of}
use Rattle.command_text.specs.Tree
use Rattle.command_text.specs.Tree.{CommandTree}
use Rattle.session_file.specs.Laws.{CutTextsAreBad, IsAcceptedEntry, IsSavable, LastFeedMayLack, LoadsWhatIsSaved, numbered_commands}
use Rattle.session_file.specs.declared.fault.FileFault.{FileFault}
use Rattle.session_file.specs.Reading.{Reading, reading_of}
use Rattle.session_file.specs.Text.{session_text}
use Rattle.line_meaning.specs.declared.role.Role.{Role}
use Rattle.line_meaning.specs.declared.role.Role.TheVariants.{Journalled}
use Rattle.line_meaning.specs.Fault.{journal_refusal}
use Rattle.line_meaning.specs.Judging.{Held, fault_by, fault_of, held, held_after}
use Rattle.line_meaning.specs.Loading.{IsBadLine, Loaded, BadLine, line_of_fault, loading_by, loading_of, replayed}
use Rattle.line_meaning.specs.QueryFault.{command_fault}
use Rattle.line_meaning.specs.Reached.{AreReached, IsNextEntry}
use Rattle.line_meaning.specs.Registry.{known}
use Rattle.line_meaning.specs.Role.{role_of}
use Rattle.line_meaning.specs.Step.{Base, refusal_of, step}
use Rattle.line_meaning.proofs.CallerLemmas.{step_accepted}
use Rattle.line_meaning.proofs.JournalLemmas.{clock_more}
use Rattle.line_meaning.proofs.ReachedLemmas.{none_of_both}
use Rattle.line_meaning.proofs.RoleLemmas.{kept_is_journalled}

-- ---- an entry of such a journal is accepted again

both_none : (first other : Option Refusal) → first ≡ None → other ≡ None → or_else first other ≡ None
both_none None other first rest = rest
both_none (Some r) other first rest = absurd (cc first)

kept_fault : (role : Role) (h : Held) (c : CommandTree) → role ≡ Journalled →
    command_fault (known h.journal) c ≡ None → journal_refusal (length h.journal) (bytes_of h.journal) c ≡ None → fault_by role h c ≡ None
kept_fault role h c keeping fault room =
    ap (λ (r : Role). fault_by r h c) keeping
    ∙ both_none (command_fault (known h.journal) c) (journal_refusal (length h.journal) (bytes_of h.journal) c) fault room

accepted_again : (journal : List Accepted) (e : Accepted) → IsNextEntry journal e → fault_of (held journal) e.1 ≡ None
accepted_again journal e is =
    kept_fault (role_of e.1) (held journal) e.1 (kept_is_journalled e.1 is.kept) is.accepted is.room

entered_again : (journal : List Accepted) (e : Accepted) → IsNextEntry journal e → (held_after (held journal) e.1).journal ≡ journal ++ e ∷ []
entered_again journal e is =
    let same : (clock journal, e.1) ≡ e = ap (λ (tick : ℕ). (tick, e.1)) (sym is.tick) in
    ap (λ kept. journal ++ (if kept then (clock journal, e.1) ∷ [] else [])) is.kept
    ∙ ap (λ (d : Accepted). journal ++ d ∷ []) same

replayed_more : (journal : List Accepted) (e : Accepted) (number : ℕ) (later : List (ℕ × CommandTree)) → IsNextEntry journal e →
    replayed journal ((number, e.1) ∷ later) ≡ replayed (journal ++ e ∷ []) later
replayed_more journal e number later is =
    ap (λ fault. if is_none fault then replayed (held_after (held journal) e.1).journal later else BadLine number) (accepted_again journal e is)
    ∙ ap (λ next. replayed next later) (entered_again journal e is)

replays : (before journal : List Accepted) (number : ℕ) → AreReached before journal →
    replayed before (numbered_commands number (map (λ e. e.1) journal)) ≡ Loaded (before ++ journal)
replays before [] number reached = ap Loaded (sym (append-nil before))
replays before (e ∷ journal) number reached =
    replayed_more before e number (numbered_commands (number + 1) (map (λ e. e.1) journal)) reached.0
    ∙ replays (before ++ e ∷ []) journal (number + 1) reached.1
    ∙ ap Loaded (append_assoc before (e ∷ []) journal)

-- ---- such a journal may be saved

entries_savable : (before journal : List Accepted) → AreReached before journal → AllByRecursion IsAcceptedEntry journal
entries_savable before [] reached = tt
entries_savable before (e ∷ journal) reached =
    let is = reached.0 in
    (record { kept = is.kept; printable = is.printable; short = is.short }, entries_savable (before ++ e ∷ []) journal reached.1)

pub first_none : (r : Refusal) (holds : Bool) → first_that_holds ((r, holds) ∷ []) ≡ None → holds ≡ false
first_none r true is = absurd (cc is)
first_none r false is = refl

one_more_fits : (n : ℕ) → nat_le MOST_ENTRIES n ≡ false → n + 1 ≤ MOST_ENTRIES
one_more_fits n is = grind (arith, nat_tests, is)

has_room : (journal : List Accepted) (e : Accepted) → IsNextEntry journal e → length (journal ++ e ∷ []) ≤ MOST_ENTRIES
has_room journal e is =
    let passes = first_none refusals.JournalFull _ is.room in
    let full = (or_parts (nat_le MOST_ENTRIES (length journal)) _ (second_false (is_kept e.1) _ is.kept passes)).0 in
    omega (arith, length-append journal (e ∷ []), one_more_fits (length journal) full)

few_entries : (before journal : List Accepted) → AreReached before journal → length before ≤ MOST_ENTRIES →
    length (before ++ journal) ≤ MOST_ENTRIES
few_entries before [] reached few = subst (λ (j : List Accepted). length j ≤ MOST_ENTRIES) (sym (append-nil before)) few
few_entries before (e ∷ journal) reached few =
    subst (λ (j : List Accepted). length j ≤ MOST_ENTRIES) (append_assoc before (e ∷ []) journal)
    (few_entries (before ++ e ∷ []) journal reached.1 (has_room before e reached.0))

-- the clock stays within its range
ticks_fit : (now ticks : ℕ) → nat_lt LAST_TICK (now + ticks) ≡ false → now + ticks ≤ LAST_TICK
ticks_fit now ticks is = grind (arith, nat_tests, is)

pub clock_by : (journal : List Accepted) (c : CommandTree) → command_fault (known journal) c ≡ None → clock journal ≤ LAST_TICK →
    clock journal + ticks_of c ≤ LAST_TICK
clock_by journal (Tree.Tick ticks) fault fits =
    ticks_fit (clock journal) ticks
    (first_none refusals.ClockEnd _ (none_of_both (first_that_holds ((refusals.ClockEnd, nat_lt LAST_TICK (clock journal + ticks)) ∷ [])) None fault).0)
clock_by journal c fault fits = omega arith

clock_fits : (before journal : List Accepted) → AreReached before journal → clock before ≤ LAST_TICK → clock (before ++ journal) ≤ LAST_TICK
clock_fits before [] reached fits = subst (λ (j : List Accepted). clock j ≤ LAST_TICK) (sym (append-nil before)) fits
clock_fits before (e ∷ journal) reached fits =
    let next = clock_by before e.1 reached.0.accepted fits in
    subst (λ (j : List Accepted). clock j ≤ LAST_TICK) (append_assoc before (e ∷ []) journal)
    (clock_fits (before ++ e ∷ []) journal reached.1 (omega (arith, next, clock_more before e.0 e.1)))

is_savable : (journal : List Accepted) → AreReached [] journal → IsSavable journal
is_savable journal reached = record {
  entries = entries_savable [] journal reached;
  few = few_entries [] journal reached (omega arith);
  ticks = clock_fits [] journal reached (omega arith);
}

-- ---- its text is loaded as it

module _ (loads : LoadsWhatIsSaved) where
  pub saved_is_loaded : (journal : List Accepted) → AreReached [] journal → loading_of (session_text journal) ≡ Loaded journal
  unfolding loading_of
  saved_is_loaded journal reached =
      let text = session_text journal in
      let commands = numbered_commands 3 (map (λ e. e.1) journal) in
      let is : reading_of text ≡ record { commands = commands; fault = None } = loads journal (is_savable journal reached) in
      ap (λ (reading : Reading). loading_by (length (lines text)) reading reading.fault) is
      ∙ replays [] journal 3 reached

  -- so it is from the name of an accepted `save`
  pub save_is_loaded : (b : Base) (line file : List ℕ) → AreReached [] b.held.journal → refusal_of b line ≡ None →
      spelled line ≡ Tree.Save file → option_map loading_of ((step b line).0.texts file) ≡ Some (Loaded b.held.journal)
  save_is_loaded b line file reached accepted is =
      ap (λ (s : Base × List ℕ). option_map loading_of (s.0.texts file)) (step_accepted b line (Tree.Save file) accepted is)
      ∙ ap (λ same. option_map loading_of (if same then Some (session_text b.held.journal) else b.texts file)) ((bytes_eq-Decides file file).1 refl)
      ∙ ap Some (saved_is_loaded b.held.journal reached)

-- ---- of a part of its text

fault_is_bad : (count : ℕ) (reading : Reading) (fault : Option FileFault) → IsSome fault → IsBadLine (loading_by count reading fault)
fault_is_bad count reading None is = absurd (false≢true is)
fault_is_bad count reading (Some fault) is = (line_of_fault count fault, refl)

pub cut_is_bad : CutTextsAreBad → (journal : List Accepted) (n : ℕ) → AreReached [] journal → n + 1 < length (session_text journal) →
    IsBadLine (loading_of (take n (session_text journal)))
unfolding loading_of
cut_is_bad cuts journal n reached within =
    let text = take n (session_text journal) in
    fault_is_bad (length (lines text)) (reading_of text) (reading_of text).fault (cuts journal n (is_savable journal reached) within)

pub uncut_is_loaded : LastFeedMayLack → LoadsWhatIsSaved → (journal : List Accepted) (n : ℕ) → AreReached [] journal →
    n + 1 ≡ length (session_text journal) → loading_of (take n (session_text journal)) ≡ Loaded journal
unfolding loading_of
uncut_is_loaded lacks loads journal n reached all =
    let text = take n (session_text journal) in
    let savable = is_savable journal reached in
    let commands = numbered_commands 3 (map (λ e. e.1) journal) in
    let is : reading_of text ≡ record { commands = commands; fault = None } = lacks journal n savable all ∙ loads journal savable in
    ap (λ (reading : Reading). loading_by (length (lines text)) reading reading.fault) is
    ∙ replays [] journal 3 reached
