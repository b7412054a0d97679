-- What the text of a session leads to, command by command.
use Rattle.std.proofs.Common.{◌≡◌, ℕ, ◌+◌, ◌≤◌, ◌==◌, Bool, true, false, ◌&&◌, Option, None, Some, List, [], ◌∷◌, length, refl, ap, ◌∙◌, subst, arith, if◌then◌else◌}
use Rattle.std.specs.Prelude.{is_none, nat_le, unwrap_or}
use Rattle.std.specs.List.{slice_split}
use Rattle.std.specs.Str.Lines.{lines, lines_of_parts}
use Rattle.std.proofs.lemmas.List.Splits.{length-slice_split}
use Rattle.std.proofs.lemmas.List.Sums.{count_by-le-length}
use Rattle.command_text.specs.declared.refusal.Refusal.{Refusal}
use Rattle.command_text.specs.Journal.{Accepted, is_kept, spelled}
use Rattle.command_text.specs.Line.{IsRead, command_in, early_refusal, first_refusal, late_refusal}
use Rattle.command_text.specs.Text.{text_of}
use Rattle.command_text.specs.TextLaws.{PrintsWhatIsRead, ReadsWhatIsPrinted}
use Rattle.command_text.specs.Tree
use Rattle.command_text.specs.Tree.{CommandTree}
use Rattle.session_file.specs.declared.fault.FileFault.{FileFault}
use Rattle.session_file.specs.declared.kept.TheConstants.{SESSION_LINE_LIMIT}
use Rattle.session_file.specs.Kept.{HasLine, kept_in, may_be_loaded}
use Rattle.session_file.specs.declared.reader.Loaded as file
use Rattle.session_file.specs.Reading.{GivesNextCommand, Reading, finished, reading_of}
use Rattle.line_meaning.specs.Loading.{Loaded, BadLine, line_of_fault, loading_by, loading_of, replayed}
use Rattle.line_meaning.specs.Step.{Held, fault_of, held, held_after}
use Rattle.line_meaning.proofs.ReachedLemmas.{none_of_both}
use Rattle.line_meaning.proofs.ImportLemmas.{none_is}
use Rattle.line_meaning.proofs.StepLemmas.{taken_is}
use Rattle.session.specs.Carried.{IsLegible}
use Rattle.exact.proofs.Truths.{both_true}
use Rattle.exact.proofs.Naturals.{at_most_from_test}

-- ---- a text

pub faulty : (text : List ℕ) (fault : FileFault) → (reading_of text).fault ≡ Some fault →
    loading_of text ≡ BadLine (line_of_fault (length (lines text)) fault)
unfolding loading_of
faulty text fault is = ap (loading_by (length (lines text)) (reading_of text)) is

pub faultless : (text : List ℕ) → (reading_of text).fault ≡ None → loading_of text ≡ replayed [] (reading_of text).commands
unfolding loading_of
faultless text is = ap (loading_by (length (lines text)) (reading_of text)) is

-- a text has at most one line more than bytes
parts_bound_lines : (parts : List (List ℕ)) → length (lines_of_parts parts) ≤ length parts
parts_bound_lines [] = omega arith
parts_bound_lines (part ∷ []) = elim (length part == 0) as (λ b. length (if b then [] else part ∷ []) ≤ 1) [
  | true ↦ omega arith
  | false ↦ omega arith
]
parts_bound_lines (part ∷ next ∷ more) = omega (arith, parts_bound_lines (next ∷ more))

pub few_lines : (text : List ℕ) → length (lines text) ≤ length text + 1
few_lines text =
    let is_feed = λ (b : ℕ). b == 10 in
    omega (arith, parts_bound_lines (slice_split is_feed text), length-slice_split is_feed text, count_by-le-length is_feed text)

-- ---- its first command

pub taken : (journal : List Accepted) (c : ℕ × CommandTree) (later : List (ℕ × CommandTree)) → fault_of (held journal) c.1 ≡ None →
    replayed journal (c ∷ later) ≡ replayed (held_after (held journal) c.1).journal later
taken journal c later is =
    ap (λ (o : Option Refusal). if is_none o then replayed (held_after (held journal) c.1).journal later else BadLine c.0) is

pub refused : (journal : List Accepted) (c : ℕ × CommandTree) (later : List (ℕ × CommandTree)) → is_none (fault_of (held journal) c.1) ≡ false →
    replayed journal (c ∷ later) ≡ BadLine c.0
refused journal c later is = ap (λ (b : Bool). if b then replayed (held_after (held journal) c.1).journal later else BadLine c.0) is

-- ---- its end

pub none_left : (left after : Reading) (found : Option file.Loaded) → ((next : file.Loaded) → found ≡ Some next → ⊥) → GivesNextCommand left after found →
    left ≡ finished
none_left left after None none gives = gives.0
none_left left after (Some next) none gives = absurd (none next refl)

pub all_taken : (text : List ℕ) (h : Held) (left : Reading) → (reading_of text).fault ≡ left.fault →
    replayed [] (reading_of text).commands ≡ replayed h.journal left.commands → left ≡ finished → loading_of text ≡ Loaded h.journal
all_taken text h left fault same end =
    faultless text (fault ∙ ap (λ (r : Reading). r.fault) end) ∙ same ∙ ap (λ (r : Reading). replayed h.journal r.commands) end

-- ---- what may stand in a text

if_some : (b : Bool) (x c : CommandTree) → (if b then Some x else None) ≡ Some c → (b ≡ true) × (x ≡ c)
if_some true x c h = (refl, cc h)
if_some false x c h = absurd (cc h)

abbrev pub IsLoadable : CommandTree → Type 0
IsLoadable c = (is_kept c ≡ true) × IsLegible c

module _ (prints : PrintsWhatIsRead) (again : ReadsWhatIsPrinted) where
  by_line : (line : List ℕ) (c : CommandTree) → first_refusal SESSION_LINE_LIMIT line ≡ None → may_be_loaded (spelled line) ≡ true →
      spelled line ≡ c → IsLoadable c
  by_line line c none may is =
      let late = (none_of_both (early_refusal SESSION_LINE_LIMIT line) (late_refusal (command_in line)) none).1 in
      let read : IsRead SESSION_LINE_LIMIT line c = record { taken = none; command = taken_is (command_in line) late ∙ ap Some is } in
      let two = both_true (is_kept c) (nat_le (length (text_of c)) SESSION_LINE_LIMIT) (subst (λ d. may_be_loaded d ≡ true) is may) in
      let short = at_most_from_test (length (text_of c)) SESSION_LINE_LIMIT two.1 in
      let printable = prints SESSION_LINE_LIMIT line c read in
      (two.0, record { printable = printable; canonical = ap (λ o. unwrap_or o Tree.Nothing) (again SESSION_LINE_LIMIT c printable short).command; short = short })

  pub is_loadable : (c : CommandTree) → HasLine c → IsLoadable c
  unfolding kept_in
  is_loadable c (line, is) =
      let found = if_some (is_none (first_refusal SESSION_LINE_LIMIT line) && may_be_loaded (spelled line)) (spelled line) c is in
      let two = both_true (is_none (first_refusal SESSION_LINE_LIMIT line)) (may_be_loaded (spelled line)) found.0 in
      by_line line c (none_is (first_refusal SESSION_LINE_LIMIT line) two.0) two.1 found.1
