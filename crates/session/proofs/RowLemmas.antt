-- The commands of rows: what they write, whether they are taken, and what they lead to.
use Rattle.std.proofs.Common.{◌≡◌, ℕ, ◌+◌, ◌≤◌, Bool, true, false, not, ◌&&◌, Option, None, Some, List, [], ◌∷◌, ◌++◌, length, refl, ap, ◌∙◌, arith, if◌then◌else◌}
use Rattle.std.specs.Prelude.{nat_le, is_none, is_some, unwrap_or}
use Rattle.std.specs.List.{AllByRecursion}
use Rattle.std.proofs.lemmas.Bool.{and_parts}
use Rattle.std.proofs.lemmas.Bool.Decides.{nat_tests}
use Rattle.std.proofs.lemmas.List.{length-append}
use Rattle.std.proofs.lemmas.List.Sums.{sum_by_push}
use Rattle.exact.specs.First.{first_that_holds, or_else}
use Rattle.object_rows.specs.declared.rows.ObjectRow.{ObjectRow}
use Rattle.object_rows.specs.Commands.{IsPrintableRow, command_of_row}
use Rattle.session_file.specs.declared.kept.TheConstants.{SESSION_LINE_LIMIT}
use Rattle.session_file.specs.Kept.{may_be_loaded}
use Rattle.command_text.specs.declared.refusal.Refusal.{Refusal}
use Rattle.command_text.specs.declared.refusal.Refusal.TheVariants as refusals
use Rattle.command_text.specs.Journal.{Accepted, bytes_of, clock, is_kept, line_bytes}
use Rattle.command_text.specs.Text.{text_of}
use Rattle.command_text.specs.Tree
use Rattle.command_text.specs.Tree.{CommandTree}
use Rattle.line_meaning.specs.declared.role.Role.{Role}
use Rattle.line_meaning.specs.Fault.{is_present, journal_refusal, passes_limits}
use Rattle.line_meaning.specs.Import.{MayBeLoaded, entry_lines, is_taken, journal_after_rows, lines_of_rows, row_command, with_entry}
use Rattle.line_meaning.specs.Journal.{world}
use Rattle.line_meaning.specs.Looks.{is_query, looks_of_rows, most_looks}
use Rattle.line_meaning.specs.QueryFault.{command_fault}
use Rattle.line_meaning.specs.Registry.{known}
use Rattle.line_meaning.specs.Role.{is_on_queries, role_of}
use Rattle.line_meaning.specs.Step.{fault_of, held}
use Rattle.session.specs.Carried.{lines_by}
use Rattle.session.specs.Rows.{IsImportedRow, IsRowCommand, journal_after_commands, lines_of_commands, looks_of_commands, row_commands}
use Rattle.line_meaning.proofs.RoleLemmas.{kept_is_journalled}
use Rattle.line_meaning.proofs.ImportLemmas.{none_is}
use Rattle.session.proofs.FaultLemmas.{accepted, kept_fault}
use Rattle.database.specs.Written.{writes_object}

-- ---- a command that writes to an object

pub write_kept : (c : CommandTree) → writes_object c ≡ true → is_kept c ≡ true
write_kept (Tree.Insert class name place sets) write = refl
write_kept (Tree.Update name place sets) write = refl
write_kept (Tree.Remove name) write = refl
write_kept c write = absurd (cc write)

pub write_plain : (c : CommandTree) → writes_object c ≡ true → is_on_queries c ≡ false
write_plain (Tree.Insert class name place sets) write = refl
write_plain (Tree.Update name place sets) write = refl
write_plain (Tree.Remove name) write = refl
write_plain c write = absurd (cc write)

-- it evaluates the registered queries, so it may take probes
pub write_probes : (c : CommandTree) (probes probes' : ℕ) → writes_object c ≡ true → is_query c ≡ false → probes' ≡ probes
write_probes (Tree.Insert class name place sets) probes probes' write plain = absurd (cc plain)
write_probes (Tree.Update name place sets) probes probes' write plain = absurd (cc plain)
write_probes (Tree.Remove name) probes probes' write plain = absurd (cc plain)
write_probes c probes probes' write plain = absurd (cc write)

not_none : (first : Option Refusal) (r : Refusal) → is_none (or_else first (Some r)) ≡ false
not_none None r = refl
not_none (Some q) r = refl

-- ---- whether it is taken

module _ (journal : List Accepted) (c : CommandTree) (write : writes_object c ≡ true) where
  pub entry_more : with_entry journal c ≡ journal ++ (clock journal, c) ∷ []
  entry_more = ap (λ (k : Bool). journal ++ (if k then (clock journal, c) ∷ [] else [])) (write_kept c write)

  pub entries_more : length (with_entry journal c) ≡ length journal + 1
  entries_more = ap length entry_more ∙ length-append journal ((clock journal, c) ∷ [])

  pub bytes_more : bytes_of (with_entry journal c) ≡ bytes_of journal + (length (text_of c) + 1)
  bytes_more = ap bytes_of entry_more ∙ sum_by_push line_bytes journal (clock journal, c)

  pub refused_untaken : (r : Refusal) → fault_of (held journal) c ≡ Some r → is_taken journal c ≡ false
  refused_untaken r is = ap is_none is

  full_untaken : passes_limits (length journal) (bytes_of journal) (length (text_of c)) ≡ true → is_taken journal c ≡ false
  full_untaken full =
      let late : journal_refusal (length journal) (bytes_of journal) c ≡ Some refusals.JournalFull =
      ap (λ k. first_that_holds ((refusals.JournalFull, k && passes_limits (length journal) (bytes_of journal) (length (text_of c))) ∷ [])) (write_kept c write)
      ∙ ap (λ f. first_that_holds ((refusals.JournalFull, f) ∷ [])) full in
      ap is_none (kept_fault journal c (write_kept c write)
      ∙ ap (λ (o : Option Refusal). or_else (command_fault (known journal) c) o) late) ∙ not_none (command_fault (known journal) c) refusals.JournalFull

  untaken_by : (full : Bool) → passes_limits (length journal) (bytes_of journal) (length (text_of c)) ≡ full → not full ≡ false →
      is_taken journal c ≡ false
  untaken_by true over none = full_untaken over
  untaken_by false over none = absurd (cc none)

  pub no_room : not (passes_limits (length journal) (bytes_of journal) (length (text_of c))) ≡ false → is_taken journal c ≡ false
  no_room none = untaken_by _ refl none

  pub taken_by : passes_limits (length journal) (bytes_of journal) (length (text_of c)) ≡ false → command_fault (known journal) c ≡ None →
      is_taken journal c ≡ true
  taken_by room right = ap is_none (accepted journal c (write_kept c write) right room)

pub taken_right : (journal : List Accepted) (c : CommandTree) → is_taken journal c ≡ true → fault_of (held journal) c ≡ None
taken_right journal c taken = none_is (fault_of (held journal) c) taken

-- a row's command has a short line
pub row_short : (c : CommandTree) → may_be_loaded c ≡ true → length (text_of c) ≤ SESSION_LINE_LIMIT
row_short c may =
    let short = (and_parts (is_kept c) (nat_le (length (text_of c)) SESSION_LINE_LIMIT) may).1 in
    grind (arith, nat_tests, short)

-- its lines are those of its entry
pub lines_is : (journal : List Accepted) (c : CommandTree) → writes_object c ≡ true → lines_by (role_of c) (held journal) c ≡ entry_lines journal c
lines_is journal c write = ap (λ (r : Role). lines_by r (held journal) c) (kept_is_journalled c (write_kept c write))

-- ---- the first of some commands

pub next_journal : (journal : List Accepted) (c : CommandTree) (cs : List CommandTree) → is_taken journal c ≡ true →
    journal_after_commands journal (c ∷ cs) ≡ journal_after_commands (with_entry journal c) cs
next_journal journal c cs taken = ap (λ b. if b then journal_after_commands (with_entry journal c) cs else None) taken

pub next_taken : (journal : List Accepted) (c : CommandTree) (cs : List CommandTree) → is_some (journal_after_commands journal (c ∷ cs)) ≡ true →
    (is_taken journal c ≡ true) × (is_some (journal_after_commands (with_entry journal c) cs) ≡ true)
next_taken journal c cs all = by_first (is_taken journal c) refl all
  where
    by_first : (taken : Bool) → is_taken journal c ≡ taken →
        is_some (if taken then journal_after_commands (with_entry journal c) cs else None) ≡ true →
        (is_taken journal c ≡ true) × (is_some (journal_after_commands (with_entry journal c) cs) ≡ true)
    by_first true is all = (is, all)
    by_first false is all = absurd (cc all)

-- the last of some commands that were entered
pub first_more : (start journal : List Accepted) (first : List CommandTree) (c : CommandTree) → journal_after_commands start first ≡ Some journal →
    is_taken journal c ≡ true → journal_after_commands start (first ++ c ∷ []) ≡ Some (with_entry journal c)
first_more start journal [] c entered taken =
    let same : start ≡ journal = ap (λ o. unwrap_or o start) entered in
    ap (λ (j : List Accepted). journal_after_commands j (c ∷ [])) same ∙ next_journal journal c [] taken
first_more start journal (d ∷ first) c entered taken =
    by_first (is_taken start d) refl entered (λ after. first_more (with_entry start d) journal first c after taken)
  where
    by_first : (b : Bool) → is_taken start d ≡ b → (if b then journal_after_commands (with_entry start d) first else None) ≡ Some journal →
        (journal_after_commands (with_entry start d) first ≡ Some journal →
        journal_after_commands (with_entry start d) (first ++ c ∷ []) ≡ Some (with_entry journal c)) →
        journal_after_commands start (d ∷ (first ++ c ∷ [])) ≡ Some (with_entry journal c)
    by_first true is after later = next_journal start d (first ++ c ∷ []) is ∙ later after
    by_first false is after later = absurd (cc after)

-- ---- rows by their commands

pub journals_are : (class : List ℕ) (journal : List Accepted) (rows : List ObjectRow) →
    journal_after_rows class journal rows ≡ journal_after_commands journal (row_commands class journal rows)
journals_are class journal [] = refl
journals_are class journal (row ∷ rows) =
    let c = row_command journal class row in
    ap (λ (o : Option (List Accepted)). if is_taken journal c then o else None) (journals_are class (with_entry journal c) rows)

pub lines_are : (class : List ℕ) (journal : List Accepted) (rows : List ObjectRow) →
    lines_of_rows class journal rows ≡ lines_of_commands journal (row_commands class journal rows)
lines_are class journal [] = refl
lines_are class journal (row ∷ rows) =
    let c = row_command journal class row in
    ap (λ ls. entry_lines journal c ++ ls) (lines_are class (with_entry journal c) rows)

pub looks_are : (class : List ℕ) (journal : List Accepted) (rows : List ObjectRow) →
    looks_of_rows class journal rows ≡ looks_of_commands journal (row_commands class journal rows)
looks_are class journal [] = refl
looks_are class journal (row ∷ rows) =
    let c = row_command journal class row in
    ap (λ n. most_looks (held journal) c + n) (looks_are class (with_entry journal c) rows)

-- the first of them are those of the first rows
pub record HasFirst (class : List ℕ) (journal : List Accepted) (rows : List ObjectRow) (firsts : List CommandTree) : Type 0 where
  pub first : List ObjectRow
  pub row : ObjectRow
  pub later : List ObjectRow
  pub all : rows ≡ first ++ row ∷ later
  pub commands : row_commands class journal first ≡ firsts

pub first_rows : (class : List ℕ) (journal : List Accepted) (rows : List ObjectRow) (firsts : List CommandTree) (c : CommandTree) (later : List CommandTree) →
    row_commands class journal rows ≡ firsts ++ c ∷ later → HasFirst class journal rows firsts
first_rows class journal [] [] c later is = absurd (cc is)
first_rows class journal [] (d ∷ firsts) c later is = absurd (cc is)
first_rows class journal (row ∷ rows) [] c later is = record { first = []; row = row; later = rows; all = refl; commands = refl }
first_rows class journal (row ∷ rows) (d ∷ firsts) c later is =
    let own = row_command journal class row in
    let rest : row_commands class (with_entry journal own) rows ≡ firsts ++ c ∷ later = cc is in
    let h = first_rows class (with_entry journal own) rows firsts c later rest in
    let same : own ≡ d = cc is in
    record {
      first = row ∷ h.first;
      row = h.row;
      later = h.later;
      all = ap (λ rs. row ∷ rs) h.all;
      commands = (λ i. same i ∷ h.commands i);
    }

-- ---- they are as rows have them

row_writes : (class : List ℕ) (present : Bool) (row : ObjectRow) → writes_object (command_of_row class present row) ≡ true
row_writes class true row = refl
row_writes class false row = refl

pub imported_rows : (class : List ℕ) (rows : List ObjectRow) → AllByRecursion (IsPrintableRow class) rows → AllByRecursion (MayBeLoaded class) rows →
    AllByRecursion (IsImportedRow class) rows
imported_rows class [] printable may = tt
imported_rows class (row ∷ rows) printable may = ((printable.0, may.0), imported_rows class rows printable.1 may.1)

pub row_is : (class : List ℕ) (present : Bool) (row : ObjectRow) → IsImportedRow class row → IsRowCommand (command_of_row class present row)
row_is class present row is = (is.0 present, row_writes class present row, is.1 present)

pub rows_are : (class : List ℕ) (journal : List Accepted) (rows : List ObjectRow) → AllByRecursion (IsImportedRow class) rows →
    AllByRecursion IsRowCommand (row_commands class journal rows)
rows_are class journal [] all = tt
rows_are class journal (row ∷ rows) all =
    let c = row_command journal class row in
    (row_is class (is_present (world journal).history row.name (clock journal)) row all.0, rows_are class (with_entry journal c) rows all.1)
