-- What is tried of rows, and how it is taken back.
use Rattle.std.proofs.Common.{◌≡◌, ℕ, ◌+◌, ◌≤◌, Bool, true, false, not, Option, None, Some, List, [], ◌∷◌, ◌++◌, length, map, refl, sym, ap, ◌∙◌, subst, arith, append-nil, if◌then◌else◌}
use Rattle.std.specs.Prelude.{is_some, Result, Ok, Err, IfOk, IfSome, OnErr}
use Rattle.std.proofs.lemmas.List.{append_assoc, length-append, map-append}
use Rattle.object_rows.specs.declared.rows.ObjectRow.{ObjectRow}
use Rattle.std.specs.List.{AllByRecursion}
use Rattle.object_rows.specs.Commands.{command_of_row}
use Rattle.command_text.specs.declared.command.Command.{Command}
use Rattle.command_text.specs.declared.journal.TheConstants.{MOST_BYTES}
use Rattle.command_text.specs.declared.refusal.Refusal.{Refusal}
use Rattle.command_text.specs.Journal.{Accepted, bytes_of}
use Rattle.command_text.specs.Text.{text_of}
use Rattle.command_text.specs.Tree.{CommandTree, command_view}
use Rattle.line_meaning.specs.Fault.{is_present, passes_limits}
use Rattle.line_meaning.specs.Import.{journal_after_rows, row_command, with_entry}
use Rattle.line_meaning.specs.QueryFault.{command_fault}
use Rattle.line_meaning.specs.Registry.{known}
use Rattle.database.specs.declared.change.Change.{Change}
use Rattle.database.specs.declared.database.Database.{Database}
use Rattle.database.specs.Attempt.{Carries, fault_told}
use Rattle.database.specs.Keeping.{Keeps, clock_of, world_of_database}
use Rattle.database.specs.Taking.{IsLast, TakesBackChange, without}
use Rattle.database.proofs.CallerLemmas.{fault_is_told}
use Rattle.database.specs.Written.{writes_object}
use Rattle.session.specs.declared.trying.Trial.{Trial}
use Rattle.session.specs.Rows.{IsImportedRow, IsRowCommand, row_commands}
use Rattle.session.specs.Trial.{AddsTaken, AreTaken, HasSpare, IsAdded, IsNotNext, IsSameTrial, IsStack, IsTakenNext, IsTrial, IsTried, Steps, TellsTrial, Tries, TriesCommand, bottom, journal_of, with_entries}
use Rattle.session.proofs.FaultLemmas.{data_fault, refused}
use Rattle.session.proofs.RowLemmas.{bytes_more, entries_more, entry_more, no_room, refused_untaken, row_is, taken_by, write_kept, write_plain}

-- ---- the stack

bottom_more : (changes : List Change) (change : Change) (d : Database) → bottom (changes ++ change ∷ []) d ≡ bottom changes (without change d)
bottom_more [] change d = refl
bottom_more (first ∷ changes) change d = ap (without first) (bottom_more changes change d)

stack_more : (changes : List Change) (change : Change) (d : Database) → IsLast change d → IsStack changes (without change d) →
    IsStack (changes ++ change ∷ []) d
stack_more [] change d last stack = (tt, last)
stack_more (first ∷ changes) change d last stack =
    (stack_more changes change d last stack.0, subst (IsLast first) (sym (bottom_more changes change d)) stack.1)

pub stack_last : (changes : List Change) (change : Change) (d : Database) → IsStack (changes ++ change ∷ []) d →
    IsLast change d × IsStack changes (without change d)
stack_last [] change d stack = (stack.1, tt)
stack_last (first ∷ changes) change d stack =
    let h = stack_last changes change d stack.0 in
    (h.0, (h.1, subst (IsLast first) (bottom_more changes change d) stack.1))

pub bottom_last : (changes : List Change) (change : Change) (d : Database) → bottom (changes ++ change ∷ []) d ≡ bottom changes (without change d)
bottom_last changes change d = bottom_more changes change d

module _ (changes more : List Change) (change : Change) (old new : Database) (undoes : TakesBackChange change old new) (is : more ≡ changes ++ change ∷ []) where
  pub stack_pushed : IsStack changes old → IsStack more new
  stack_pushed stack =
      subst (λ (cs : List Change). IsStack cs new) (sym is)
      (stack_more changes change new undoes.last (subst (IsStack changes) (sym undoes.before) stack))

  pub bottom_pushed : bottom more new ≡ bottom changes old
  bottom_pushed = ap (λ (cs : List Change). bottom cs new) is ∙ bottom_more changes change new ∙ ap (bottom changes) undoes.before

-- ---- a command that is tried

module _ (journal : List Accepted) (c : CommandTree) (old : Database) (write : writes_object c ≡ true) (keeps : Keeps journal old) where
  told : (f : Option Refusal) → fault_told old c ≡ f → command_fault (known journal) c ≡ f
  told f is = data_fault (known journal) c (write_plain c write) ∙ sym (fault_is_told journal old c keeps) ∙ is

  module _ (entries bytes : ℕ) (line : List ℕ) (entries-are : length journal ≡ entries) (bytes-are : bytes_of journal ≡ bytes) (line-is : line ≡ text_of c) where
    room : (b : Bool) → not (passes_limits entries bytes (length line)) ≡ b →
        not (passes_limits (length journal) (bytes_of journal) (length (text_of c))) ≡ b
    room b is =
        let its = sym line-is in
        (λ i. not (passes_limits (entries-are i) (bytes-are i) (length (its i)))) ∙ is

    pub tried_without_room : (new : Database) → not (passes_limits entries bytes (length line)) ≡ false → new ≡ old → Tries journal c old new None
    tried_without_room new none same = (no_room journal c write (room false none), same)

    pub tried : (new : Database) (change : Change) → not (passes_limits entries bytes (length line)) ≡ true →
        Carries c old new change → Tries journal c old new (Some change)
    tried new change is carries = (taken_by journal c write (not_true _ (room true is)) (told None carries.accepted), carries)
      where
        not_true : (b : Bool) → not b ≡ true → b ≡ false
        not_true true h = absurd (cc h)
        not_true false h = refl

  pub tried_refused : (new : Database) (r : Refusal) → fault_told old c ≡ Some r → new ≡ old → Tries journal c old new None
  tried_refused new r is same =
      (refused_untaken journal c write r (refused journal c (write_kept c write) r (told (Some r) is)), same)

-- ---- a row more

with_entries-append : (journal : List Accepted) (cs : List CommandTree) (c : CommandTree) →
    with_entries journal (cs ++ c ∷ []) ≡ with_entry (with_entries journal cs) c
with_entries-append journal [] c = refl
with_entries-append journal (d ∷ cs) c = with_entries-append (with_entry journal d) cs c

module _ (start : List Accepted) (t more : Trial) (c : CommandTree) (commands : map command_view more.commands.items ≡ map command_view t.commands.items ++ c ∷ []) where
  pub journal_more : journal_of start more ≡ with_entry (journal_of start t) c
  journal_more = ap (with_entries start) commands ∙ with_entries-append start (map command_view t.commands.items) c

  module _ (old new : Database) (is : TellsTrial start old t) (write : writes_object c ≡ true) (change : Change) (carries : Carries c old new change) where
    pub told_more : length more.commands.items ≡ length t.commands.items + 1 → more.bytes ≡ t.bytes + (length (text_of c) + 1) →
        t.bytes + length (text_of c) + 1 ≤ MOST_BYTES → TellsTrial start new more
    told_more count bytes short =
        let journal = journal_of start t in
        let length_is : length (journal_of start more) ≡ length journal + 1 = ap length journal_more ∙ entries_more journal c write in
        let bytes_are : bytes_of (journal_of start more) ≡ bytes_of journal + (length (text_of c) + 1) = ap bytes_of journal_more ∙ bytes_more journal c write in
        record {
          keeps = subst (λ (j : List Accepted). Keeps j new)
              (ap (λ n. journal ++ (n, c) ∷ []) is.keeps.clock_is ∙ sym (entry_more journal c write) ∙ sym journal_more)
              (carries.keeps journal is.keeps);
          entries = omega (arith, length_is, is.entries, count);
          bytes = omega (arith, bytes_are, is.bytes, bytes);
          short = omega (arith, bytes, short);
        }

-- ---- all rows

module _ (class : List ℕ) (start : List Accepted) (rows : List ObjectRow) (row : ObjectRow) (rest : List ObjectRow) (t more : Trial) (is : IsTrial class start rows (row ∷ rest) t) where
  pub trial_more : (old new : Database) → IsTakenNext start (row_command (journal_of start t) class row) old new t more → IsTrial class start rows rest more
  trial_more old new next =
      let c = row_command (journal_of start t) class row in
      let j : journal_of start more ≡ with_entry (journal_of start t) c = journal_more start t more c next.commands in
      let same-j = sym j in
      let same-cs = sym next.commands in
      record {
        journals = is.journals
            ∙ ap (λ b. if b then journal_after_rows class (with_entry (journal_of start t) c) rest else None) next.taken
            ∙ ap (λ (k : List Accepted). journal_after_rows class k rest) same-j;
        commands = is.commands
            ∙ sym (append_assoc (map command_view t.commands.items) (c ∷ []) (row_commands class (with_entry (journal_of start t) c) rest))
            ∙ (λ i. same-cs i ++ row_commands class (same-j i) rest);
      }

  pub trial_stops : (old new : Database) → IsNotNext start (row_command (journal_of start t) class row) old new t more → journal_after_rows class start rows ≡ None
  trial_stops old new not-next =
      let c = row_command (journal_of start t) class row in
      is.journals ∙ ap (λ b. if b then journal_after_rows class (with_entry (journal_of start t) c) rest else None) not-next.refused

pub trial_ends : (class : List ℕ) (start : List Accepted) (rows : List ObjectRow) (t : Trial) → IsTrial class start rows [] t →
    AreTaken class start rows t.commands.items
trial_ends class start rows t is = record {
  all = ap is_some is.journals;
  are = is.commands ∙ append-nil (map command_view t.commands.items);
}

-- a trial of no row, and the command of the next one
pub none_told : (start : List Accepted) (d : Database) (t : Trial) → t.commands.items ≡ [] → t.bytes ≡ bytes_of start → t.bytes ≤ MOST_BYTES →
    Keeps start d → TellsTrial start d t
none_told start d t none is short keeps =
    let same : journal_of start t ≡ start = ap (λ (cs : List Command). with_entries start (map command_view cs)) none in
    let count : length t.commands.items ≡ 0 = ap length none in
    let entries : length (journal_of start t) ≡ length start = ap length same in
    record {
      keeps = subst (λ (j : List Accepted). Keeps j d) (sym same) keeps;
      entries = omega (arith, count, entries);
      bytes = ap bytes_of same ∙ sym is;
      short = short;
    }

pub none_tried : (class : List ℕ) (start : List Accepted) (rows : List ObjectRow) (t : Trial) → t.commands.items ≡ [] → IsTrial class start rows rows t
none_tried class start rows t none =
    let same : journal_of start t ≡ start = ap (λ (cs : List Command). with_entries start (map command_view cs)) none in
    let back = sym same in
    let none-back = sym none in
    record {
      journals = ap (λ (j : List Accepted). journal_after_rows class j rows) back;
      commands = λ i. map command_view (none-back i) ++ row_commands class (back i) rows;
    }

pub row_told : (start : List Accepted) (d : Database) (t : Trial) → TellsTrial start d t → (class : List ℕ) (row : ObjectRow) (present : Bool) (c : CommandTree) →
    present ≡ is_present (world_of_database d).history row.name (clock_of d) → c ≡ command_of_row class present row →
    c ≡ row_command (journal_of start t) class row
row_told start d t told class row present c present-is is =
    is ∙ ap (λ b. command_of_row class b row) present-is
    ∙ (λ i. command_of_row class (is_present (told.keeps.told_is i).history row.name (told.keeps.clock_is i)) row)

-- a command that was tried and added
told_same : (start : List Accepted) (d : Database) (t more : Trial) → IsSameTrial t more → journal_of start more ≡ journal_of start t
told_same start d t more same = ap (λ (cs : List Command). with_entries start (map command_view cs)) same.commands

module _ (start : List Accepted) (t mid more : Trial) (old new : Database) (told-is : TellsTrial start old t) (command : Command) (line : List ℕ) where
  next_is : (bytes : ℕ) (change : Change) → writes_object (command_view command) ≡ true → bytes ≡ length line + 1 →
      IsTried start (command_view command) old new t mid line change → IsAdded command bytes change mid more →
      IsTakenNext start (command_view command) old new t more
  next_is bytes change write bytes-are tries added =
      let commands : more.commands.items ≡ t.commands.items ++ command ∷ [] =
      added.commands ∙ ap (λ (cs : List Command). cs ++ command ∷ []) tries.same.commands in
      let changes : more.changes.items ≡ t.changes.items ++ change ∷ [] =
      added.changes ∙ ap (λ (cs : List Change). cs ++ change ∷ []) tries.same.changes in
      let views : map command_view more.commands.items ≡ map command_view t.commands.items ++ command_view command ∷ [] =
      ap (map command_view) commands ∙ map-append command_view t.commands.items (command ∷ []) in
      let count : length more.commands.items ≡ length t.commands.items + 1 =
      ap length commands ∙ length-append t.commands.items (command ∷ []) in
      let text : length line ≡ length (text_of (command_view command)) = ap length tries.printed in
      let more-bytes : more.bytes ≡ mid.bytes + bytes = added.size in
      let mid-bytes : mid.bytes ≡ t.bytes = tries.same.bytes in
      let short = tries.short in
      record {
        taken = tries.tries.0;
        told = told_more start t more (command_view command) views old new told-is write change tries.tries.1 count
            (omega (arith, more-bytes, mid-bytes, bytes-are, text)) (omega (arith, short, text));
        commands = views;
        stack = stack_pushed t.changes.items more.changes.items change old new tries.tries.1.undoes changes;
        back = bottom_pushed t.changes.items more.changes.items change old new tries.tries.1.undoes changes;
      }

  pub steps : {E : Type 0} (tried-as : Result (Option Change) E) (bytes : ℕ) (result : Result Bool E) → writes_object (command_view command) ≡ true →
      bytes ≡ length line + 1 → TriesCommand start (command_view command) old new t mid line tried-as →
      AddsTaken command bytes tried-as mid more result → Steps start (command_view command) old new t more result
  steps (Ok (Some change)) bytes result write bytes-are tries adds =
      subst (Steps start (command_view command) old new t more) (sym adds.0) (next_is bytes change write bytes-are tries adds.1)
  steps (Ok None) bytes result write bytes-are tries adds =
      subst (Steps start (command_view command) old new t more) (sym adds.0)
      (record { refused = tries.0.0; same = tries.0.1; changes = ap (λ (x : Trial). x.changes.items) adds.1 ∙ tries.1.changes })
  steps (Err fault) bytes result write bytes-are tries adds =
      subst (Steps start (command_view command) old new t more) (sym adds.0)
      (tries.0, ap (λ (x : Trial). x.changes.items) adds.1 ∙ tries.1.changes)

pub tried_spare : {E : Type 0} (start : List Accepted) (c : CommandTree) (old new : Database) (t mid : Trial) (line : List ℕ) (r : Result (Option Change) E) →
    TriesCommand start c old new t mid line r → IfOk r (λ found. IfSome found (λ _. HasSpare mid))
tried_spare start c old new t mid line (Ok (Some change)) tries = tries.spare
tried_spare start c old new t mid line (Ok None) tries = tt
tried_spare start c old new t mid line (Err fault) tries = tt

pub tried_short : {E : Type 0} (start : List Accepted) (c : CommandTree) (old new : Database) (t mid : Trial) (line : List ℕ) (bytes : ℕ)
    (r : Result (Option Change) E) → bytes ≡ length line + 1 → TriesCommand start c old new t mid line r →
    IfOk r (λ found. IfSome found (λ _. mid.bytes + bytes ≤ MOST_BYTES))
tried_short start c old new t mid line bytes (Ok (Some change)) is tries =
    let short = tries.short in
    let same = tries.same.bytes in
    omega (arith, short, same, is)
tried_short start c old new t mid line bytes (Ok None) is tries = tt
tried_short start c old new t mid line bytes (Err fault) is tries = tt

-- what an attempt tells, once there is room
pub tries_command : {E : Type 0} (start : List Accepted) (c : CommandTree) (old new : Database) (t mid : Trial) (line : List ℕ) (r : Result (Option Change) E) →
    IsSameTrial t mid → HasSpare mid → IfOk r (Tries (journal_of start mid) c old new) → IfOk r (λ found. IfSome found (λ _. line ≡ text_of c)) →
    IfOk r (λ found. IfSome found (λ _. mid.bytes + length line + 1 ≤ MOST_BYTES)) → OnErr r (new ≡ old) →
    TriesCommand start c old new t mid line r
tries_command start c old new t mid line (Ok (Some change)) same spare tries line-is short err = record {
  tries = subst (λ (j : List Accepted). Tries j c old new (Some change)) (told_same start old t mid same) tries;
  same = same;
  spare = spare;
  printed = line-is;
  short = let bytes = same.bytes in omega (arith, short, bytes);
}
tries_command start c old new t mid line (Ok None) same spare tries line-is short err =
    (subst (λ (j : List Accepted). Tries j c old new None) (told_same start old t mid same) tries, same)
tries_command start c old new t mid line (Err fault) same spare tries line-is short err = (err, same)

pub same_told : (start : List Accepted) (d : Database) (t mid : Trial) → IsSameTrial t mid → TellsTrial start d t → TellsTrial start d mid
same_told start d t mid same told-is =
    let journals : journal_of start mid ≡ journal_of start t = told_same start d t mid same in
    let count : length mid.commands.items ≡ length t.commands.items = ap length same.commands in
    let bytes : mid.bytes ≡ t.bytes = same.bytes in
    let entries-are = ap length journals in
    let bytes-are = ap bytes_of journals in
    let told-entries = told-is.entries in
    let told-bytes = told-is.bytes in
    let told-short = told-is.short in
    record {
      keeps = subst (λ (j : List Accepted). Keeps j d) (sym journals) told-is.keeps;
      entries = omega (arith, entries-are, told-entries, count);
      bytes = omega (arith, bytes-are, told-bytes, bytes);
      short = omega (arith, told-short, bytes);
    }

-- ---- one row of the loop over them

module _ (class : List ℕ) (start : List Accepted) (rows : List ObjectRow) (row : ObjectRow) (rest left : List ObjectRow) (left-is : left ≡ row ∷ rest)
    (t mid more : Trial) (d d' : Database) (told-is : TellsTrial start d t) (each : AllByRecursion (IsImportedRow class) left) (trial : IsTrial class start rows left t)
    (command : Command) (command-is : command_view command ≡ command_of_row class (is_present (world_of_database d).history row.name (clock_of d)) row) where
  its_command : command_view command ≡ row_command (journal_of start t) class row
  its_command = row_told start d t told-is class row (is_present (world_of_database d).history row.name (clock_of d)) (command_view command) refl command-is

  pub row_ready : IsRowCommand (command_view command)
  row_ready =
      subst IsRowCommand (sym command-is)
      (row_is class (is_present (world_of_database d).history row.name (clock_of d)) row (subst (AllByRecursion (IsImportedRow class)) left-is each).0)

  its_trial : IsTrial class start rows (row ∷ rest) t
  its_trial = subst (λ (xs : List ObjectRow). IsTrial class start rows xs t) left-is trial

  pub rest_each : AllByRecursion (IsImportedRow class) rest
  rest_each = (subst (AllByRecursion (IsImportedRow class)) left-is each).1

  module _ {E : Type 0} (line : List ℕ) (bytes : ℕ) (bytes-are : bytes ≡ length line + 1) (tried-as : Result (Option Change) E) (result : Result Bool E)
      (tries : TriesCommand start (command_view command) d d' t mid line tried-as) (adds : AddsTaken command bytes tried-as mid more result) where
    stepped : Steps start (row_command (journal_of start t) class row) d d' t more result
    stepped =
        subst (λ (c : CommandTree). Steps start c d d' t more result) its_command
        (steps start t mid more d d' told-is command line tried-as bytes result row_ready.1 bytes-are tries adds)

    pub row_taken : result ≡ Ok true → IsTakenNext start (row_command (journal_of start t) class row) d d' t more
    row_taken is = subst (Steps start (row_command (journal_of start t) class row) d d' t more) is stepped

    pub trial_on : result ≡ Ok true → IsTrial class start rows rest more
    trial_on is = trial_more class start rows row rest t more its_trial d d' (row_taken is)

    row_refused : result ≡ Ok false → IsNotNext start (row_command (journal_of start t) class row) d d' t more
    row_refused is = subst (Steps start (row_command (journal_of start t) class row) d d' t more) is stepped

    pub trial_off : result ≡ Ok false → journal_after_rows class start rows ≡ None
    trial_off is = trial_stops class start rows row rest t more its_trial d d' (row_refused is)
