-- The refusal of a command that was read, by the refusals of what is held and of the journal.
use Rattle.std.proofs.Common.{◌≡◌, ℕ, Bool, true, false, Option, None, Some, List, [], ◌∷◌, ◌++◌, length, refl, sym, ap, ◌∙◌, subst, append-nil, if◌then◌else◌}
use Rattle.std.specs.Prelude.{◌&&◌, Err}
use Rattle.exact.specs.First.{first_that_holds, or_else}
use Rattle.command_text.specs.declared.fault.CommandFault.{CommandFault}
use Rattle.command_text.specs.declared.fault.CommandFault.TheVariants as stops
use Rattle.command_text.specs.declared.refusal.Refusal.{Refusal}
use Rattle.command_text.specs.declared.refusal.Refusal.TheVariants as refusals
use Rattle.command_text.specs.Journal.{Accepted, bytes_of, clock, is_kept}
use Rattle.command_text.specs.Text.{text_of}
use Rattle.command_text.specs.Tree
use Rattle.command_text.specs.Tree.{CommandTree}
use Rattle.line_meaning.specs.declared.role.Role.{Role}
use Rattle.line_meaning.specs.declared.role.Role.TheVariants.{Journalled, Telling}
use Rattle.line_meaning.specs.Answering.{answer_lines, kept_lines, query_lines}
use Rattle.line_meaning.specs.Fault.{fault_among, journal_refusal, passes_limits}
use Rattle.line_meaning.specs.Journal.{world}
use Rattle.line_meaning.specs.QueryFault.{command_fault, query_fault}
use Rattle.line_meaning.specs.Registry.{Known, known}
use Rattle.line_meaning.specs.Role.{is_on_indexes, is_on_queries, role_of}
use Rattle.line_meaning.specs.Step.{Held, fault_by, fault_of, held, held_after}
use Rattle.line_meaning.proofs.CallerLemmas.{or_none}
use Rattle.line_meaning.proofs.IndexLemmas.{plain_after}
use Rattle.line_meaning.proofs.RoleLemmas.{kept_is_journalled, telling_is_not_kept}
use Rattle.database.specs.Telling.{IsStoppedBy}
use Rattle.session.specs.Carried.{IsAccepted, IsStopped, is_class, lines_by}
use Rattle.session.specs.Entering.{Admits}

-- ---- refusals one after another

pub that_holds : (r : Refusal) (b : Bool) → b ≡ true → first_that_holds ((r, b) ∷ []) ≡ Some r
that_holds r b is = ap (λ x. first_that_holds ((r, x) ∷ [])) is

pub none_that_holds : (r : Refusal) (b : Bool) → b ≡ false → first_that_holds ((r, b) ∷ []) ≡ None
none_that_holds r b is = ap (λ x. first_that_holds ((r, x) ∷ [])) is

-- ---- by the role

-- neither of these is on indexes
kept_other : (c : CommandTree) → is_kept c ≡ true → is_on_indexes c ≡ false
kept_other (Tree.Index class attribute width) kept = absurd (cc kept)
kept_other (Tree.Range span class attribute least greatest) kept = absurd (cc kept)
kept_other c kept = refl

telling_other : (c : CommandTree) → role_of c ≡ Telling → is_on_indexes c ≡ false
telling_other (Tree.Index class attribute width) telling = absurd (cc telling)
telling_other (Tree.Range span class attribute least greatest) telling = absurd (cc telling)
telling_other c telling = refl

-- a command is judged by its role
pub by_role : (h : Held) (c : CommandTree) (role : Role) → role_of c ≡ role → fault_of h c ≡ fault_by role h c
by_role h c role is = ap (λ r. fault_by r h c) is

-- a command that isn't on registered queries is refused as one that only the database judges
no_query_fault : (k : Known) (c : CommandTree) → is_on_queries c ≡ false → query_fault k c ≡ None
no_query_fault k (Tree.Watch name span q) plain = absurd (cc plain)
no_query_fault k (Tree.Keep name span q) plain = absurd (cc plain)
no_query_fault k (Tree.Show name) plain = absurd (cc plain)
no_query_fault k (Tree.Drop name) plain = absurd (cc plain)
no_query_fault k c plain = refl

pub data_fault : (k : Known) (c : CommandTree) → is_on_queries c ≡ false → command_fault k c ≡ fault_among k.world k.now c
data_fault k c plain =
    ap (λ (r : Option Refusal). or_else (fault_among k.world k.now c) r) (no_query_fault k c plain) ∙ or_none (fault_among k.world k.now c)

-- ---- a command that the journal keeps

module _ (journal : List Accepted) (c : CommandTree) (kept : is_kept c ≡ true) where
  pub kept_fault : fault_of (held journal) c
      ≡ or_else (command_fault (known journal) c) (journal_refusal (length journal) (bytes_of journal) c)
  kept_fault = by_role (held journal) c Journalled (kept_is_journalled c kept)

  full_by : (full : Bool) → passes_limits (length journal) (bytes_of journal) (length (text_of c)) ≡ full →
      journal_refusal (length journal) (bytes_of journal) c ≡ first_that_holds ((refusals.JournalFull, full) ∷ [])
  full_by full is =
      ap (λ k. first_that_holds ((refusals.JournalFull, k && passes_limits (length journal) (bytes_of journal) (length (text_of c))) ∷ [])) kept
      ∙ ap (λ f. first_that_holds ((refusals.JournalFull, f) ∷ [])) is

  pub refused : (r : Refusal) → command_fault (known journal) c ≡ Some r → fault_of (held journal) c ≡ Some r
  refused r is = kept_fault ∙ ap (λ (o : Option Refusal). or_else o (journal_refusal (length journal) (bytes_of journal) c)) is

  pub accepted : command_fault (known journal) c ≡ None → passes_limits (length journal) (bytes_of journal) (length (text_of c)) ≡ false →
      fault_of (held journal) c ≡ None
  accepted is room =
      kept_fault
      ∙ ap (λ (o : Option Refusal). or_else o (journal_refusal (length journal) (bytes_of journal) c)) is
      ∙ full_by false room

  pub full : command_fault (known journal) c ≡ None → passes_limits (length journal) (bytes_of journal) (length (text_of c)) ≡ true →
      fault_of (held journal) c ≡ Some refusals.JournalFull
  full is room =
      kept_fault
      ∙ ap (λ (o : Option Refusal). or_else o (journal_refusal (length journal) (bytes_of journal) c)) is
      ∙ full_by true room

  -- it was refused by what is known, or memory was out where nothing refuses it
  pub stopped_by : (fault : CommandFault) → IsStoppedBy (command_fault (known journal) c) fault → IsStopped c (held journal) (held journal) fault
  stopped_by (stops.Refused r) is = (refused r is, refl)
  stopped_by stops.NoMemory is = (λ _. is, refl)

  -- nothing but the journal refuses it
  pub stopped_full : (line : List ℕ) (fault : CommandFault) → command_fault (known journal) c ≡ None →
      Admits journal c line (Err fault) → IsStopped c (held journal) (held journal) fault
  stopped_full line (stops.Refused r) none is = (full none is.1 ∙ ap Some (sym is.0), refl)
  stopped_full line stops.NoMemory none is = (λ _. none, refl)

  -- memory is out, and nothing refuses it but that a class is judged late
  pub stopped_lacking : (new : List Accepted) (fault : CommandFault) → new ≡ journal → fault ≡ stops.NoMemory →
      (is_class c ≡ false → command_fault (known journal) c ≡ None) → IsStopped c (held journal) (held new) fault
  stopped_lacking new fault same is none =
      subst (λ (f : CommandFault). IsStopped c (held journal) (held new) f) (sym is) (none, ap held same)

  entry_is : held_after (held journal) c ≡ held (journal ++ (clock journal, c) ∷ [])
  entry_is = ap (λ (k : Bool). held (journal ++ (if k then (clock journal, c) ∷ [] else []))) kept

  -- it is entered, and its lines are written
  pub accepted_kept : (now : ℕ) (new : List Accepted) (before after lines : List ℕ) → now ≡ clock journal → new ≡ journal ++ (now, c) ∷ [] →
      fault_of (held journal) c ≡ None → lines ≡ kept_lines (known journal) (known (journal ++ (clock journal, c) ∷ [])) c →
      after ≡ before ++ lines → IsAccepted c (held journal) (held new) before after
  accepted_kept now new before after lines tick is none told written = record {
    accepted = none;
    goes_on = ap held (is ∙ ap (λ t. journal ++ (t, c) ∷ []) tick) ∙ sym entry_is ∙ sym (plain_after (held journal) c (kept_other c kept));
    said = written
        ∙ ap (λ ls. before ++ ls) (told ∙ ap (λ (h : Held). kept_lines (known journal) (known h.journal) c) (sym entry_is))
        ∙ ap (λ (r : Role). before ++ lines_by r (held journal) c) (sym (kept_is_journalled c kept));
  }

-- ---- a command that changes nothing

module _ (journal : List Accepted) (c : CommandTree) (telling : role_of c ≡ Telling) where
  told_kept : is_kept c ≡ false
  told_kept = telling_is_not_kept c telling

  told_fault : fault_of (held journal) c ≡ command_fault (known journal) c
  told_fault =
      by_role (held journal) c Telling telling
      ∙ ap (λ k. or_else (command_fault (known journal) c)
      (first_that_holds ((refusals.JournalFull, k && passes_limits (length journal) (bytes_of journal) (length (text_of c))) ∷ []))) told_kept
      ∙ or_none (command_fault (known journal) c)

  pub told_stopped : (fault : CommandFault) → IsStoppedBy (command_fault (known journal) c) fault → IsStopped c (held journal) (held journal) fault
  told_stopped (stops.Refused r) is = (told_fault ∙ is, refl)
  told_stopped stops.NoMemory is = (λ _. is, refl)

  pub told_accepted : (before after : List ℕ) → command_fault (known journal) c ≡ None →
      after ≡ before ++ (answer_lines (world journal) (clock journal) c ++ query_lines (known journal) c) →
      IsAccepted c (held journal) (held journal) before after
  told_accepted before after none written = record {
    accepted = told_fault ∙ none;
    goes_on = ap held (sym (append-nil journal) ∙ ap (λ (k : Bool). journal ++ (if k then (clock journal, c) ∷ [] else [])) (sym told_kept))
        ∙ sym (plain_after (held journal) c (telling_other c telling));
    said = written ∙ ap (λ (r : Role). before ++ lines_by r (held journal) c) (sym telling);
  }
