-- For this crate and for the crates above: each step leads from a journal that steps lead to to such a one.
use Rattle.std.proofs.Common.{◌≡◌, ℕ, ◌≤◌, Option, None, Some, List, [], ◌∷◌, length, refl}
use Rattle.std.specs.Prelude.{unwrap_or, option_and_then, option_map}
use Rattle.object_rows.specs.declared.rows.ObjectRow.{ObjectRow}
use Rattle.object_rows.specs.Commands.{GivesPrintableCommands, GivesShortLines}
use Rattle.command_text.specs.declared.reading.TheConstants.{LINE_LIMIT}
use Rattle.command_text.specs.declared.refusal.Refusal.{Refusal}
use Rattle.command_text.specs.Journal.{Accepted, spelled}
use Rattle.command_text.specs.Line.{IsRead, command_in, early_refusal, first_refusal, late_refusal}
use Rattle.command_text.specs.inner.Reading.{Read}
use Rattle.command_text.specs.Shape.{IsPrintable, IsShortName}
use Rattle.command_text.specs.Text.{text_of}
use Rattle.command_text.specs.TextLaws.{PrintsWhatIsRead, PrintsWithinFourLimits}
use Rattle.command_text.specs.Tree
use Rattle.command_text.specs.Tree.{CommandTree}
use Rattle.session_file.specs.declared.kept.TheConstants.{SESSION_LINE_LIMIT}
use Rattle.line_meaning.specs.Import.{journal_after_rows, journal_after_text, rows_for}
use Rattle.line_meaning.specs.Judging.{fault_of}
use Rattle.line_meaning.specs.Reached.{AreReached, after_lines}
use Rattle.line_meaning.specs.Step.{Base, base_after, file_refusal, line_refusal, refusal_of, step, step_by}
use Rattle.line_meaning.proofs.ImportLemmas.{named_rows_are_printable, rows_are_reached, rows_may_be_loaded}
use Rattle.line_meaning.proofs.ReachedLemmas.{command_is_reached, none_of_both}

pub taken_is : (found : Read CommandTree) → late_refusal found ≡ None →
    option_map (λ f. f.0) found ≡ Some (unwrap_or (option_map (λ f. f.0) found) Tree.Nothing)
taken_is None taken = absurd (cc taken)
taken_is (Some f) taken = refl

-- an accepted line is read as its command, and nothing refuses the command
record IsAcceptedLine (b : Base) (line : List ℕ) : Type 0 where
  pub read : IsRead LINE_LIMIT line (spelled line)
  pub fault : fault_of b.held (spelled line) ≡ None

accepted_line : (b : Base) (line : List ℕ) → refusal_of b line ≡ None → IsAcceptedLine b line
unfolding line_refusal
accepted_line b line none =
    let c = spelled line in
    let before = (none_of_both (line_refusal b.held line) (file_refusal b c) none).0 in
    let both = none_of_both (first_refusal LINE_LIMIT line) (fault_of b.held c) before in
    let late = (none_of_both (early_refusal LINE_LIMIT line) (late_refusal (command_in line)) both.0).1 in
    record { read = record { taken = both.0; command = taken_is (command_in line) late }; fault = both.1 }

-- ---- an import: of a text that isn't there, or isn't taken, nothing is entered

module _ (rows_print : GivesPrintableCommands) (rows_short : GivesShortLines) where
  after_rows : (journal : List Accepted) (class text : List ℕ) → AreReached [] journal → IsShortName class →
      (found : Option (List ObjectRow)) → rows_for journal class text ≡ found →
      (after : Option (List Accepted)) → option_and_then (journal_after_rows class journal) found ≡ after →
      AreReached [] (unwrap_or after journal)
  after_rows journal class text reached short found is None after = reached
  after_rows journal class text reached short None is (Some next) after = absurd (cc after)
  after_rows journal class text reached short (Some rows) is (Some next) after =
      rows_are_reached class journal rows next reached (named_rows_are_printable rows_print journal class text rows reached short is)
      (rows_may_be_loaded rows_short journal class text rows reached short is) after

  after_text : (journal : List Accepted) (class : List ℕ) → AreReached [] journal → IsShortName class → (text : Option (List ℕ)) →
      AreReached [] (unwrap_or (option_and_then (journal_after_text journal class) text) journal)
  after_text journal class reached short None = reached
  after_text journal class reached short (Some text) =
      after_rows journal class text reached short (rows_for journal class text) refl (journal_after_text journal class text) refl

  -- ---- a step

  base_is_reached : (b : Base) (c : CommandTree) → IsPrintable c → length (text_of c) ≤ SESSION_LINE_LIMIT → fault_of b.held c ≡ None →
      AreReached [] b.held.journal → AreReached [] (base_after b c).held.journal
  base_is_reached b (Tree.Import class file) printable short none reached =
      after_text b.held.journal class reached printable.1.0 (b.texts file)
  base_is_reached b c printable short none reached = command_is_reached b.held c printable short none reached

  by_refusal : (b : Base) (c : CommandTree) (r : Option Refusal) →
      (r ≡ None → AreReached [] (base_after b c).held.journal) → AreReached [] b.held.journal → AreReached [] (step_by b c r).0.held.journal
  by_refusal b c (Some r) accepted reached = reached
  by_refusal b c None accepted reached = accepted refl

  module _ (prints : PrintsWhatIsRead) (short : PrintsWithinFourLimits) where
    pub step_is_reached : (b : Base) (line : List ℕ) → AreReached [] b.held.journal → AreReached [] (step b line).0.held.journal
    unfolding step
    step_is_reached b line reached =
        by_refusal b (spelled line) (refusal_of b line)
        (λ none.
        let is = accepted_line b line none in
        base_is_reached b (spelled line) (prints LINE_LIMIT line (spelled line) is.read) (short LINE_LIMIT line (spelled line) is.read)
        is.fault reached)
        reached

-- and so do lines
pub lines_are_reached : ((b : Base) (line : List ℕ) → AreReached [] b.held.journal → AreReached [] (step b line).0.held.journal) →
    (b : Base) (lines : List (List ℕ)) → AreReached [] b.held.journal → AreReached [] (after_lines b lines).held.journal
lines_are_reached leads b [] reached = reached
lines_are_reached leads b (line ∷ lines) reached = lines_are_reached leads (step b line).0 lines (leads b line reached)
