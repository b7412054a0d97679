-- The commands of rows, entered one after another.
use Rattle.std.proofs.Common.{◌≡◌, ℕ, true, Some, List, [], ◌∷◌, ◌++◌, refl, sym, ap, ◌∙◌, append-nil}
use Rattle.std.proofs.lemmas.List.{append_assoc}
use Rattle.command_text.specs.Journal.{Accepted}
use Rattle.command_text.specs.Tree.{CommandTree}
use Rattle.line_meaning.specs.Import.{entry_lines, is_taken, with_entry}
use Rattle.line_meaning.specs.Reply.{ok_line}
use Rattle.session.specs.Rows.{AreEntered, HasFirstCommands, HaveWrittenLines, journal_after_commands, lines_of_commands}
use Rattle.session.proofs.RowLemmas.{first_more}

-- before the first
pub none_entered : (start : List Accepted) (cs : List CommandTree) → AreEntered start cs start cs
none_entered start cs = record { first = []; all = refl; entered = refl }

pub none_written : (start : List Accepted) (cs : List CommandTree) (before after : List ℕ) → after ≡ before →
    HaveWrittenLines start cs start cs before after
none_written start cs before after is = record { said = []; out = is ∙ sym (append-nil before); lines = refl }

-- after the last
pub all_entered : (start : List Accepted) (cs : List CommandTree) (journal : List Accepted) → AreEntered start cs journal [] →
    journal_after_commands start cs ≡ Some journal
all_entered start cs journal is = ap (journal_after_commands start) (is.all ∙ append-nil is.first) ∙ is.entered

pub all_written : (start : List Accepted) (cs : List CommandTree) (journal : List Accepted) (before mid after : List ℕ) →
    HaveWrittenLines start cs journal [] before mid → after ≡ mid ++ ok_line → after ≡ before ++ (lines_of_commands start cs ++ ok_line)
all_written start cs journal before mid after is ends =
    ends ∙ ap (λ out. out ++ ok_line) is.out ∙ append_assoc before is.said ok_line
    ∙ ap (λ ls. before ++ (ls ++ ok_line)) (sym (is.lines ∙ append-nil is.said))

module _ (start : List Accepted) (cs : List CommandTree) (journal : List Accepted) (c : CommandTree) (rest : List CommandTree) where
  pub some_entered : AreEntered start cs journal (c ∷ rest) → HasFirstCommands start cs journal
  some_entered is = record { first = is.first; next = c; later = rest; all = is.all; entered = is.entered }

  pub one_more_entered : is_taken journal c ≡ true → AreEntered start cs journal (c ∷ rest) → AreEntered start cs (with_entry journal c) rest
  one_more_entered taken is = record {
    first = is.first ++ c ∷ [];
    all = is.all ∙ sym (append_assoc is.first (c ∷ []) rest);
    entered = first_more start journal is.first c is.entered taken;
  }

  pub one_more_written : (before old new : List ℕ) → (is : HaveWrittenLines start cs journal (c ∷ rest) before old) →
      new ≡ old ++ entry_lines journal c → HaveWrittenLines start cs (with_entry journal c) rest before new
  one_more_written before old new is told =
      let lines = entry_lines journal c in
      record {
        said = is.said ++ lines;
        out = told ∙ ap (λ out. out ++ lines) is.out ∙ append_assoc before is.said lines;
        lines = is.lines ∙ sym (append_assoc is.said lines (lines_of_commands (with_entry journal c) rest));
      }
