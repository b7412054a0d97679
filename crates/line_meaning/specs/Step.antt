-- The step of one line: the state after it and the reply.
use Rattle.std.specs.Prelude.{ℕ, Option, None, Some, is_none, option_and_then, unwrap_or, List, [], ◌∷◌, ◌++◌}
use Rattle.std.specs.Option.{option_map_or}
use Rattle.exact.specs.First.{first_that_holds, or_else}
use Rattle.outside.specs.Shelf.{Texts}
use Rattle.object_rows.specs.declared.rows.ObjectRow.{ObjectRow}
use Rattle.command_text.specs.declared.refusal.Refusal.{Refusal}
use Rattle.command_text.specs.declared.refusal.Refusal.TheVariants.{BadFile, NoFile}
use Rattle.command_text.specs.Refusals.{refusal_line}
use Rattle.command_text.specs.Journal.{Accepted, clock, spelled}
use Rattle.command_text.specs.Tree
use Rattle.command_text.specs.Tree.{CommandTree}
use Rattle.line_meaning.specs.declared.role.Role.{Role}
use Rattle.line_meaning.specs.declared.role.Role.TheVariants.{Blank, Journalled, Telling, Indexing, Filing, Ending}
use Rattle.line_meaning.specs.Answering.{answer_lines, kept_lines, query_lines}
use Rattle.line_meaning.specs.Files.{texts_after}
use Rattle.line_meaning.specs.Import.{journal_after_text, lines_of_rows, rows_for}
use Rattle.line_meaning.specs.Journal.{world}
use Rattle.line_meaning.specs.Registry.{known}
use Rattle.line_meaning.specs.Role.{role_of}
use Rattle.line_meaning.specs.Reply.{line_feed, ok_line}
pub use Rattle.line_meaning.specs.Judging.{Held, all_after, entries_of, fault_by, fault_of, held, held_after}
unfoldable pub use Rattle.line_meaning.specs.Judging.{line_refusal}

-- the whole state, with the texts of the shelf
pub record Base : Type 0 where
  pub held : Held
  pub texts : Texts

abbrev pub base : Held → Texts → Base
base h texts = record { held = h; texts = texts }

-- ---- An `import`: its text's rows are taken all or none

abbrev pub journal_after_import : Base → List ℕ → List ℕ → Option (List Accepted)
journal_after_import b class file = option_and_then (journal_after_text b.held.journal class) (b.texts file)

abbrev pub rows_imported : Base → List ℕ → List ℕ → Option (List ObjectRow)
rows_imported b class file = option_and_then (rows_for b.held.journal class) (b.texts file)

abbrev pub import_lines : Base → List ℕ → List ℕ → List ℕ
import_lines b class file = option_map_or (lines_of_rows class b.held.journal) (rows_imported b class file) []

-- the refusals by what a text holds
abbrev pub file_refusal : Base → CommandTree → Option Refusal
file_refusal b (Tree.Import class file) = first_that_holds (
    (NoFile, is_none (b.texts file))
    ∷ (BadFile, is_none (journal_after_import b class file))
    ∷ [])
file_refusal b _ = None

-- ---- All commands

-- the first refusal of a line, None where it is accepted
abbrev pub refusal_of : Base → List ℕ → Option Refusal
refusal_of b line = or_else (line_refusal b.held line) (file_refusal b (spelled line))

-- the state after an accepted command
abbrev pub base_after : Base → CommandTree → Base
base_after b (Tree.Import class file) =
    record b { held = record b.held { journal = unwrap_or (journal_after_import b class file) b.held.journal } }
base_after b c = record { held = all_after b.held c; texts = texts_after b.held b.texts c }

abbrev pub reply_by : Role → Held → CommandTree → List ℕ
reply_by Blank h c = []
reply_by Telling h c = answer_lines (world h.journal) (clock h.journal) c ++ query_lines (known h.journal) c ++ ok_line
reply_by Indexing h c = answer_lines (world h.journal) (clock h.journal) c ++ ok_line
reply_by Journalled h c = kept_lines (known h.journal) (known (held_after h c).journal) c ++ ok_line
reply_by Filing h c = ok_line
reply_by Ending h c = ok_line

-- the reply of an accepted command; a blank line or a comment has none
abbrev pub reply_of : Base → CommandTree → List ℕ
reply_of b (Tree.Import class file) = import_lines b class file ++ ok_line
reply_of b c = reply_by (role_of c) b.held c

-- A refused line changes nothing and answers with its refusal.
abbrev pub step_by : Base → CommandTree → Option Refusal → Base × List ℕ
step_by b c (Some refusal) = (b, refusal_line refusal ++ line_feed)
step_by b c None = (base_after b c, reply_of b c)

unfoldable pub step : Base → List ℕ → Base × List ℕ
step b line = step_by b (spelled line) (refusal_of b line)
