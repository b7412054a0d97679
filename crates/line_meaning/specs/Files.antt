-- What the commands on files put on the shelf.
use Rattle.std.specs.Prelude.{ℕ, List, []}
use Rattle.std.specs.Option.{option_map_or}
use Rattle.outside.specs.Shelf.{Texts, texts_with}
use Rattle.history.specs.Catalog.{number_of_class}
use Rattle.history.specs.World.{World}
use Rattle.object_rows.specs.Exported.{exported}
use Rattle.session_file.specs.Text.{session_text}
use Rattle.command_text.specs.Tree
use Rattle.command_text.specs.Tree.{CommandTree}
use Rattle.command_text.specs.Journal.{clock}
use Rattle.line_meaning.specs.Journal.{world}
use Rattle.line_meaning.specs.Judging.{Held}

-- the objects of a class that are present at a tick, as a text of csv
abbrev pub class_text : World → ℕ → List ℕ → List ℕ
class_text w now class = option_map_or (exported w.history now) (number_of_class w.history.catalog class) []

-- the texts after an accepted command: the journal's text is saved, and that of a class exported
abbrev pub texts_after : Held → Texts → CommandTree → Texts
texts_after h texts (Tree.Save file) = texts_with texts file (session_text h.journal)
texts_after h texts (Tree.Export class file) = texts_with texts file (class_text (world h.journal) (clock h.journal) class)
texts_after h texts _ = texts
