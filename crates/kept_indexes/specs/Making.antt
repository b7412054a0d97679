-- What is made of the indexes by a command on them.
use Rattle.std.specs.Prelude.{◌≡◌, ℕ, ◌+◌, ◌<◌, ◌≤◌, false, Some, List, Vec, get_or, length, vec_capacity, vec_len}
use Rattle.std.specs.declared.alloc.Global.{Global}
use Rattle.std.specs.List.{position}
use Rattle.command_text.specs.Journal.{Accepted, clock}
use Rattle.command_text.specs.Tree
use Rattle.command_text.specs.Tree.{CommandTree}
use Rattle.object_store.specs.Contents.{Contents, catalog_of}
use Rattle.line_meaning.specs.Indexed.{IndexedColumn, column, is_of, is_past_index, with_index}
use Rattle.line_meaning.specs.Judging.{Held}
use Rattle.line_meaning.specs.Reply.{ok_line}
use Rattle.database.specs.declared.database.Database.{Database}
use Rattle.kept_indexes.specs.declared.asking.Range.{Range}
use Rattle.kept_indexes.specs.declared.indexes.Kept.{Kept}
use Rattle.kept_indexes.specs.Kept.{AreRight, IsRight, entries, entry_of}

-- an index stands in the place of that of its attribute, or else last
pub record IsPut (at : IndexedColumn) (one : Kept) (old new : List Kept) : Type 0 where
  pub entries : entries new ≡ with_index (entries old) at (entry_of one)
  pub right : (journal : List Accepted) (s : Contents) → AreRight journal s old → IsRight journal s one → AreRight journal s new

-- there is room for the `ok` that ends a reply
abbrev pub HasRoomForOk : Vec ℕ Global → Type 0
HasRoomForOk out = vec_len out + length ok_line ≤ vec_capacity out

-- ---- A range

abbrev pub range_command : Range → CommandTree
range_command r = Tree.Range r.span r.class.now r.attr.now r.least r.greatest

-- what is held of a journal and indexes
abbrev pub holding : List Accepted → List Kept → Held
holding journal kept = record { journal = journal; indexes = entries kept }

-- the place of the index that is asked, whose last tick isn't before that of the span
pub record IsPlace (kept : List Kept) (d : Database) (r : Range) (place : ℕ) : Type 0 where
  pub at : IndexedColumn
  pub column : column (catalog_of d.store) r.class.now r.attr.now ≡ Some at
  pub found : position (is_of at) (entries kept) ≡ Some place
  pub fits : (e : Kept) → place < length kept → is_past_index d.clock r.span (entry_of (get_or kept place e)) ≡ false
