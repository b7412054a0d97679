-- How many looks at timelines a command may take.
use Rattle.std.specs.Prelude.{ℕ, ◌+◌, ◌==◌, ℤ, Bool, true, false, ◌||◌, List, [], ◌∷◌, length, map, drop}
use Rattle.std.specs.List.{filter, list_any}
use Rattle.std.specs.Option.{option_map_or}
use Rattle.std.specs.Str.{bytes_eq}
use Rattle.history.specs.Catalog.{Catalog, ids_of, name_of, number_of_class, object_of}
use Rattle.history.specs.World.{World}
use Rattle.meaning.specs.Reads.{query_reads, sizes_of, write_reads}
use Rattle.plane.specs.Boxes.{candidates}
use Rattle.plane.specs.Recorded.{recorded}
use Rattle.command_text.specs.Journal.{Accepted, clock}
use Rattle.command_text.specs.Tree
use Rattle.command_text.specs.Tree.{CommandTree}
use Rattle.ftl_parser.specs.Tree.{QueryTree}
use Rattle.object_rows.specs.declared.rows.ObjectRow.{ObjectRow}
use Rattle.line_meaning.specs.Ask.{query_in}
use Rattle.line_meaning.specs.Indexed.{IndexEntry, index_named}
use Rattle.line_meaning.specs.Journal.{world, writes}
use Rattle.line_meaning.specs.Registry.{Known, known}
use Rattle.line_meaning.specs.Import.{row_command, with_entry}
use Rattle.line_meaning.specs.Step.{Base, Held, held, held_after, rows_imported}

-- whether a command evaluates queries
abbrev pub is_query : CommandTree → Bool
is_query (Tree.Ask span q) = true
is_query (Tree.Watch name span q) = true
is_query (Tree.Keep name span q) = true
is_query (Tree.Must error span q) = true
is_query (Tree.May error span q) = true
is_query (Tree.Insert class name place sets) = true
is_query (Tree.Update name place sets) = true
is_query (Tree.Remove name) = true
is_query (Tree.Import class file) = true
is_query _ = false

-- over as many ticks as from now to the expiry
abbrev pub most_reads : World → ℕ → QueryTree → ℕ
most_reads w span q = query_reads (sizes_of w.history.catalog (query_in w q)) (span + 1) (query_in w q)

-- the objects of a class by its name, none where it isn't there
abbrev pub objects_of_class : Catalog → List ℕ → List ℕ
objects_of_class c class = option_map_or (ids_of c) (number_of_class c class) []

-- one for the object that is asked for, and one for each of the class
abbrev pub looks_near : Catalog → List ℕ → ℕ
looks_near c class = length (objects_of_class c class) + 1

-- those of a command that changes nothing
abbrev pub looks_asked : World → CommandTree → ℕ
looks_asked w (Tree.Ask span q) = most_reads w span q
looks_asked w (Tree.Nearest span k object class) = looks_near w.history.catalog class
looks_asked w (Tree.Must error span q) = most_reads w span q
looks_asked w (Tree.May error span q) = most_reads w span q
looks_asked w _ = 0

-- those of the registered queries, each with the object that was written in place of all of its class
abbrev pub looks_of_write : Known → List ℕ → ℕ
looks_of_write k name =
    option_map_or
    (λ o. write_reads k.world.history.catalog (map (λ r. r.query) k.live) k.now o.class)
    (object_of k.world.history.catalog name) 0

-- ---- an index

-- a command that writes to the object of a name
abbrev pub writes_to : List ℕ → CommandTree → Bool
writes_to o (Tree.Insert class name place sets) = bytes_eq o name
writes_to o (Tree.Update name place sets) = bytes_eq o name
writes_to o (Tree.Remove name) = bytes_eq o name
writes_to o _ = false

-- an entry past so many writes to it; all have where there are none before
abbrev pub is_written_since : List Accepted → ℕ → List ℕ → Bool
is_written_since journal seen name = (seen == 0) || list_any (λ e. writes_to name e.1) (drop seen journal)

-- An object may have to be looked at anew: it was written since the last `range` of the index, or there was none.
abbrev pub is_stale : List Accepted → IndexEntry → ℕ → Bool
is_stale journal e id = is_written_since journal e.seen (name_of (world journal).history.catalog id)

abbrev pub stale_objects : List Accepted → IndexEntry → List ℕ
stale_objects journal e = filter (is_stale journal e) (ids_of (world journal).history.catalog e.grid.class)

-- one for each of these, and one for each candidate
abbrev pub looks_in_range : List Accepted → ℕ → (least greatest : ℤ) → IndexEntry → ℕ
looks_in_range journal span least greatest e =
    length (stale_objects journal e)
    + length (candidates (recorded (writes journal)) e.grid least greatest (clock journal) (clock journal + span))

-- ---- all commands

-- A query that is asked or registered may look at stored motions, and so may a write, by what is known after it, and a
-- `nearest` and a `range`. A `save` reads each entry, and an `export` looks at each object of the class. Nothing else does, but for an `import`.
abbrev pub most_looks : Held → CommandTree → ℕ
most_looks h (Tree.Ask span q) = most_reads (known h.journal).world span q
most_looks h (Tree.Nearest span k object class) = looks_near (world h.journal).history.catalog class
most_looks h (Tree.Range span class attribute least greatest) =
    option_map_or (looks_in_range h.journal span least greatest)
    (index_named (world h.journal).history.catalog h.indexes class attribute) 0
most_looks h (Tree.Must error span q) = most_reads (known h.journal).world span q
most_looks h (Tree.May error span q) = most_reads (known h.journal).world span q
most_looks h (Tree.Watch name span q) = most_reads (known h.journal).world span q
most_looks h (Tree.Keep name span q) = most_reads (known h.journal).world span q
most_looks h (Tree.Insert class name place sets) = looks_of_write (known (held_after h (Tree.Insert class name place sets)).journal) name
most_looks h (Tree.Update name place sets) = looks_of_write (known (held_after h (Tree.Update name place sets)).journal) name
most_looks h (Tree.Remove name) = looks_of_write (known (held_after h (Tree.Remove name)).journal) name
most_looks h (Tree.Save file) = length h.journal
most_looks h (Tree.Export class file) = length (objects_of_class (world h.journal).history.catalog class)
most_looks h _ = 0

-- ---- With the texts of the shelf

-- those of rows: each row's in the journal after the rows before it
abbrev pub looks_of_rows : List ℕ → List Accepted → List ObjectRow → ℕ
looks_of_rows class journal [] = 0
looks_of_rows class journal (row ∷ rows) =
    let c = row_command journal class row in
    most_looks (held journal) c + looks_of_rows class (with_entry journal c) rows

abbrev pub looks_of : Base → CommandTree → ℕ
looks_of b (Tree.Import class file) = option_map_or (looks_of_rows class b.held.journal) (rows_imported b class file) 0
looks_of b c = most_looks b.held c
