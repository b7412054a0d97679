-- What a command is answered before its `ok`.
use Rattle.std.specs.Prelude.{ℕ, true, false, List, []}
use Rattle.std.specs.List.{flat_map}
use Rattle.std.specs.Option.{option_map_or}
use Rattle.history.specs.World.{World}
use Rattle.formula.specs.declared.kind.QueryKind.TheVariants as kinds
use Rattle.command_text.specs.Tree
use Rattle.command_text.specs.Tree.{CommandTree}
use Rattle.line_meaning.specs.Ask.{rows_asked}
use Rattle.line_meaning.specs.Blurred.{rows_blurred}
use Rattle.line_meaning.specs.Indexed.{rows_ranged}
use Rattle.line_meaning.specs.Changes.{answer_text, tick_lines, write_lines}
use Rattle.line_meaning.specs.Near.{rows_near}
use Rattle.line_meaning.specs.Registry.{Known, registration, registration_named}
use Rattle.line_meaning.specs.Reply.{listing, registration_line, rows_text}

-- the lines of a command that changes no object, by what a query may ask of and the clock
abbrev pub answer_lines : World → ℕ → CommandTree → List ℕ
answer_lines w now Tree.Listing = listing now w.history.catalog w.regions
answer_lines w now (Tree.Ask span q) = rows_text w.history.catalog now (rows_asked w now span q)
answer_lines w now (Tree.Nearest span k object class) = rows_text w.history.catalog now (rows_near w now span k object class)
answer_lines w now (Tree.Must error span q) = rows_text w.history.catalog now (rows_blurred true w now span error q)
answer_lines w now (Tree.May error span q) = rows_text w.history.catalog now (rows_blurred false w now span error q)
answer_lines w now (Tree.Range span class attribute least greatest) =
    rows_text w.history.catalog now (rows_ranged w now span class attribute least greatest)
answer_lines w now _ = []

-- the lines that tell of registered queries; in a `list` they come after the others
abbrev pub query_lines : Known → CommandTree → List ℕ
query_lines k Tree.Listing = flat_map registration_line k.live
query_lines k (Tree.Show name) = option_map_or (answer_text k.world k.now) (registration_named k.live name) []
query_lines k _ = []

-- the lines of a command that the journal keeps, by what is known before and after it: the answer of a query that is
-- registered, and what changes for those that were
abbrev pub kept_lines : Known → Known → CommandTree → List ℕ
kept_lines old new (Tree.Watch name span q) = answer_text old.world old.now (registration kinds.Watch old.world old.now name span q)
kept_lines old new (Tree.Keep name span q) = answer_text old.world old.now (registration kinds.Keep old.world old.now name span q)
kept_lines old new (Tree.Insert class name place sets) = write_lines old.world new.world old.now old.live
kept_lines old new (Tree.Update name place sets) = write_lines old.world new.world old.now old.live
kept_lines old new (Tree.Remove name) = write_lines old.world new.world old.now old.live
kept_lines old new (Tree.Tick ticks) = tick_lines old.world old.now new.now old.live
kept_lines old new _ = []
