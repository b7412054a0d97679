-- The twenty refusals of a line, each with when it holds. A line is refused by the first that holds, in the order of their
-- numbers; others may hold beside it. A refusal never holds of a command that has no row of its own below.
use Rattle.std.specs.Prelude.{ℕ, ◌+◌, Bool, false, not, ◌||◌, ◌&&◌, is_none, is_some, nat_le, nat_lt, Option, List, [], ◌∷◌, length, map}
use Rattle.std.specs.Option.{option_map_or}
use Rattle.tick_set.specs.declared.spans.TheConstants.{LAST_TICK}
use Rattle.geometry.specs.Polygon.{is_convex}
use Rattle.geometry.specs.Region.{region_number}
use Rattle.polygon.specs.declared.named.TheConstants.{REGION_LIMIT}
use Rattle.motion.specs.declared.cell.NamedSet.{NamedSet}
use Rattle.motion.specs.declared.cell.Place.{Place}
use Rattle.history.specs.Catalog.{Catalog, ClassInfo, attributes_of_class, class_of, number_of_class, object_of, with_coordinates}
use Rattle.formula.specs.declared.limits.TheConstants.{QUERY_LIMIT}
use Rattle.kept_rows.specs.declared.binding.TheConstants.{BINDING_LIMIT}
use Rattle.object_store.specs.declared.schema.TheConstants.{CLASS_LIMIT}
use Rattle.object_store.specs.Faults.{class_of_object, has_misfit, has_unknown, is_elsewhere, is_misplaced, is_past_capacity, repeats_attribute, repeats_set}
use Rattle.ftl_typer.specs.declared.found.FaultKind.TheVariants as kinds
use Rattle.command_text.specs.declared.reading.TheConstants.{LINE_LIMIT}
use Rattle.command_text.specs.declared.refusal.Refusal.{Refusal}
use Rattle.command_text.specs.declared.refusal.Refusal.TheVariants as refusals
use Rattle.command_text.specs.Journal.{Accepted, bytes_of, clock, is_kept, spelled}
use Rattle.command_text.specs.Line.{command_in, has_bad_token, has_large_size, has_other_byte, has_unfit_number, is_no_command, is_too_long}
use Rattle.command_text.specs.Text.{text_of}
use Rattle.command_text.specs.Tree
use Rattle.command_text.specs.Tree.{CommandTree}
use Rattle.line_meaning.specs.Ask.{bindings_asked, has_fault, is_past_span}
use Rattle.line_meaning.specs.Blurred.{has_not_or_circle, is_blurred_crowded, is_blurred_past}
use Rattle.line_meaning.specs.Fault.{is_present, passes_limits}
use Rattle.line_meaning.specs.Indexed.{column, index_named, is_index_crowded, is_index_past, is_lasting, is_past_index, varies}
use Rattle.line_meaning.specs.Journal.{attribute_of, world}
use Rattle.line_meaning.specs.Near.{is_near_crowded, is_near_past, is_near_placeless, is_near_unknown}
use Rattle.line_meaning.specs.QueryFault.{passes_bindings}
use Rattle.line_meaning.specs.Registry.{Known, is_registered, known}
use Rattle.line_meaning.specs.Step.{Base, Held, journal_after_import}

abbrev pub catalog_in : Known → Catalog
catalog_in k = k.world.history.catalog

abbrev pub known_catalog : Held → Catalog
known_catalog h = (world h.journal).history.catalog

-- ---- 7: a class, region, object, attribute, variable or registered query isn't known

-- the class isn't there, or it hasn't an attribute that is named
abbrev pub lacks_class_or_attribute : Option ClassInfo → List NamedSet → Bool
lacks_class_or_attribute class sets = is_none class || has_unknown (attributes_of_class class) sets

abbrev pub names_unknown : Known → CommandTree → Bool
names_unknown k (Tree.Insert class name place sets) = lacks_class_or_attribute (class_of (catalog_in k) class) sets
names_unknown k (Tree.Update name place sets) = lacks_class_or_attribute (class_of_object (catalog_in k) name) sets
names_unknown k (Tree.Remove name) = is_none (object_of (catalog_in k) name)
names_unknown k (Tree.Ask span q) = has_fault kinds.UnknownName k.world q
names_unknown k (Tree.Watch name span q) = has_fault kinds.UnknownName k.world q
names_unknown k (Tree.Keep name span q) = has_fault kinds.UnknownName k.world q
names_unknown k (Tree.Show name) = not (is_registered k.live name)
names_unknown k (Tree.Drop name) = not (is_registered k.live name)
names_unknown k (Tree.Nearest span n object class) = is_near_unknown (catalog_in k) object class
names_unknown k (Tree.Must error span q) = has_fault kinds.UnknownName k.world q
names_unknown k (Tree.May error span q) = has_fault kinds.UnknownName k.world q
names_unknown k (Tree.Import class file) = is_none (number_of_class (catalog_in k) class)
names_unknown k (Tree.Export class file) = is_none (number_of_class (catalog_in k) class)
names_unknown k _ = false

-- the class isn't there, or it hasn't the attribute, or an index of that is asked for and isn't there
abbrev pub lacks_index : Held → CommandTree → Bool
lacks_index h (Tree.Index class attribute width) = is_none (column (known_catalog h) class attribute)
lacks_index h (Tree.Range span class attribute least greatest) = is_none (index_named (known_catalog h) h.indexes class attribute)
lacks_index h _ = false

-- ---- 8: the name is taken, or names that must differ are alike

abbrev pub has_taken_name : Known → CommandTree → Bool
has_taken_name k (Tree.Class name capacity point attributes) =
    is_some (class_of (catalog_in k) name) || repeats_attribute (with_coordinates point (map attribute_of attributes))
has_taken_name k (Tree.Region name points) = is_some (region_number k.world.regions name)
has_taken_name k (Tree.Insert class name place sets) = is_elsewhere (catalog_in k) class name || repeats_set place sets
has_taken_name k (Tree.Update name place sets) = repeats_set place sets
has_taken_name k (Tree.Ask span q) = has_fault kinds.NameTaken k.world q
has_taken_name k (Tree.Watch name span q) = has_fault kinds.NameTaken k.world q || is_registered k.live name
has_taken_name k (Tree.Keep name span q) = has_fault kinds.NameTaken k.world q || is_registered k.live name
has_taken_name k (Tree.Must error span q) = has_fault kinds.NameTaken k.world q
has_taken_name k (Tree.May error span q) = has_fault kinds.NameTaken k.world q
has_taken_name k _ = false

-- an attribute has an index that hasn't ended
abbrev pub has_index : Held → CommandTree → Bool
has_index h (Tree.Index class attribute width) =
    option_map_or (is_lasting h.indexes (clock h.journal)) (column (known_catalog h) class attribute) false
has_index h _ = false

-- ---- 9: a name or a value is of a kind that its place doesn't take, or a formula is

-- a place is written of a class without positions, or an attribute is given what it doesn't take
abbrev pub misfits : Option ClassInfo → Place → List NamedSet → Bool
misfits class place sets = is_misplaced class place || has_misfit (attributes_of_class class) sets

abbrev pub is_of_wrong_kind : Known → CommandTree → Bool
is_of_wrong_kind k (Tree.Insert class name place sets) = misfits (class_of (catalog_in k) class) place sets
is_of_wrong_kind k (Tree.Update name place sets) = misfits (class_of_object (catalog_in k) name) place sets
is_of_wrong_kind k (Tree.Ask span q) = has_fault kinds.WrongKind k.world q
is_of_wrong_kind k (Tree.Watch name span q) = has_fault kinds.WrongKind k.world q
is_of_wrong_kind k (Tree.Keep name span q) = has_fault kinds.WrongKind k.world q
is_of_wrong_kind k (Tree.Nearest span n object class) = is_near_placeless (catalog_in k) object class
is_of_wrong_kind k (Tree.Must error span q) = has_fault kinds.WrongKind k.world q || has_not_or_circle q.formula
is_of_wrong_kind k (Tree.May error span q) = has_fault kinds.WrongKind k.world q || has_not_or_circle q.formula
is_of_wrong_kind k _ = false

-- an index is asked for of an attribute whose values are no functions of time
abbrev pub is_on_constants : Held → CommandTree → Bool
is_on_constants h (Tree.Index class attribute width) =
    option_map_or (λ found. not (varies (known_catalog h).classes found)) (column (known_catalog h) class attribute) false
is_on_constants h _ = false

-- ---- 10: the points are no convex polygon

abbrev pub is_not_convex : CommandTree → Bool
is_not_convex (Tree.Region name points) = not (is_convex points)
is_not_convex _ = false

-- ---- 11: a term may pass 10^18 thousandths

abbrev pub passes_bound : Known → CommandTree → Bool
passes_bound k (Tree.Ask span q) = has_fault kinds.TermRange k.world q
passes_bound k (Tree.Watch name span q) = has_fault kinds.TermRange k.world q
passes_bound k (Tree.Keep name span q) = has_fault kinds.TermRange k.world q
passes_bound k (Tree.Must error span q) = has_fault kinds.TermRange k.world q
passes_bound k (Tree.May error span q) = has_fault kinds.TermRange k.world q
passes_bound k _ = false

-- ---- 12: the span passes its limit, or reaches past the last tick of all or of an index

abbrev pub passes_span : Known → CommandTree → Bool
passes_span k (Tree.Ask span q) = is_past_span k.now span q.formula
passes_span k (Tree.Watch name span q) = is_past_span k.now span q.formula
passes_span k (Tree.Keep name span q) = is_past_span k.now span q.formula
passes_span k (Tree.Nearest span n object class) = is_near_past k.now span
passes_span k (Tree.Must error span q) = is_blurred_past k.now span
passes_span k (Tree.May error span q) = is_blurred_past k.now span
passes_span k _ = false

abbrev pub passes_index : Held → CommandTree → Bool
passes_index h (Tree.Index class attribute width) = is_index_past (clock h.journal)
passes_index h (Tree.Range span class attribute least greatest) =
    option_map_or (is_past_index (clock h.journal) span) (index_named (known_catalog h) h.indexes class attribute) false
passes_index h _ = false

-- ---- 13: the clock would pass the last tick

abbrev pub passes_clock : Known → CommandTree → Bool
passes_clock k (Tree.Tick ticks) = nat_lt LAST_TICK (k.now + ticks)
passes_clock k _ = false

-- ---- 14: an insert of a present object, or an update or removal of one that isn't present

-- whether the object of a name is present now
abbrev pub is_present_now : Known → List ℕ → Bool
is_present_now k name = is_present k.world.history name k.now

abbrev pub has_wrong_presence : Known → CommandTree → Bool
has_wrong_presence k (Tree.Insert class name place sets) = is_present_now k name
has_wrong_presence k (Tree.Update name place sets) = not (is_present_now k name)
has_wrong_presence k (Tree.Remove name) = not (is_present_now k name)
has_wrong_presence k _ = false

-- ---- 15: a new name for a class that has had as many names as its capacity

abbrev pub passes_capacity : Known → CommandTree → Bool
passes_capacity k (Tree.Insert class name place sets) = is_past_capacity (catalog_in k) class name
passes_capacity k _ = false

-- ---- 16: there is no room for one more class, region, registered query or index

abbrev pub is_limit_reached : Known → CommandTree → Bool
is_limit_reached k (Tree.Class name capacity point attributes) = nat_le CLASS_LIMIT (length (catalog_in k).classes)
is_limit_reached k (Tree.Region name points) = nat_le REGION_LIMIT (length k.world.regions)
is_limit_reached k (Tree.Watch name span q) = nat_le QUERY_LIMIT (length k.live)
is_limit_reached k (Tree.Keep name span q) = nat_le QUERY_LIMIT (length k.live)
is_limit_reached k _ = false

abbrev pub has_many_indexes : Held → CommandTree → Bool
has_many_indexes h (Tree.Index class attribute width) =
    option_map_or (is_index_crowded h.indexes) (column (known_catalog h) class attribute) false
has_many_indexes h _ = false

-- ---- 17: the classes of the query have too many objects, by themselves or beside those of the registered ones

abbrev pub has_many_bindings : Known → CommandTree → Bool
has_many_bindings k (Tree.Ask span q) = nat_lt BINDING_LIMIT (bindings_asked k.world q)
has_many_bindings k (Tree.Watch name span q) = passes_bindings k (bindings_asked k.world q)
has_many_bindings k (Tree.Keep name span q) = passes_bindings k (bindings_asked k.world q)
has_many_bindings k (Tree.Nearest span n object class) = is_near_crowded (catalog_in k) class
has_many_bindings k (Tree.Must error span q) = is_blurred_crowded k.world q
has_many_bindings k (Tree.May error span q) = is_blurred_crowded k.world q
has_many_bindings k _ = false

-- ---- 18: the journal has no room for the command

abbrev pub passes_journal : List Accepted → CommandTree → Bool
passes_journal journal c = is_kept c && passes_limits (length journal) (bytes_of journal) (length (text_of c))

-- ---- 19: the shelf has no text of that name

abbrev pub lacks_text : Base → CommandTree → Bool
lacks_text b (Tree.Import class file) = is_none (b.texts file)
lacks_text b _ = false

-- ---- 20: the text isn't of the form, or the command of one of its rows would be refused after those before it

abbrev pub has_bad_text : Base → CommandTree → Bool
has_bad_text b (Tree.Import class file) = is_none (journal_after_import b class file)
has_bad_text b _ = false

-- ---- All of them

-- whether a refusal holds of a line
abbrev pub refuses : Base → List ℕ → Refusal → Bool
refuses b line refusals.LineTooLong = is_too_long LINE_LIMIT line
refuses b line refusals.NotAscii = has_other_byte line
refuses b line refusals.BadToken = has_bad_token line
refuses b line refusals.BadSyntax = is_no_command (command_in line)
refuses b line refusals.NumberRange = has_unfit_number (command_in line)
refuses b line refusals.TooLarge = has_large_size (command_in line)
refuses b line refusals.UnknownName = lacks_index b.held (spelled line) || names_unknown (known b.held.journal) (spelled line)
refuses b line refusals.NameTaken = has_index b.held (spelled line) || has_taken_name (known b.held.journal) (spelled line)
refuses b line refusals.WrongKind = is_on_constants b.held (spelled line) || is_of_wrong_kind (known b.held.journal) (spelled line)
refuses b line refusals.NotConvex = is_not_convex (spelled line)
refuses b line refusals.TermRange = passes_bound (known b.held.journal) (spelled line)
refuses b line refusals.SpanRange = passes_index b.held (spelled line) || passes_span (known b.held.journal) (spelled line)
refuses b line refusals.ClockEnd = passes_clock (known b.held.journal) (spelled line)
refuses b line refusals.Presence = has_wrong_presence (known b.held.journal) (spelled line)
refuses b line refusals.ClassFull = passes_capacity (known b.held.journal) (spelled line)
refuses b line refusals.StoreFull = has_many_indexes b.held (spelled line) || is_limit_reached (known b.held.journal) (spelled line)
refuses b line refusals.BindingLimit = has_many_bindings (known b.held.journal) (spelled line)
refuses b line refusals.JournalFull = passes_journal b.held.journal (spelled line)
refuses b line refusals.NoFile = lacks_text b (spelled line)
refuses b line refusals.BadFile = has_bad_text b (spelled line)

-- in the order of their numbers
abbrev pub all_refusals : List Refusal
all_refusals =
    refusals.LineTooLong
    ∷ refusals.NotAscii
    ∷ refusals.BadToken
    ∷ refusals.BadSyntax
    ∷ refusals.NumberRange
    ∷ refusals.TooLarge
    ∷ refusals.UnknownName
    ∷ refusals.NameTaken
    ∷ refusals.WrongKind
    ∷ refusals.NotConvex
    ∷ refusals.TermRange
    ∷ refusals.SpanRange
    ∷ refusals.ClockEnd
    ∷ refusals.Presence
    ∷ refusals.ClassFull
    ∷ refusals.StoreFull
    ∷ refusals.BindingLimit
    ∷ refusals.JournalFull
    ∷ refusals.NoFile
    ∷ refusals.BadFile
    ∷ []
