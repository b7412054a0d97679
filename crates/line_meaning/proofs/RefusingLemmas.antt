-- A line is refused by the first of the twenty refusals that holds of it.
use Rattle.std.proofs.Common.{◌≡◌, ℕ, ◌-◌, Bool, true, false, not, ◌||◌, ◌&&◌, cond, Option, None, Some, List, [], ◌∷◌, ◌++◌, refl, sym, ap, ◌∙◌, if◌then◌else◌}
use Rattle.std.specs.Prelude.{find, map, option_and_then, slice_get}
use Rattle.std.proofs.lemmas.Bool.{false≢true}
use Rattle.exact.specs.First.{first_that_holds, or_else}
use Rattle.object_store.specs.declared.fault.StoreFault.TheVariants as store_faults
use Rattle.command_text.specs.declared.reading.TheConstants.{LINE_LIMIT}
use Rattle.command_text.specs.declared.refusal.Refusal.{Refusal}
use Rattle.command_text.specs.declared.refusal.Refusal.TheVariants as refusals
use Rattle.command_text.specs.Refusals.{refusal_number}
use Rattle.command_text.specs.Journal.{spelled}
use Rattle.command_text.specs.Line.{command_in, early, early_refusal, has_large_size, has_unfit_number, is_no_command, late_refusal}
use Rattle.command_text.specs.Tree
use Rattle.command_text.specs.Tree.{CommandTree}
use Rattle.line_meaning.specs.Fault.{refusal_by_store}
use Rattle.line_meaning.specs.Judging.{fault_by, fault_of, line_refusal}
use Rattle.line_meaning.specs.Refusing.{all_refusals, has_bad_text, has_index, has_many_bindings, has_many_indexes, has_wrong_presence, is_limit_reached, is_not_convex, is_of_wrong_kind, is_on_constants, lacks_index, lacks_text, names_unknown, passes_bound, passes_capacity, passes_clock, passes_index, passes_journal, passes_span, refuses, has_taken_name}
use Rattle.line_meaning.specs.Registry.{Known, known}
use Rattle.line_meaning.specs.Role.{role_of}
use Rattle.line_meaning.specs.Step.{Base, file_refusal, refusal_of}
use Rattle.line_meaning.proofs.CallerLemmas.{or_none}

-- ---- The first of some conditions

abbrev Rows : Type 0
Rows = List (Refusal × Bool)

-- the first of some, or else of others, is the first of all
joined : (first other : Rows) → or_else (first_that_holds first) (first_that_holds other) ≡ first_that_holds (first ++ other)
joined [] other = refl
joined ((r, true) ∷ first) other = refl
joined ((r, false) ∷ first) other = joined first other

one_row : (r : Refusal) (holds : Bool) (found : Option Refusal) (rows : Rows) → found ≡ first_that_holds rows →
    cond holds (Some r) found ≡ first_that_holds ((r, holds) ∷ rows)
one_row r true found rows same = refl
one_row r false found rows same = same

found_is : (test : Refusal → Bool) (rs : List Refusal) → find test rs ≡ first_that_holds (map (λ r. (r, test r)) rs)
found_is test [] = refl
found_is test (r ∷ rs) = one_row r (test r) (find test rs) (map (λ s. (s, test s)) rs) (found_is test rs)

or_or : (a b c : Option Refusal) → or_else (or_else a b) c ≡ or_else a (or_else b c)
or_or None b c = refl
or_or (Some r) b c = refl

-- ---- The refusals of a command

-- those from the seventh on, each with whether it holds of a command
abbrev later : Base → CommandTree → Rows
later b c =
    let k = known b.held.journal in
    (refusals.UnknownName, lacks_index b.held c || names_unknown k c)
    ∷ (refusals.NameTaken, has_index b.held c || has_taken_name k c)
    ∷ (refusals.WrongKind, is_on_constants b.held c || is_of_wrong_kind k c)
    ∷ (refusals.NotConvex, is_not_convex c)
    ∷ (refusals.TermRange, passes_bound k c)
    ∷ (refusals.SpanRange, passes_index b.held c || passes_span k c)
    ∷ (refusals.ClockEnd, passes_clock k c)
    ∷ (refusals.Presence, has_wrong_presence k c)
    ∷ (refusals.ClassFull, passes_capacity k c)
    ∷ (refusals.StoreFull, has_many_indexes b.held c || is_limit_reached k c)
    ∷ (refusals.BindingLimit, has_many_bindings k c)
    ∷ (refusals.JournalFull, passes_journal b.held.journal c)
    ∷ (refusals.NoFile, lacks_text b c)
    ∷ (refusals.BadFile, has_bad_text b c)
    ∷ []

-- the rows of a writing command that the store judges
abbrev store_rows : (unknown taken wrong presence past full : Bool) → Rows
store_rows unknown taken wrong presence past full =
    (refusals.UnknownName, unknown)
    ∷ (refusals.NameTaken, taken)
    ∷ (refusals.WrongKind, wrong)
    ∷ (refusals.Presence, presence)
    ∷ (refusals.ClassFull, past)
    ∷ (refusals.StoreFull, full)
    ∷ []

by_store : (unknown taken wrong presence past full : Bool) →
    option_and_then refusal_by_store
    (first_that_holds
    ((store_faults.UnknownName, unknown)
    ∷ (store_faults.NameTaken, taken)
    ∷ (store_faults.WrongKind, wrong)
    ∷ (store_faults.Presence, presence)
    ∷ (store_faults.ClassFull, past)
    ∷ (store_faults.StoreFull, full)
    ∷ []))
    ≡ first_that_holds (store_rows unknown taken wrong presence past full)
by_store true taken wrong presence past full = refl
by_store false true wrong presence past full = refl
by_store false false true presence past full = refl
by_store false false false true past full = refl
by_store false false false false true full = refl
by_store false false false false false true = refl
by_store false false false false false false = refl

-- those of a command that registers a query
abbrev query_rows : Known → CommandTree → Rows
query_rows k c =
    (refusals.UnknownName, names_unknown k c)
    ∷ (refusals.NameTaken, has_taken_name k c)
    ∷ (refusals.WrongKind, is_of_wrong_kind k c)
    ∷ (refusals.TermRange, passes_bound k c)
    ∷ (refusals.SpanRange, passes_span k c)
    ∷ (refusals.StoreFull, is_limit_reached k c)
    ∷ (refusals.BindingLimit, has_many_bindings k c)
    ∷ []

-- of a kept command: what refuses it itself, and then the journal
kept_row : (first : Option Refusal) (rows : Rows) (full : Bool) → first ≡ first_that_holds rows →
    or_else (or_else first (first_that_holds ((refusals.JournalFull, full) ∷ []))) None
    ≡ first_that_holds (rows ++ (refusals.JournalFull, full) ∷ [])
kept_row first rows full same =
    or_none (or_else first (first_that_holds ((refusals.JournalFull, full) ∷ [])))
    ∙ ap (λ (o : Option Refusal). or_else o (first_that_holds ((refusals.JournalFull, full) ∷ []))) same
    ∙ joined rows ((refusals.JournalFull, full) ∷ [])

-- of a command that isn't kept
told_row : (first : Option Refusal) → or_else (or_else first None) None ≡ first
told_row first = or_none (or_else first None) ∙ or_none first

-- of a command on indexes
by_index : (unknown taken wrong past full : Bool) →
    or_else
    (first_that_holds
    ((refusals.UnknownName, unknown)
    ∷ (refusals.NameTaken, taken)
    ∷ (refusals.WrongKind, wrong)
    ∷ (refusals.SpanRange, past)
    ∷ (refusals.StoreFull, full)
    ∷ []))
    None
    ≡ first_that_holds
    ((refusals.UnknownName, unknown || false)
    ∷ (refusals.NameTaken, taken || false)
    ∷ (refusals.WrongKind, wrong || false)
    ∷ (refusals.SpanRange, past || false)
    ∷ (refusals.StoreFull, full || false)
    ∷ [])
by_index true taken wrong past full = refl
by_index false true wrong past full = refl
by_index false false true past full = refl
by_index false false false true full = refl
by_index false false false false true = refl
by_index false false false false false = refl

-- what a command is refused by is the first of these
by_command : (b : Base) (c : CommandTree) → or_else (fault_by (role_of c) b.held c) (file_refusal b c) ≡ first_that_holds (later b c)
by_command b Tree.Nothing = refl
by_command b Tree.Listing = refl
by_command b Tree.Quit = refl
by_command b (Tree.Save file) = refl
by_command b (Tree.Class name capacity point attributes) =
    let c = Tree.Class name capacity point attributes in
    let k = known b.held.journal in
    kept_row _ (store_rows false (has_taken_name k c) false false false (is_limit_reached k c)) (passes_journal b.held.journal c)
    (or_none _ ∙ by_store false (has_taken_name k c) false false false (is_limit_reached k c))
by_command b (Tree.Region name points) =
    let c = Tree.Region name points in
    let k = known b.held.journal in
    kept_row _ ((refusals.NameTaken, has_taken_name k c) ∷ (refusals.NotConvex, is_not_convex c) ∷ (refusals.StoreFull, is_limit_reached k c) ∷ [])
    (passes_journal b.held.journal c) (or_none _)
by_command b (Tree.Insert class name place sets) =
    let c = Tree.Insert class name place sets in
    let k = known b.held.journal in
    kept_row _ (store_rows (names_unknown k c) (has_taken_name k c) (is_of_wrong_kind k c) (has_wrong_presence k c) (passes_capacity k c) false)
    (passes_journal b.held.journal c)
    (or_none _ ∙ by_store (names_unknown k c) (has_taken_name k c) (is_of_wrong_kind k c) (has_wrong_presence k c) (passes_capacity k c) false)
by_command b (Tree.Update name place sets) =
    let c = Tree.Update name place sets in
    let k = known b.held.journal in
    kept_row _ (store_rows (names_unknown k c) (has_taken_name k c) (is_of_wrong_kind k c) (has_wrong_presence k c) false false)
    (passes_journal b.held.journal c)
    (or_none _ ∙ by_store (names_unknown k c) (has_taken_name k c) (is_of_wrong_kind k c) (has_wrong_presence k c) false false)
by_command b (Tree.Remove name) =
    let c = Tree.Remove name in
    let k = known b.held.journal in
    kept_row _ (store_rows (names_unknown k c) false false (has_wrong_presence k c) false false) (passes_journal b.held.journal c)
    (or_none _ ∙ by_store (names_unknown k c) false false (has_wrong_presence k c) false false)
by_command b (Tree.Tick ticks) =
    let c = Tree.Tick ticks in
    kept_row _ ((refusals.ClockEnd, passes_clock (known b.held.journal) c) ∷ []) (passes_journal b.held.journal c) (or_none _)
by_command b (Tree.Ask span q) = told_row _ ∙ or_none _
by_command b (Tree.Watch name span q) =
    let c = Tree.Watch name span q in
    kept_row _ (query_rows (known b.held.journal) c) (passes_journal b.held.journal c) refl
by_command b (Tree.Keep name span q) =
    let c = Tree.Keep name span q in
    kept_row _ (query_rows (known b.held.journal) c) (passes_journal b.held.journal c) refl
by_command b (Tree.Show name) = told_row _
by_command b (Tree.Drop name) =
    let c = Tree.Drop name in
    kept_row _ ((refusals.UnknownName, names_unknown (known b.held.journal) c) ∷ []) (passes_journal b.held.journal c) refl
by_command b (Tree.Import class file) =
    let c = Tree.Import class file in
    ap (λ (o : Option Refusal). or_else o (file_refusal b c)) (told_row _)
    ∙ joined ((refusals.UnknownName, names_unknown (known b.held.journal) c) ∷ [])
    ((refusals.NoFile, lacks_text b c) ∷ (refusals.BadFile, has_bad_text b c) ∷ [])
by_command b (Tree.Export class file) = told_row _ ∙ or_none _
by_command b (Tree.Nearest span k object class) = told_row _ ∙ or_none _
by_command b (Tree.Must error span q) = told_row _ ∙ or_none _
by_command b (Tree.May error span q) = told_row _ ∙ or_none _
by_command b (Tree.Index class attribute width) =
    let c = Tree.Index class attribute width in
    by_index (lacks_index b.held c) (has_index b.held c) (is_on_constants b.held c) (passes_index b.held c) (has_many_indexes b.held c)
by_command b (Tree.Range span class attribute least greatest) =
    let c = Tree.Range span class attribute least greatest in
    by_index (lacks_index b.held c) false false (passes_index b.held c) false

-- ---- The refusals of a line

-- from the fourth refusal on, by whether the tokens are no command, and a number or a size is out of range
from_syntax : (none unfit large : Bool) (rest : Option Refusal) (rows : Rows) → rest ≡ first_that_holds rows →
    or_else (first_that_holds ((refusals.BadSyntax, none) ∷ (refusals.NumberRange, unfit) ∷ (refusals.TooLarge, large) ∷ [])) rest
    ≡ first_that_holds ((refusals.BadSyntax, none) ∷ (refusals.NumberRange, unfit) ∷ (refusals.TooLarge, large) ∷ rows)
from_syntax true unfit large rest rows same = refl
from_syntax false true large rest rows same = refl
from_syntax false false true rest rows same = refl
from_syntax false false false rest rows same = same

pub first_refuses : (b : Base) (line : List ℕ) → refusal_of b line ≡ find (refuses b line) all_refusals
unfolding line_refusal
first_refuses b line =
    let c : CommandTree = spelled line in
    let found = command_in line in
    let first : Option Refusal = early_refusal LINE_LIMIT line in
    let fault : Option Refusal = fault_of b.held c in
    ap (λ (o : Option Refusal). or_else o (file_refusal b c)) (or_or first (late_refusal found) fault)
    ∙ or_or first (or_else (late_refusal found) fault) (file_refusal b c)
    ∙ ap (or_else first) (or_or (late_refusal found) fault (file_refusal b c)
    ∙ from_syntax (is_no_command found) (has_unfit_number found) (has_large_size found)
    (or_else (fault_by (role_of c) b.held c) (file_refusal b c)) (later b c) (by_command b c))
    ∙ joined (early LINE_LIMIT line)
    ((refusals.BadSyntax, is_no_command found)
    ∷ (refusals.NumberRange, has_unfit_number found)
    ∷ (refusals.TooLarge, has_large_size found)
    ∷ later b c)
    ∙ sym (found_is (refuses b line) all_refusals)

-- ---- Each refusal has its place

pub each_in_its_place : (r : Refusal) → slice_get all_refusals (refusal_number r - 1) ≡ Some r
each_in_its_place refusals.LineTooLong = refl
each_in_its_place refusals.NotAscii = refl
each_in_its_place refusals.BadToken = refl
each_in_its_place refusals.BadSyntax = refl
each_in_its_place refusals.NumberRange = refl
each_in_its_place refusals.TooLarge = refl
each_in_its_place refusals.UnknownName = refl
each_in_its_place refusals.NameTaken = refl
each_in_its_place refusals.WrongKind = refl
each_in_its_place refusals.NotConvex = refl
each_in_its_place refusals.TermRange = refl
each_in_its_place refusals.SpanRange = refl
each_in_its_place refusals.ClockEnd = refl
each_in_its_place refusals.Presence = refl
each_in_its_place refusals.ClassFull = refl
each_in_its_place refusals.StoreFull = refl
each_in_its_place refusals.BindingLimit = refl
each_in_its_place refusals.JournalFull = refl
each_in_its_place refusals.NoFile = refl
each_in_its_place refusals.BadFile = refl
