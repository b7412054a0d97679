-- The indexes of a session: what refuses an `index` and a `range`, what they make of the indexes, and the rows that answer a
-- `range`.
use Rattle.std.specs.Prelude.{ℕ, ◌+◌, ◌*◌, ◌-◌, ◌==◌, nat_le, nat_lt, ℤ, Bool, false, ◌&&◌, not, Option, None, is_none, is_some, option_and_then, option_map, List, [], ◌∷◌, ◌++◌, length, set, slice_get}
use Rattle.std.specs.List.{find, position}
use Rattle.std.specs.Option.{option_map_or}
use Rattle.std.specs.Str.{bytes_eq}
use Rattle.exact.specs.First.{first_that_holds}
use Rattle.tick_set.specs.declared.spans.TheConstants.{LAST_TICK}
use Rattle.history.specs.Catalog.{Catalog, ClassInfo, number_of_class}
use Rattle.history.specs.World.{World}
use Rattle.meaning.specs.Answer.{Row, answer}
use Rattle.plane.specs.Boxes.{Grid, last_covered}
use Rattle.plane.specs.Rows.{range_query}
use Rattle.plane.specs.declared.limits.TheConstants.{SLICES, SLICE_TICKS}
use Rattle.command_text.specs.declared.refusal.Refusal.{Refusal}
use Rattle.command_text.specs.declared.refusal.Refusal.TheVariants as refusals
use Rattle.command_text.specs.Tree
use Rattle.command_text.specs.Tree.{CommandTree}
use Rattle.line_meaning.specs.declared.limits.TheConstants.{INDEX_LIMIT}
use Rattle.object_rows.specs.Columns.{is_dynamic}

-- An index that a session has: what it is of, and how many entries the journal had at the last `range` that it answered, 0
-- before the first. This number says which objects it may have to look at anew; no reply depends on it.
pub record IndexEntry : Type 0 where
  pub grid : Grid
  pub seen : ℕ

-- ---- An attribute of a class, by their numbers

pub record IndexedColumn : Type 0 where
  pub class : ℕ
  pub place : ℕ

abbrev pub attribute_place : List ℕ → ClassInfo → Option ℕ
attribute_place attribute k = position (λ a. bytes_eq attribute a.name) k.attributes

abbrev pub column_in : List ClassInfo → List ℕ → ℕ → Option IndexedColumn
column_in classes attribute number =
    option_map (λ place. record { class = number; place = place }) (option_and_then (attribute_place attribute) (slice_get classes number))

-- None where the class isn't there, or it hasn't the attribute
abbrev pub column : Catalog → (class attribute : List ℕ) → Option IndexedColumn
column c class attribute = option_and_then (column_in c.classes attribute) (number_of_class c class)

-- whether the values of the attribute are functions of time
abbrev pub varies : List ClassInfo → IndexedColumn → Bool
varies classes at =
    option_map_or is_dynamic
    (option_map (λ a. a.kind) (option_and_then (λ k. slice_get k.attributes at.place) (slice_get classes at.class))) false

-- ---- Its index

abbrev pub is_of : IndexedColumn → IndexEntry → Bool
is_of at e = (e.grid.class == at.class) && (e.grid.attribute == at.place)

abbrev pub entry_at_column : List IndexEntry → IndexedColumn → Option IndexEntry
entry_at_column indexes at = find (is_of at) indexes

-- by names
abbrev pub index_named : Catalog → List IndexEntry → (class attribute : List ℕ) → Option IndexEntry
index_named c indexes class attribute = option_and_then (entry_at_column indexes) (column c class attribute)

-- in the place of the one of its attribute, or else last
abbrev pub with_index : List IndexEntry → IndexedColumn → IndexEntry → List IndexEntry
with_index indexes at e = option_map_or (λ place. set indexes place e) (position (is_of at) indexes) (indexes ++ e ∷ [])

-- ---- Refusals

-- there is an index of the attribute that isn't past its last tick
abbrev pub is_lasting : List IndexEntry → ℕ → IndexedColumn → Bool
is_lasting indexes now at = option_map_or (λ e. nat_le now (last_covered e.grid)) (entry_at_column indexes at) false

-- its last tick would be past the last of all
abbrev pub is_index_past : ℕ → Bool
is_index_past now = nat_lt LAST_TICK (now + SLICES * SLICE_TICKS - 1)

-- there is no room for one more, and none of the attribute
abbrev pub is_index_crowded : List IndexEntry → IndexedColumn → Bool
is_index_crowded indexes at = nat_le INDEX_LIMIT (length indexes) && is_none (entry_at_column indexes at)

abbrev pub index_refusal : Catalog → List IndexEntry → ℕ → Option IndexedColumn → Option Refusal
index_refusal c indexes now at = first_that_holds (
    (refusals.UnknownName, is_none at)
    ∷ (refusals.NameTaken, option_map_or (is_lasting indexes now) at false)
    ∷ (refusals.WrongKind, option_map_or (λ found. not (varies c.classes found)) at false)
    ∷ (refusals.SpanRange, is_index_past now)
    ∷ (refusals.StoreFull, option_map_or (is_index_crowded indexes) at false)
    ∷ [])

-- the last tick of the span is past those of the index
abbrev pub is_past_index : (now span : ℕ) → IndexEntry → Bool
is_past_index now span e = nat_lt (last_covered e.grid) (now + span)

abbrev pub range_refusal : (now span : ℕ) → Option IndexEntry → Option Refusal
range_refusal now span index = first_that_holds (
    (refusals.UnknownName, is_none index)
    ∷ (refusals.SpanRange, option_map_or (is_past_index now span) index false)
    ∷ [])

-- the refusals of a command on indexes
abbrev pub index_fault : List IndexEntry → World → ℕ → CommandTree → Option Refusal
index_fault indexes w now (Tree.Index class attribute width) =
    index_refusal w.history.catalog indexes now (column w.history.catalog class attribute)
index_fault indexes w now (Tree.Range span class attribute least greatest) =
    range_refusal now span (index_named w.history.catalog indexes class attribute)
index_fault indexes w now _ = None

-- ---- What they make of the indexes

-- a new one, that has seen no object
abbrev pub new_index : ℕ → ℤ → IndexedColumn → IndexEntry
new_index now width at = record {
  grid = record { class = at.class; attribute = at.place; from = now; width = width };
  seen = 0;
}

-- those after an accepted command, where the journal has so many entries
abbrev pub indexes_after : List IndexEntry → World → (now entries : ℕ) → CommandTree → List IndexEntry
indexes_after indexes w now entries (Tree.Index class attribute width) =
    option_map_or (λ at. with_index indexes at (new_index now width at)) (column w.history.catalog class attribute) indexes
indexes_after indexes w now entries (Tree.Range span class attribute least greatest) =
    option_map_or (λ at. option_map_or (λ e. with_index indexes at (record e { seen = entries })) (entry_at_column indexes at) indexes)
    (column w.history.catalog class attribute) indexes
indexes_after indexes w now entries _ = indexes

-- ---- The answer

-- the rows of what has a value of at least `least` and at most `greatest`, from now to the last tick of the span
abbrev pub rows_ranged : World → (now span : ℕ) → (class attribute : List ℕ) → (least greatest : ℤ) → List Row
rows_ranged w now span class attribute least greatest =
    option_map_or (λ at. answer w (range_query at.class at.place least greatest) now (now + span))
    (column w.history.catalog class attribute) []
