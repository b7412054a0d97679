-- The index of an attribute, by its place among the others.
use Rattle.std.proofs.Common.{◌≡◌, ℕ, ◌<◌, pos, Bool, true, false, ◌&&◌, Option, None, Some, List, [], ◌∷◌, length, map, get_or, refl, sym, ap, subst, ◌∙◌, arith}
use Rattle.std.specs.Prelude.{is_none, is_some, not, nat_le, nat_lt, option_and_then, option_map, slice_get}
use Rattle.std.specs.List.{find, position}
use Rattle.std.specs.Option.{option_map_or}
use Rattle.std.proofs.lemmas.Bool.{false≢true}
use Rattle.std.proofs.lemmas.List.{length-map}
use Rattle.std.proofs.lemmas.List.Quantifiers.{position-Some}
use Rattle.std.proofs.lemmas.Option.{slice_get-get_or, slice_get-map}
use Rattle.exact.specs.First.{first_that_holds}
use Rattle.command_text.specs.declared.refusal.Refusal.{Refusal}
use Rattle.command_text.specs.declared.refusal.Refusal.TheVariants as refusals
use Rattle.history.specs.Catalog.{Catalog, ClassInfo, number_of_class}
use Rattle.object_store.proofs.Lists.{find_is}
use Rattle.line_meaning.specs.declared.limits.TheConstants.{INDEX_LIMIT}
use Rattle.line_meaning.specs.Indexed.{IndexEntry, IndexedColumn, attribute_place, column, column_in, entry_at_column, index_named, is_index_crowded, is_lasting, is_of, is_past_index, range_refusal}
use Rattle.kept_indexes.specs.declared.indexes.Kept.{Kept}
use Rattle.kept_indexes.specs.Kept.{entries, entry_of}

-- ---- the attribute

pub column_is : (c : Catalog) (class attribute : List ℕ) (n : ℕ) (k : ClassInfo) (found : Option ℕ) → number_of_class c class ≡ Some n →
    slice_get c.classes n ≡ Some k → attribute_place attribute k ≡ found →
    column c class attribute ≡ option_map (λ place. record { class = n; place = place }) found
column_is c class attribute n k found number there place =
    ap (option_and_then (column_in c.classes attribute)) number
    ∙ ap (λ (o : Option ClassInfo). option_map (λ place. record { class = n; place = place }) (option_and_then (attribute_place attribute) o)) there
    ∙ ap (option_map (λ place. record { class = n; place = place })) place

-- ---- its index

pub within : (kept : List Kept) (at : IndexedColumn) (place : ℕ) → position (is_of at) (entries kept) ≡ Some place → place < length kept
within kept at place found =
    let d : IndexEntry = record { grid = record { class = 0; attribute = 0; from = 0; width = pos 0 }; seen = 0 } in
    let below = (position-Some (is_of at) (entries kept) place d found).0 in
    let count = length-map kept entry_of in
    omega (arith, below, count)

pub index_there : (kept : List Kept) (at : IndexedColumn) (place : ℕ) (d : Kept) → position (is_of at) (entries kept) ≡ Some place →
    entry_at_column (entries kept) at ≡ Some (entry_of (get_or kept place d))
index_there kept at place d found =
    find_is (is_of at) (entries kept)
    ∙ ap (option_and_then (slice_get (entries kept))) found
    ∙ slice_get-map entry_of kept place
    ∙ ap (option_map entry_of) (slice_get-get_or kept place d (within kept at place found))

pub no_index : (kept : List Kept) (at : IndexedColumn) → position (is_of at) (entries kept) ≡ None → entry_at_column (entries kept) at ≡ None
no_index kept at none = find_is (is_of at) (entries kept) ∙ ap (option_and_then (slice_get (entries kept))) none

same_none : (o : Option ℕ) (kept : List Kept) (at : IndexedColumn) → position (is_of at) (entries kept) ≡ o → is_none o ≡ is_none (entry_at_column (entries kept) at)
same_none None kept at is = ap is_none (sym (no_index kept at is))
same_none (Some place) [] at is = absurd (let below = within [] at place is in omega (arith, below))
same_none (Some place) (k ∷ kept) at is = ap is_none (sym (index_there (k ∷ kept) at place k is))

flipped : (o : Option ℕ) (none : Bool) → is_some o ≡ not none → none ≡ is_none o
flipped None true is = refl
flipped None false is = absurd (false≢true is)
flipped (Some n) true is = absurd (false≢true (sym is))
flipped (Some n) false is = refl

pub crowded : (kept : List Kept) (at : IndexedColumn) (o : Option ℕ) (none : Bool) → nat_le INDEX_LIMIT (length kept) ≡ true → o ≡ position (is_of at) (entries kept) →
    is_some o ≡ not none → none ≡ is_index_crowded (entries kept) at
crowded kept at o none many place is =
    flipped o none is ∙ same_none o kept at (sym place)
    ∙ ap (λ b. b && is_none (entry_at_column (entries kept) at)) (sym (ap (nat_le INDEX_LIMIT) (length-map kept entry_of) ∙ many))

-- ---- what refuses a range

by_index : (c : Catalog) (indexes : List IndexEntry) (now span : ℕ) (class attribute : List ℕ) (at : IndexedColumn) (found : Option IndexEntry) →
    column c class attribute ≡ Some at → entry_at_column indexes at ≡ found →
    range_refusal now span (index_named c indexes class attribute) ≡ range_refusal now span found
by_index c indexes now span class attribute at found is there =
    ap (range_refusal now span) (ap (option_and_then (entry_at_column indexes)) is ∙ there)

pub unknown_range : (c : Catalog) (kept : List Kept) (now span : ℕ) (class attribute : List ℕ) (at : IndexedColumn) → column c class attribute ≡ Some at →
    position (is_of at) (entries kept) ≡ None →
    range_refusal now span (index_named c (entries kept) class attribute) ≡ Some refusals.UnknownName
unknown_range c kept now span class attribute at is none = by_index c (entries kept) now span class attribute at None is (no_index kept at none)

pub range_refused : (c : Catalog) (kept : List Kept) (now span : ℕ) (class attribute : List ℕ) (at : IndexedColumn) (place : ℕ) (k : Kept) →
    column c class attribute ≡ Some at → position (is_of at) (entries kept) ≡ Some place → (past : Bool) → is_past_index now span (entry_of (get_or kept place k)) ≡ past →
    range_refusal now span (index_named c (entries kept) class attribute) ≡ first_that_holds ((refusals.SpanRange, past) ∷ [])
range_refused c kept now span class attribute at place k is found past fits =
    by_index c (entries kept) now span class attribute at (Some (entry_of (get_or kept place k))) is (index_there kept at place k found)
    ∙ ap (λ b. first_that_holds ((refusals.SpanRange, b) ∷ [])) fits

pub none_is : (o : Option ℕ) → ((n : ℕ) → o ≡ Some n → ⊥) → o ≡ None
none_is None other = refl
none_is (Some n) other = absurd (other n refl)
