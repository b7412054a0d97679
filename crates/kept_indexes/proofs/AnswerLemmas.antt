-- A range is answered by the index at its place.
use Rattle.std.proofs.Common.{◌≡◌, ℕ, ◌+◌, ◌<◌, ◌≤◌, Bool, true, false, ◌&&◌, Option, None, Some, List, [], ◌∷◌, ◌++◌, length, map, get_or, set, refl, sym, ap, subst, ◌∙◌, arith}
use Rattle.std.specs.Prelude.{◌==◌}
use Rattle.std.specs.List.{position}
use Rattle.std.specs.Option.{option_and_then, option_map_or}
use Rattle.std.proofs.Math.ListN.{get_or-map}
use Rattle.std.proofs.Math.Seq.{map-set_same}
use Rattle.std.proofs.lemmas.Bool.{and_parts}
use Rattle.std.proofs.lemmas.Bool.Decides.{nat_tests}
use Rattle.std.proofs.lemmas.List.{map-set}
use Rattle.std.proofs.lemmas.List.Elements.{All-set}
use Rattle.std.proofs.lemmas.List.Quantifiers.{position-Some}
use Rattle.history.specs.World.{World}
use Rattle.meaning.specs.Answer.{answer}
use Rattle.object_store.specs.Contents.{Contents, catalog_of}
use Rattle.plane.specs.Rows.{range_query}
use Rattle.command_text.specs.Journal.{Accepted, clock}
use Rattle.line_meaning.specs.Answering.{answer_lines}
use Rattle.line_meaning.specs.Indexed.{IndexEntry, IndexedColumn, column, entry_at_column, index_fault, index_named, is_of, is_past_index, range_refusal, rows_ranged, with_index}
use Rattle.line_meaning.specs.Journal.{world}
use Rattle.line_meaning.specs.Judging.{all_after}
use Rattle.line_meaning.specs.Looks.{looks_in_range, most_looks}
use Rattle.line_meaning.specs.Reply.{rows_text}
use Rattle.database.specs.declared.database.Database.{Database}
use Rattle.database.specs.Keeping.{Keeps, clock_of, world_of_database}
use Rattle.kept_indexes.specs.declared.asking.Range.{Range}
use Rattle.kept_indexes.specs.declared.indexes.Kept.{Kept}
use Rattle.kept_indexes.specs.Kept.{AreIndexes, IsRight, entries, entry_of}
use Rattle.kept_indexes.specs.Making.{IsPlace, holding, range_command}
use Rattle.kept_indexes.proofs.FindLemmas.{index_there, range_refused, within}

module _ (journal : List Accepted) (d : Database) (keeps : Keeps journal d) (kept : List Kept) (r : Range) (place : ℕ) (k : Kept)
    (is : IsPlace kept d r place) (there : k ≡ get_or kept place k) where
  below : place < length kept
  below = within kept is.at place is.found

  fits : is_past_index d.clock r.span (entry_of (get_or kept place k)) ≡ false
  fits = is.fits k below

  pub not_refused : index_fault (entries kept) (world journal) (clock journal) (range_command r) ≡ None
  not_refused =
      (λ i. index_fault (entries kept) (sym keeps.told_is i) (sym keeps.clock_is i) (range_command r))
      ∙ range_refused (catalog_of d.store) kept d.clock r.span r.class.now r.attr.now is.at place k is.column is.found false fits

  column_told : column (world journal).history.catalog r.class.now r.attr.now ≡ Some is.at
  column_told = ap (λ (w : World). column w.history.catalog r.class.now r.attr.now) (sym keeps.told_is) ∙ is.column

  index_is : entry_at_column (entries kept) is.at ≡ Some (entry_of k)
  index_is = index_there kept is.at place k is.found ∙ ap (λ (x : Kept). Some (entry_of x)) (sym there)

  pub looks_are : looks_in_range journal r.span r.least r.greatest (entry_of k) ≡ most_looks (holding journal kept) (range_command r)
  looks_are =
      sym (ap (λ o. option_map_or (looks_in_range journal r.span r.least r.greatest) o 0)
      (ap (option_and_then (entry_at_column (entries kept))) column_told ∙ index_is))

  -- it is of the attribute
  its : (entry_of k).grid.class ≡ is.at.class
  its =
      let found = (position-Some (is_of is.at) (entries kept) place (entry_of k) is.found).1 in
      let same : get_or (entries kept) place (entry_of k) ≡ entry_of k = get_or-map entry_of kept place k ∙ ap entry_of (sym there) in
      let both = and_parts ((entry_of k).grid.class == is.at.class) ((entry_of k).grid.attribute == is.at.place) (ap (is_of is.at) (sym same) ∙ found) in
      let e = both.0 in
      grind (arith, nat_tests, e)

  its_place : (entry_of k).grid.attribute ≡ is.at.place
  its_place =
      let found = (position-Some (is_of is.at) (entries kept) place (entry_of k) is.found).1 in
      let same : get_or (entries kept) place (entry_of k) ≡ entry_of k = get_or-map entry_of kept place k ∙ ap entry_of (sym there) in
      let both = and_parts ((entry_of k).grid.class == is.at.class) ((entry_of k).grid.attribute == is.at.place) (ap (is_of is.at) (sym same) ∙ found) in
      let e = both.1 in
      grind (arith, nat_tests, e)

  pub rows_are : answer (world journal) (range_query k.index.grid.class k.index.grid.attribute r.least r.greatest) (clock journal) (clock journal + r.span)
      ≡ rows_ranged (world journal) (clock journal) r.span r.class.now r.attr.now r.least r.greatest
  rows_are =
      (λ i. answer (world journal) (range_query (its i) (its_place i) r.least r.greatest) (clock journal) (clock journal + r.span))
      ∙ sym (ap (λ o. option_map_or (λ at. answer (world journal) (range_query at.class at.place r.least r.greatest) (clock journal) (clock journal + r.span)) o []) column_told)

  pub entries_stay : (e : Kept) → entry_of e ≡ entry_of k → entries (set kept place e) ≡ entries kept
  entries_stay e same = map-set_same entry_of kept place e k (same ∙ ap entry_of there)

  pub entries_seen : (e : Kept) → entry_of e ≡ record (entry_of k) { seen = length journal } →
      entries (set kept place e) ≡ (all_after (holding journal kept) (range_command r)).indexes
  entries_seen e same =
      let new : IndexEntry = record (entry_of k) { seen = length journal } in
      map-set entry_of kept place e
      ∙ ap (set (entries kept) place) same
      ∙ sym (ap (λ o. option_map_or (λ i. set (entries kept) i new) o (entries kept ++ new ∷ [])) is.found)
      ∙ sym (ap (λ o. option_map_or (λ at. option_map_or (λ e. with_index (entries kept) at (record e { seen = length journal })) (entry_at_column (entries kept) at) (entries kept)) o (entries kept)) column_told
      ∙ ap (λ o. option_map_or (λ e. with_index (entries kept) is.at (record e { seen = length journal })) o (entries kept)) index_is)

  pub indexes_right : (e : Kept) → IsRight journal d.store e → AreIndexes journal d.store kept → AreIndexes journal d.store (set kept place e)
  indexes_right e right are = record { begun = are.begun; right = All-set (IsRight journal d.store) kept place e right are.right }
