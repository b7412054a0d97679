-- An index is put among the others.
use Rattle.std.proofs.Common.{◌≡◌, ℕ, ◌<◌, ◌≤◌, ℤ, pos, ◌<ℤ◌, Option, None, Some, List, [], ◌∷◌, ◌++◌, length, map, set, refl, sym, ap, subst, ◌∙◌, inr, arith}
use Rattle.std.specs.List.{position}
use Rattle.std.specs.Option.{option_map_or}
use Rattle.std.proofs.lemmas.List.{map-append, map-set}
use Rattle.std.proofs.lemmas.List.Elements.{All-push, All-set}
use Rattle.object_store.specs.Contents.{Contents}
use Rattle.plane_index.specs.Index.{Index, IsIndexOf}
use Rattle.command_text.specs.Journal.{Accepted, clock}
use Rattle.line_meaning.specs.Indexed.{IndexEntry, IndexedColumn, is_of, with_index}
use Rattle.kept_indexes.specs.declared.indexes.Kept.{Kept}
use Rattle.kept_indexes.specs.Kept.{AreRight, IsRight, entries, entry_of}
use Rattle.kept_indexes.specs.Making.{IsPut}

pub put_in : (at : IndexedColumn) (one : Kept) (kept : List Kept) (place : ℕ) → position (is_of at) (entries kept) ≡ Some place →
    IsPut at one kept (set kept place one)
put_in at one kept place found = record {
  entries =
      map-set entry_of kept place one
      ∙ sym (ap (λ (o : Option ℕ). option_map_or (λ i. set (entries kept) i (entry_of one)) o (entries kept ++ entry_of one ∷ [])) found);
  right = λ journal s all right. All-set (IsRight journal s) kept place one right all;
}

pub put_last : (at : IndexedColumn) (one : Kept) (kept : List Kept) → position (is_of at) (entries kept) ≡ None →
    IsPut at one kept (kept ++ one ∷ [])
put_last at one kept none = record {
  entries =
      map-append entry_of kept (one ∷ [])
      ∙ sym (ap (λ (o : Option ℕ). option_map_or (λ i. set (entries kept) i (entry_of one)) o (entries kept ++ entry_of one ∷ [])) none);
  right = λ journal s all right. All-push (IsRight journal s) kept one all right;
}

-- a new one is right: it has seen no object, and all are told to be stale
pub new_right : (journal : List Accepted) (s : Contents) (index : Index) → index.grid.from ≡ clock journal → IsIndexOf s index →
    IsRight journal s (record { index = index; seen = 0 })
new_right journal s index from of = record {
  begun = omega (arith, from);
  seen = omega arith;
  of_store = of;
  known = λ id its. inr refl;
}
