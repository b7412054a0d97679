-- The objects at one place of the keys of rows.
use Rattle.std.specs.Prelude.{◌≡◌, ◌≤◌, ◌<◌, ◌==◌, ℕ, true, false, List, ◌++◌, map, nat_lt, slice_index, Option, Some, None}
use Rattle.std.specs.List.{list_all}
use Rattle.relation.specs.declared.row.Row.{Row}
use Rattle.relation.specs.Key.{has_id}

-- the object at a place of a row's key
abbrev pub id_at : {S : Type 0} → ℕ → Row S → ℕ
id_at place r = slice_index r.key place

abbrev pub ids_at : {S : Type 0} → ℕ → List (Row S) → List ℕ
ids_at place rows = map (id_at place) rows

-- the rows that have an object at a place, where the objects there rise
pub record IsGroup {S : Type 0} (place id : ℕ) (rows group : List (Row S)) : Type 0 where
  pub front : List (Row S)
  pub back : List (Row S)
  pub parts : rows ≡ front ++ (group ++ back)
  pub before : list_all (λ r. nat_lt (id_at place r) id) front ≡ true
  pub here : list_all (λ r. id_at place r == id) group ≡ true
  pub after : list_all (λ r. nat_lt id (id_at place r)) back ≡ true

-- the first number of a list that is at least `from`, if there is one
abbrev pub IsNextIn : List ℕ → ℕ → Option ℕ → Type 0
IsNextIn ids from None = (y : ℕ) → from ≤ y → has_id ids y ≡ false
IsNextIn ids from (Some x) = (from ≤ x) × (has_id ids x ≡ true) × ((y : ℕ) → from ≤ y → y < x → has_id ids y ≡ false)
