-- The sets of rows under other keys.
use Rattle.std.specs.Prelude.{◌≡◌, ⊤, ℕ, Bool, true, false, ◌&&◌, ◌||◌, List, [], ◌∷◌, Option, Some, None, slice_get}
use Rattle.std.specs.List.{list_any, list_all}
use Rattle.std.specs.Str.{bytes_eq}
use Rattle.tick_set.specs.Ticks.{LiesIn}
use Rattle.relation.specs.declared.entries.Entry.{Entry}
use Rattle.relation.specs.declared.row.Row.{Row}
use Rattle.relation.specs.Key.{key_below, key_in}
use Rattle.relation.specs.Rows.{IsSameHead, Table, has_at}

-- whether a row, if there is one, has the tick
abbrev pub optional_row_has : {S : Type 0} → (S → ℕ → Bool) → Option (Row S) → ℕ → Bool
optional_row_has member None t = false
optional_row_has member (Some r) t = member r.set t

abbrev pub entry_has : {S : Type 0} → (S → ℕ → Bool) → List (Row S) → Entry → ℕ → Bool
entry_has member rows e t = optional_row_has member (slice_get rows e.place) t

-- whether one of the entries has the tick, and one of this key
abbrev pub any_has : {S : Type 0} → (S → ℕ → Bool) → List (Row S) → List Entry → ℕ → Bool
any_has member rows entries t = list_any (λ e. entry_has member rows e t) entries

abbrev pub entries_have : {S : Type 0} → (S → ℕ → Bool) → List (Row S) → List Entry → List ℕ → ℕ → Bool
entries_have member rows entries key t = list_any (λ e. bytes_eq e.key key && entry_has member rows e t) entries

-- an entry gives the variables objects of their domains, and has ticks of lo to hi alone
pub record IsEntry {S : Type 0} (member : S → ℕ → Bool) (rows : List (Row S)) (domains : List (List ℕ)) (vars : List ℕ) (lo hi : ℕ) (e : Entry) : Type 0 where
  pub inside : key_in domains vars e.key ≡ true
  pub lies : LiesIn lo hi (entry_has member rows e)

-- such entries, of which none has a key below that of an earlier one
abbrev pub AreEntries : {S : Type 0} → (S → ℕ → Bool) → List (Row S) → List (List ℕ) → List ℕ → ℕ → ℕ → List Entry → Type 0
AreEntries member rows domains vars lo hi [] = ⊤
AreEntries member rows domains vars lo hi (e ∷ rest) =
    IsEntry member rows domains vars lo hi e
    × (list_all (λ f. bytes_eq e.key f.key || key_below e.key f.key) rest ≡ true)
    × AreEntries member rows domains vars lo hi rest

-- all keys of rows are below those of entries
abbrev pub IsBefore : {S : Type 0} → List (Row S) → List Entry → Type 0
IsBefore rows entries = list_all (λ e. list_all (λ r. key_below r.key e.key) rows) entries ≡ true

-- each key has the ticks of its entries besides those from before
pub record HasGathered {S : Type 0} (member : S → ℕ → Bool) (rows : List (Row S)) (entries : List Entry) (old new : Table S) : Type 0 where
  pub head : IsSameHead old new
  pub ticks : (key : List ℕ) (t : ℕ) → has_at member new.rows key t ≡ (has_at member old.rows key t || entries_have member rows entries key t)
