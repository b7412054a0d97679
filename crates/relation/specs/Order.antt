-- The keys over variables, in ascending order.
use Rattle.std.specs.Prelude.{ℕ, Bool, List, [], ◌∷◌, map}
use Rattle.std.specs.List.{flat_map, list_any}
use Rattle.std.specs.Str.{bytes_eq}
use Rattle.relation.specs.declared.row.Row.{Row}
use Rattle.relation.specs.Key.{ids_of_variable}

-- every key that has for each variable an object of its domain, those of the first object first, and so on
abbrev pub keys_over : List (List ℕ) → List ℕ → List (List ℕ)
keys_over domains [] = [] ∷ []
keys_over domains (var ∷ vars) = flat_map (λ id. map (λ later. id ∷ later) (keys_over domains vars)) (ids_of_variable domains var)

-- whether there is a row of the key
abbrev pub has_row : {S : Type 0} → List (Row S) → List ℕ → Bool
has_row rows key = list_any (λ r. bytes_eq r.key key) rows
