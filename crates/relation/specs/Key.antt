-- Keys: the objects of a list of variables, in the order of the variables.
use Rattle.std.specs.Prelude.{◌≤◌, ℕ, Bool, true, false, ◌&&◌, ◌||◌, ◌==◌, nat_lt, List, [], ◌∷◌, length, slice_index_or}
use Rattle.std.specs.List.{list_any, list_all}
use Rattle.std.specs.List.Sorted.{IsStrictlyIncreasing}
use Rattle.formula_shape.specs.declared.limits.TheConstants.{OBJECT_LIMIT}

-- whether a number is in a list
abbrev pub has_id : List ℕ → ℕ → Bool
has_id ids id = list_any (λ i. i == id) ids

-- the objects of a variable
abbrev pub ids_of_variable : List (List ℕ) → ℕ → List ℕ
ids_of_variable domains var = slice_index_or domains var []

-- what each list of domains is: it has few, and each of them ascends
pub record AreDomains (domains : List (List ℕ)) : Type 0 where
  pub few : length domains ≤ OBJECT_LIMIT
  pub ascending : (var : ℕ) → IsStrictlyIncreasing (ids_of_variable domains var)

-- whether each variable has a domain
abbrev pub are_known : List (List ℕ) → List ℕ → Bool
are_known domains vars = list_all (λ var. nat_lt var (length domains)) vars

-- whether a key has for each variable an object of its domain, and no more
abbrev pub key_in : List (List ℕ) → List ℕ → List ℕ → Bool
key_in domains [] [] = true
key_in domains [] (id ∷ ids) = false
key_in domains (var ∷ vars) [] = false
key_in domains (var ∷ vars) (id ∷ ids) = has_id (ids_of_variable domains var) id && key_in domains vars ids

-- whether the first object that differs is the smaller one: a key then comes before the other and all that continue it
abbrev pub key_below : List ℕ → List ℕ → Bool
key_below [] key = false
key_below (x ∷ xs) [] = false
key_below (x ∷ xs) (y ∷ ys) = nat_lt x y || (x == y && key_below xs ys)
